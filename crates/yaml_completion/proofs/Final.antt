-- Endings in a flow: a comma and the closing brackets.
use Rattle.std.proofs.Common.{◌≡◌, ℕ, ◌+◌, List, [], ◌∷◌, Bool, true, false, not, ◌&&◌, ◌||◌, eqb, ltb, refl, sym, ap, ◌∙◌, subst, inl, inr}
use Rattle.std.proofs.lemmas.Bool.{cases_Bool, eqb-true}
use Rattle.yaml_scan.specs.Bytes.{is_space, is_white, is_flow_mark, is_control, ends_mark}
use Rattle.yaml_scan.specs.Lines.{ends}
use Rattle.yaml_scan.specs.Plain.{parts, plain_len}
use Rattle.yaml_small.specs.Places.{At, over, next_at, flow_next, begins, is_end}
use Rattle.yaml_small.specs.MarkLaws.{and_parts, or_parts, not_so, both}
use Rattle.yaml_completion.proofs.Along.{not_true, if_false, not_ended, gone_over}
use Rattle.yaml_completion.proofs.Contents.{place, Parting, by_tab, by_line_end, by_nothing, comma_behind}
use Rattle.yaml_completion.proofs.Scans.{begins_low, low, white_low, low_control, Near, near_of, looks_same}
use Rattle.yaml_completion.proofs.Stops.{near_white, near_comma, near_tab, stop_control, control_ends, mark_unended}
use Rattle.yaml_completion.proofs.OpenEnds.{with_line, next_more}
use Rattle.yaml_completion.proofs.Endings.{solid_next}
use Rattle.yaml_completion.proofs.Texts.{no_feed, no_feeds}

-- where a plain scalar before them stays as it is
pub record FinalAt (rest : List ℕ) (a : At) : Type 0 where
  pub at : At
  pub col : ℕ
  pub to : flow_next at ≡ place col (44 ∷ rest) []
  pub same : at.col ≡ a.col
  pub free : begins 39 at.line ≡ false
  pub near : plain_len true false a.line ≡ 0 → Near true a.line at.line
  pub mark : plain_len true false a.line ≡ 0 → ends_mark at.line ≡ ends_mark a.line
  pub part : parts true at.line ≡ parts true a.line
  pub lows : low at.line ≡ true
  pub tidy : no_feed rest ≡ true → no_feeds (at.line ∷ at.later) ≡ true

white_next : (col x : ℕ) (rest : List ℕ) → is_white x ≡ true → flow_next (place col (x ∷ 44 ∷ rest) []) ≡ place (col + 1) (44 ∷ rest) []
unfolding flow_next
white_next col x rest e =
    let all : is_white x && true ≡ true = ap (λ (b : Bool). b && true) e in
    ap over (if_false (ends (x ∷ 44 ∷ rest)) (next_at []) (place col (x ∷ 44 ∷ rest) []) (not_ended (x ∷ []) (44 ∷ rest) all refl)) ∙ gone_over col (x ∷ []) (44 ∷ rest) [] all refl

nothing_ends : (col : ℕ) → is_end (flow_next (place col [] [])) ≡ true
unfolding flow_next next_at
nothing_ends col = refl

no_white_quote : (x : ℕ) → is_white x ≡ true → eqb x 39 ≡ false
no_white_quote x e = not_so (eqb x 39) (λ is. both (is_white x) e (ap is_white (eqb-true x 39 is)))

no_white_feed : (x : ℕ) → is_white x ≡ true → eqb x 10 ≡ false
no_white_feed x e = not_so (eqb x 10) (λ is. both (is_white x) e (ap is_white (eqb-true x 10 is)))

final_line : (rest : List ℕ) (a : At) (line : List ℕ) → a.line ≡ line → begins_low line ≡ true → FinalAt rest a
final_line rest a [] is small = record {
  at = with_line (44 ∷ rest) (place a.col [] []);
  col = 0;
  to = next_more (place a.col [] []) (44 ∷ rest) (nothing_ends a.col) refl;
  same = refl;
  free = refl;
  near = λ none. subst (λ (l : List ℕ). Near true l []) (sym is) (near_of true [] [] (looks_same true []));
  mark = λ none. ap ends_mark (sym is);
  part = ap (parts true) (sym is);
  lows = refl;
  tidy = λ clean. rw clean refl;
}
final_line rest a (x ∷ xs) is small =
    let low = and_parts (ltb x 160) (not (eqb x 58)) small in
    elim (cases_Bool (is_white x)) [
      | inl white ↦ record {
        at = place a.col (x ∷ 44 ∷ rest) [];
        col = a.col + 1;
        to = white_next a.col x rest white;
        same = refl;
        free = no_white_quote x white;
        near = λ none. subst (λ (l : List ℕ). Near true l (x ∷ 44 ∷ rest)) (sym is) (near_white true x xs (44 ∷ rest) white (λ w. refl) (sym (ap (plain_len true false) is) ∙ none));
        mark = λ none. ap (λ (b : Bool). b || is_control (x ∷ 44 ∷ rest)) white ∙ sym (ap ends_mark is ∙ ap (λ (b : Bool). b || is_control (x ∷ xs)) white);
        part = ap (parts true) (sym is);
        lows = white_low x white;
        tidy = λ clean. rw (no_white_feed x white, clean) refl;
      }
      | inr dark ↦ elim (cases_Bool (is_flow_mark x)) [
        | inl mark ↦ record {
          at = place a.col (44 ∷ rest) [];
          col = a.col;
          to = solid_next (place a.col (44 ∷ rest) []) refl;
          same = refl;
          free = refl;
          near = λ none. subst (λ (l : List ℕ). Near true l (44 ∷ rest)) (sym is) (near_comma x xs rest mark (sym (ap (plain_len true false) is) ∙ none));
          mark = λ none. low_control 44 rest refl ∙ sym (ap ends_mark is ∙ mark_unended x xs mark);
          part = sym (ap (parts true) is ∙ ap (λ (b : Bool). b || is_flow_mark x) (or_parts (is_space x) (eqb x 9) dark).0 ∙ mark);
          lows = refl;
          tidy = λ clean. rw clean refl;
        }
        | inr plain ↦ record {
          at = place a.col (9 ∷ 44 ∷ rest) [];
          col = a.col + 1;
          to = white_next a.col 9 rest refl;
          same = refl;
          free = refl;
          near = λ none. subst (λ (l : List ℕ). Near true l (9 ∷ 44 ∷ rest)) (sym is) (near_tab true x xs (44 ∷ rest) dark plain low.0 (λ w. refl) (sym (ap (plain_len true false) is) ∙ none));
          mark = λ none. sym (ap ends_mark is ∙ control_ends (x ∷ xs) (stop_control true x xs dark (ap (λ (b : Bool). b && parts true xs) (not_true (eqb x 58) low.1)) plain (sym (ap (plain_len true false) is) ∙ none)));
          part = sym (ap (parts true) is ∙ ap (λ (b : Bool). b || is_flow_mark x) (or_parts (is_space x) (eqb x 9) dark).0 ∙ plain);
          lows = refl;
          tidy = λ clean. rw clean refl;
        }
      ]
    ]

pub final_at : (rest : List ℕ) (a : At) → begins_low a.line ≡ true → FinalAt rest a
final_at rest a small = final_line rest a a.line refl small

-- a comma behind what parts it
pub comma_next : (p : Parting) (col : ℕ) (rest : List ℕ) → (n : ℕ) × (flow_next (comma_behind p col rest) ≡ place n (44 ∷ rest) [])
comma_next by_tab col rest = (col + 1, white_next col 9 rest refl)
comma_next by_line_end col rest = (0, next_more (place col [] []) (44 ∷ rest) (nothing_ends col) refl)
comma_next by_nothing col rest = (col, solid_next (place col (44 ∷ rest) []) refl)
