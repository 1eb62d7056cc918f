-- Steps that first go to the next content, over white space or to the next token.
use Rattle.std.proofs.Common.{◌≡◌, ℕ, ◌+◌, List, [], ◌∷◌, ◌++◌, drop, Bool, true, false, not, cond, ◌&&◌, ◌||◌, eqb, Result, refl, sym, ap, ◌∙◌, subst}
use Rattle.yaml_scan.specs.Bytes.{is_space, is_white, is_gap, is_control, ends_mark, spaces, whites}
use Rattle.yaml_scan.specs.Lines.{ends}
use Rattle.yaml_small.specs.declared.state.Frame.{Frame}
use Rattle.yaml_small.specs.Places.{At, over, next_at, flow_next, begins, is_end, at_dots, is_dash}
use Rattle.yaml_small.specs.Scalars.{Fault}
use Rattle.yaml_small.specs.Step.{Transition}
use Rattle.std.proofs.lemmas.Bool.{eqb-true}
use Rattle.yaml_scan.specs.Lines.{is_dashes}
use Rattle.yaml_small.specs.MarkLaws.{and_parts}
use Rattle.yaml_completion.proofs.Along.{ahead, further, all_of, stops, counted, is_solid, solid_white, white_space, gone_over}
use Rattle.yaml_completion.proofs.Contents.{Instead, Ready, place, next_below, Spaced, spaced_at}
use Rattle.yaml_completion.proofs.Scans.{low_control}
use Rattle.yaml_completion.proofs.ScalarTokens.{ScalarTokenPlace, head_line}
use Rattle.yaml_completion.proofs.Blocks.{Alike}
use Rattle.yaml_completion.proofs.Tokens.{Token, token_at}
use Rattle.yaml_completion.proofs.Moves.{Moves, Gap, BehindDashes}

pub moves_next : (k : List Frame) (P Q : At → Type 0) (r : At → Result Transition Fault) (a : At) → Moves k P r (next_at a.later) → ((c : At) → P c → Ready (next_at a.later) c) → ((c : At) → c.line ≡ a.line → c.col ≡ a.col → Q c)
    → Moves k Q (λ c. r (next_at c.later)) a
moves_next k P Q r a m ready like = record {
  move = λ g e want.
      let n = m.move g e want in
      let b = next_below a n.at (ready n.at n.like) in
      record {
        at = place a.col a.line b.others;
        like = like (place a.col a.line b.others) refl refl;
        along = further a (next_at a.later) (place a.col a.line b.others) n.at g.at n.arrives.there b.along n.along;
        arrives = n.arrives;
        is = ap r b.to ∙ n.is;
      };
  consistent = m.consistent;
}

pub moves_over : (k : List Frame) (P Q : At → Type 0) (r : At → Result Transition Fault) (a : At) → Moves k P r (over a) → ((c : At) → P c → Instead (over a) c) → ((s : Spaced a) (c : At) → P c → Q (place a.col (s.front ++ c.line) c.later))
    → Moves k Q (λ c. r (over c)) a
moves_over k P Q r a m instead like = record {
  move = λ g e want.
      let n = m.move g e want in
      let s = spaced_at a in
      let i = instead n.at n.like in
      let c = place a.col (s.front ++ n.at.line) n.at.later in
      record {
        at = c;
        like = like s n.at n.like;
        along = further a (over a) c n.at g.at n.arrives.there (ahead s.front a (over a) c n.at s.line (sym s.later) refl refl) n.along;
        arrives = n.arrives;
        is = ap r (gone_over a.col s.front n.at.line n.at.later s.all (solid_white n.at.line i.other) ∙ ap (λ (x : ℕ). place x n.at.line n.at.later) (sym (i.col ∙ s.col))) ∙ n.is;
      };
  consistent = m.consistent;
}

pub moves_token : (k : List Frame) (P Q : At → Type 0) (r : At → Result Transition Fault) (a : At) → Moves k P r (flow_next a) → ((c : At) → P c → Instead (flow_next a) c) → ((c : At) (t : Token a c) → P c → Q t.at)
    → Moves k Q (λ c. r (flow_next c)) a
moves_token k P Q r a m instead like = record {
  move = λ g e want.
      let n = m.move g e want in
      let t = token_at a n.at (instead n.at n.like) in
      record {
        at = t.at;
        like = like n.at t n.like;
        along = further a (flow_next a) t.at n.at g.at n.arrives.there t.along n.along;
        arrives = n.arrives;
        is = ap r t.to ∙ n.is;
      };
  consistent = m.consistent;
}

-- a gap in front of other content
white_gap : (v r t : List ℕ) → all_of is_white v ≡ true → stops is_white r ≡ true → ends (v ++ r) ≡ false → is_gap (v ++ r) ≡ true → is_gap (v ++ t) ≡ true
white_gap [] [] t all stop more gap = absurd cc
white_gap [] (c ∷ cs) t all stop more gap =
    let e : stops is_white (32 ∷ cs) ≡ true = subst (λ (x : ℕ). stops is_white (x ∷ cs) ≡ true) (eqb-true c 32 gap) stop in absurd (off e)
  where
    off : false ≡ true → ⊥
    off e = absurd cc
white_gap (c ∷ v) r t all stop more gap = gap

pub gap_over : (a : At) (s : Spaced a) (c : At) → ends a.line ≡ false → Gap a (place a.col (s.front ++ c.line) c.later)
gap_over a s c more = record {
  col = refl;
  gap = λ gap. white_gap s.front (over a).line c.line s.all s.stop (sym (ap ends s.line) ∙ more) (sym (ap is_gap s.line) ∙ gap);
}

-- what ends a mark in front of other content
white_mark : (v r t : List ℕ) → all_of is_white v ≡ true → stops is_white r ≡ true → is_control r ≡ false → ends (v ++ r) ≡ false → ends_mark (v ++ r) ≡ true → ends_mark (v ++ t) ≡ true
white_mark [] [] t all stop clean more mark = absurd cc
white_mark [] (c ∷ cs) t all stop clean more mark = absurd (none (is_white c) (is_control (c ∷ cs)) stop clean mark)
  where
    none : (a b : Bool) → not a ≡ true → b ≡ false → a || b ≡ true → ⊥
    none true b p q e = absurd cc
    none false true p q e = absurd cc
    none false false p q e = absurd cc
white_mark (c ∷ v) r t all stop clean more mark = ap (λ (b : Bool). b || is_control (c ∷ (v ++ t))) (and_parts (is_white c) (all_of is_white v) all).0

pub dashes_over : (a : At) (s : Spaced a) (c : At) → is_control (over a).line ≡ false → ends a.line ≡ false → BehindDashes a (place a.col (s.front ++ c.line) c.later)
dashes_over a s c clean more = record {
  col = refl;
  mark = λ mark. white_mark s.front (over a).line c.line s.all s.stop clean (sym (ap ends s.line) ∙ more) (sym (ap ends_mark s.line) ∙ mark);
}

white_spaces : (v r t : List ℕ) → all_of is_white v ≡ true → stops is_white r ≡ true → stops is_white t ≡ true → spaces (v ++ t) ≡ spaces (v ++ r)
white_spaces [] r t all stop other = counted is_space [] t refl (white_space t other) ∙ sym (counted is_space [] r refl (white_space r stop))
white_spaces (c ∷ v) r t all stop other = ap (λ (n : ℕ). cond (is_space c) (1 + n) 0) (white_spaces v r t (and_parts (is_white c) (all_of is_white v) all).1 stop other)

-- the white space is spaces alone, or not
pub same_white : (a : At) (s : Spaced a) (t : List ℕ) → stops is_white t ≡ true → eqb (spaces (s.front ++ t)) (whites (s.front ++ t)) ≡ eqb (spaces a.line) (whites a.line)
same_white a s t other =
    rw (white_spaces s.front (over a).line t s.all s.stop other, counted is_white s.front t s.all other)
    (sym (ap (λ (l : List ℕ). eqb (spaces l) (whites l)) s.line ∙ ap (eqb (spaces (s.front ++ (over a).line))) (counted is_white s.front (over a).line s.all s.stop)))

-- places that look the same
pub alike_seq : (a c : At) → begins 91 a.line ≡ true → begins 91 c.line ≡ true → c.col ≡ a.col → Alike a c
alike_seq a c p q col =
    subst (λ (l : List ℕ). Alike (place a.col l a.later) c) (sym (head_line 91 a.line p))
    (subst (λ (n : ℕ). Alike (place a.col (91 ∷ drop 1 a.line) a.later) (place n c.line c.later)) (sym col)
    (subst (λ (l : List ℕ). Alike (place a.col (91 ∷ drop 1 a.line) a.later) (place a.col l c.later)) (sym (head_line 91 c.line q))
    (record { instead = record { col = refl; some = refl; other = refl }; dash = refl; dashes = refl; dots = refl; percent = refl; clean = low_control 91 (drop 1 a.line) refl })))

pub alike_map : (a c : At) → begins 123 a.line ≡ true → begins 123 c.line ≡ true → c.col ≡ a.col → Alike a c
alike_map a c p q col =
    subst (λ (l : List ℕ). Alike (place a.col l a.later) c) (sym (head_line 123 a.line p))
    (subst (λ (n : ℕ). Alike (place a.col (123 ∷ drop 1 a.line) a.later) (place n c.line c.later)) (sym col)
    (subst (λ (l : List ℕ). Alike (place a.col (123 ∷ drop 1 a.line) a.later) (place a.col l c.later)) (sym (head_line 123 c.line q))
    (record { instead = record { col = refl; some = refl; other = refl }; dash = refl; dashes = refl; dots = refl; percent = refl; clean = low_control 123 (drop 1 a.line) refl })))

gap_no_dashes : (t : List ℕ) → is_gap t ≡ true → is_dashes (45 ∷ t) ≡ false
gap_no_dashes [] e = refl
gap_no_dashes (c ∷ cs) e = rw (eqb-true c 32 e) refl

dash_line : (line : List ℕ) → is_dash line ≡ true → line ≡ 45 ∷ drop 1 line
dash_line [] e = absurd cc
dash_line (c ∷ cs) e = ap (λ (n : ℕ). n ∷ cs) (eqb-true c 45 (and_parts (eqb c 45) (is_gap cs) e).0)

pub dash_gap : (line : List ℕ) → is_dash line ≡ true → is_gap (drop 1 line) ≡ true
dash_gap [] e = absurd cc
dash_gap (c ∷ cs) e = (and_parts (eqb c 45) (is_gap cs) e).1

pub alike_dash : (a : At) (t : List ℕ) (later : List (List ℕ)) → is_dash a.line ≡ true → is_gap t ≡ true → Alike a (place a.col (45 ∷ t) later)
alike_dash a t later dash gap =
    let old = dash_gap a.line dash in
    subst (λ (l : List ℕ). Alike (place a.col l a.later) (place a.col (45 ∷ t) later)) (sym (dash_line a.line dash))
    (record {
      instead = record { col = refl; some = refl; other = refl };
      dash = gap ∙ sym old;
      dashes = ap (λ (b : Bool). eqb a.col 0 && b) (gap_no_dashes t gap ∙ sym (gap_no_dashes (drop 1 a.line) old));
      dots = refl;
      percent = refl;
      clean = low_control 45 (drop 1 a.line) refl;
    })

solid_line : (line : List ℕ) (a : At) → a.line ≡ line → is_solid line ≡ true → is_end a ≡ false
solid_line [] a is e = absurd cc
solid_line (c ∷ cs) a is e = ap (λ (l : List ℕ). is_end (place a.col l a.later)) is

pub solid_some : (a : At) → is_solid a.line ≡ true → is_end a ≡ false
solid_some a e = solid_line a.line a refl e

pub alike_scalar_tokens : (a c : At) → ScalarTokenPlace a → ScalarTokenPlace c → c.col ≡ a.col → Alike a c
alike_scalar_tokens a c p q col = record {
  instead = record { col = col; some = solid_some a p.solid; other = q.solid };
  dash = q.dash ∙ sym p.dash;
  dashes = q.dashes ∙ sym p.dashes;
  dots = q.dots ∙ sym p.dots;
  percent = q.percent ∙ sym p.percent;
  clean = p.clean;
}

pub alike_line : (a c : At) → is_solid a.line ≡ true → is_control a.line ≡ false → c.line ≡ a.line → c.col ≡ a.col → Alike a c
alike_line a c solid clean line col = record {
  instead = record { col = col; some = solid_some a solid; other = ap is_solid line ∙ solid };
  dash = ap is_dash line;
  dashes = ap (λ (n : ℕ). eqb n 0 && is_dashes c.line) col ∙ ap (λ (l : List ℕ). eqb a.col 0 && is_dashes l) line;
  dots = ap (λ (n : ℕ). at_dots (place n c.line c.later)) col ∙ ap (λ (l : List ℕ). at_dots (place a.col l c.later)) line;
  percent = ap (begins 37) line;
  clean = clean;
}
