-- The next token of a flow, when another one stands there.
use Rattle.std.proofs.Common.{◌≡◌, ℕ, ◌+◌, List, [], ◌∷◌, ◌++◌, drop, length, true, false, eqb, refl, sym, ap, ◌∙◌, subst, inl, inr, append_assoc, length-append}
use Rattle.std.proofs.lemmas.Bool.{cases_Bool, eqb-true}
use Rattle.yaml_scan.specs.Bytes.{is_space, is_white, spaces}
use Rattle.yaml_scan.specs.Lines.{is_passed, ends}
use Rattle.yaml_small.specs.Places.{At, over, next_at, flow_next, begins}
use Rattle.yaml_small.specs.GrowthLaws.{the_end}
use Rattle.yaml_small.specs.MarkLaws.{and_parts, not_so, both}
use Rattle.yaml_completion.proofs.Along.{if_true, if_false, joined, Along, ahead, all_of, stops, parted, solid_white, white_space, solid_over, passes, not_ended, gone_over}
use Rattle.yaml_completion.proofs.Contents.{Instead, Reads, place, next_end, next_passed, next_stands, spaced, not_end, passed_on, Below, below_line}
use Rattle.yaml_completion.proofs.Scans.{low, white_low, first_of, Looks, looks_same, looks_far}
use Rattle.yaml_completion.proofs.ScalarTokens.{white_free}

-- the first token of lines
abbrev pub token_of : List (List ℕ) → At
token_of lines = over (next_at lines)

all_split : (s t : List ℕ) → all_of is_white (s ++ t) ≡ true → all_of is_white t ≡ true
all_split [] t all = all
all_split (c ∷ s) t all = all_split s t (and_parts (is_white c) (all_of is_white (s ++ t)) all).1

stops_behind : (t r : List ℕ) → stops is_space t ≡ true → stops is_space r ≡ true → stops is_space (t ++ r) ≡ true
stops_behind [] r stop other = other
stops_behind (c ∷ t) r stop other = stop

-- a token behind white space
pub token_stands : (v r : List ℕ) (ls : List (List ℕ)) → all_of is_white v ≡ true → stops is_white r ≡ true → is_passed (v ++ r) ≡ false → token_of ((v ++ r) ∷ ls) ≡ place (length v) r ls
token_stands v r ls all stop here =
    let p = parted is_space v in
    let rest = all_split p.front p.rest (sym (ap (all_of is_white) p.is) ∙ all) in
    let line : v ++ r ≡ p.front ++ (p.rest ++ r) = ap (λ (x : List ℕ). x ++ r) p.is ∙ append_assoc p.front p.rest r in
    let size : length p.front + length p.rest ≡ length v = sym (length-append p.front p.rest) ∙ sym (ap length p.is) in
    ap over (next_stands (v ++ r) here ls)
    ∙ ap (λ (l : List ℕ). over (place (spaces l) (drop (spaces l) l) ls)) line
    ∙ ap over (spaced p.front (p.rest ++ r) ls p.all (stops_behind p.rest r p.stop (white_space r stop)))
    ∙ gone_over (length p.front) p.rest r ls rest stop
    ∙ ap (λ (n : ℕ). place n r ls) size

pub token_passed : (l : List ℕ) → is_passed l ≡ true → (ms : List (List ℕ)) → token_of (l ∷ ms) ≡ token_of ms
token_passed l e ms = ap over (next_passed l e ms)

token_end : token_of [] ≡ the_end
token_end = ap over next_end

first_token : (v r : List ℕ) (ls : List (List ℕ)) (d : At) → all_of is_white v ≡ true → stops is_white r ≡ true → is_passed (v ++ r) ≡ false → Instead (token_of ((v ++ r) ∷ ls)) d → Reads token_of ((v ++ r) ∷ ls) d
first_token v r ls d all stop here other =
    let b = token_stands v r ls all stop here in
    let solid = solid_white d.line other.other in
    record {
      others = (v ++ d.line) ∷ d.later;
      to = token_stands v d.line d.later all solid (passes v d.line all solid ∙ solid_over d.line other.other) ∙ ap (λ (n : ℕ). place n d.line d.later) (sym (other.col ∙ ap (λ (x : At). x.col) b));
      same = record {
        before = [];
        front = v;
        lines_are = subst (λ (x : At). (v ++ r) ∷ ls ≡ joined [] v x) (sym b) refl;
        others_are = refl;
      };
    }

token_stood : (l : List ℕ) (ls : List (List ℕ)) (d : At) → is_passed l ≡ false → Instead (token_of (l ∷ ls)) d → Reads token_of (l ∷ ls) d
token_stood l ls d no_it other =
    let p = parted is_white l in
    subst (λ (x : List ℕ). Instead (token_of (x ∷ ls)) d → Reads token_of (x ∷ ls) d) (sym p.is)
    (first_token p.front p.rest ls d p.all p.stop (sym (ap is_passed p.is) ∙ no_it)) other

token_reads : (l : List ℕ) (ls : List (List ℕ)) (d : At) → Instead (token_of (l ∷ ls)) d → Reads token_of (l ∷ ls) d
token_reads l [] d other =
    elim (cases_Bool (is_passed l)) [
      | inl yes_it ↦ not_end (token_of (l ∷ [])) d (token_passed l yes_it [] ∙ token_end) other
      | inr no_it ↦ token_stood l [] d no_it other
    ]
token_reads l (m ∷ ms) d other =
    elim (cases_Bool (is_passed l)) [
      | inl yes_it ↦ passed_on token_of l (m ∷ ms) d (token_passed l yes_it) (token_reads m ms d (subst (λ (x : At). Instead x d) (token_passed l yes_it (m ∷ ms)) other))
      | inr no_it ↦ token_stood l (m ∷ ms) d no_it other
    ]

token_below : (a d : At) → Instead (token_of a.later) d → Below token_of a d
token_below a d other = from a.later refl
  where
    from : (ls : List (List ℕ)) → a.later ≡ ls → Below token_of a d
    from [] e = not_end (token_of a.later) d (ap token_of e ∙ token_end) other
    from (l ∷ ls) e = below_line token_of a d l ls e (token_reads l ls d (subst (λ (x : List (List ℕ)). Instead (token_of x) d) e other))

-- where a line ends stands no quote
pub ended_free : (line : List ℕ) → ends line ≡ true → begins 39 line ≡ false
ended_free [] e = refl
ended_free (c ∷ cs) e =
    not_so (eqb c 39) (λ is. both (is_white c) (and_parts (is_white c) (is_passed (c ∷ cs)) e).0 (ap is_white (eqb-true c 39 is)))

-- A token is replaced, behind a place.
pub record Token (a d : At) : Type 0 where
  pub at : At
  pub to : flow_next at ≡ d
  pub along : Along a (flow_next a) at d
  pub col : at.col ≡ a.col
  pub first : first_of d.line ≡ first_of (flow_next a).line → first_of at.line ≡ first_of a.line
  pub looks : Looks true (flow_next a).line d.line → Looks true a.line at.line
  pub free : begins 39 d.line ≡ false → begins 39 at.line ≡ false
  pub lows : low d.line ≡ true → low at.line ≡ true

pub ended_low : (line : List ℕ) → ends line ≡ true → low line ≡ true
ended_low [] e = refl
ended_low (c ∷ cs) e = white_low c (and_parts (is_white c) (is_passed (c ∷ cs)) e).0

low_far : (v t : List ℕ) → all_of is_white v ≡ true → low t ≡ true → low (v ++ t) ≡ true
low_far [] t all is = is
low_far (c ∷ v) t all is = white_low c (and_parts (is_white c) (all_of is_white v) all).0

first_far : (v r t : List ℕ) → first_of t ≡ first_of r → first_of (v ++ t) ≡ first_of (v ++ r)
first_far [] r t e = e
first_far (c ∷ v) r t e = refl

pub token_at : (a d : At) → Instead (flow_next a) d → Token a d
unfolding flow_next
token_at a d other =
    elim (cases_Bool (ends a.line)) [
      | inl ended ↦
          let here : flow_next a ≡ token_of a.later = ap over (if_true (ends a.line) (next_at a.later) a ended) in
          let b = token_below a d (subst (λ (x : At). Instead x d) here other) in
          let at = place a.col a.line b.others in
          record {
            at = at;
            to = ap over (if_true (ends a.line) (next_at b.others) at ended) ∙ b.to;
            along = subst (λ (x : At). Along a x at d) (sym here) b.along;
            col = refl;
            first = λ same. refl;
            looks = λ same. looks_same true a.line;
            free = λ none. ended_free a.line ended;
            lows = λ is. ended_low a.line ended;
          }
      | inr more ↦
          let p = parted is_white a.line in
          let here : flow_next a ≡ place (a.col + length p.front) p.rest a.later =
          ap over (if_false (ends a.line) (next_at a.later) a more) ∙ ap (λ (l : List ℕ). over (place a.col l a.later)) p.is ∙ gone_over a.col p.front p.rest a.later p.all p.stop in
          let at = place a.col (p.front ++ d.line) d.later in
          let line : a.line ≡ p.front ++ (flow_next a).line = p.is ∙ ap (λ (x : At). p.front ++ x.line) (sym here) in
          record {
            at = at;
            to = ap over (if_false (ends at.line) (next_at d.later) at (not_ended p.front d.line p.all other.other)) ∙ gone_over a.col p.front d.line d.later p.all (solid_white d.line other.other)
                ∙ ap (λ (n : ℕ). place n d.line d.later) (sym (other.col ∙ ap (λ (x : At). x.col) here));
            along = ahead p.front a (flow_next a) at d line (sym (ap (λ (x : At). x.later) here)) refl refl;
            col = refl;
            first = λ same. first_far p.front (flow_next a).line d.line same ∙ ap first_of (sym line);
            looks = λ same. subst (λ (x : List ℕ). Looks true x at.line) (sym line) (looks_far true p.front (flow_next a).line d.line same);
            free = λ none. white_free p.front d.line p.all none;
            lows = low_far p.front d.line p.all;
          }
    ]
