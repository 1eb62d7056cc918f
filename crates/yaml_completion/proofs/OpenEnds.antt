-- Where the text ends within a flow, closing brackets may follow on one line more.
use Rattle.std.proofs.Common.{◌≡◌, ℕ, ◌+◌, List, [], ◌∷◌, ◌++◌, length, true, refl, sym, ap, ◌∙◌, inl, inr, append-nil}
use Rattle.std.proofs.lemmas.Bool.{cases_Bool}
use Rattle.yaml_scan.specs.Bytes.{is_white}
use Rattle.yaml_scan.specs.Lines.{is_passed, ends}
use Rattle.yaml_small.specs.Places.{At, over, next_at, flow_next, is_end}
use Rattle.yaml_small.specs.MarkLaws.{both}
use Rattle.yaml_completion.proofs.Along.{if_true, if_false, parted, is_solid, solid_white, solid_over, passes, white_ends, gone_over}
use Rattle.yaml_completion.proofs.Contents.{place}
use Rattle.yaml_completion.proofs.Tokens.{token_of, token_stands, token_passed}

no_rest : (a : At) (line : List ℕ) → a.line ≡ line → is_end a ≡ true → line ≡ []
no_rest a [] is end = refl
no_rest a (c ∷ cs) is end = absurd (both (is_end a) end (ap (λ (l : List ℕ). is_end (place 0 l [])) is))

-- a line more behind lines without a token
token_more : (lines : List (List ℕ)) (r : List ℕ) → is_end (token_of lines) ≡ true → is_solid r ≡ true → token_of (lines ++ (r ∷ [])) ≡ place 0 r []
token_more [] r end solid = token_stands [] r [] refl (solid_white r solid) (passes [] r refl (solid_white r solid) ∙ solid_over r solid)
token_more (l ∷ ls) r end solid =
    elim (cases_Bool (is_passed l)) [
      | inl passed ↦ token_passed l passed (ls ++ (r ∷ [])) ∙ token_more ls r (sym (ap is_end (token_passed l passed ls)) ∙ end) solid
      | inr stands ↦
          let p = parted is_white l in
          let here : token_of (l ∷ ls) ≡ place (length p.front) p.rest ls =
          ap (λ (x : List ℕ). token_of (x ∷ ls)) p.is ∙ token_stands p.front p.rest ls p.all p.stop (sym (ap is_passed p.is) ∙ stands) in
          let none = no_rest (token_of (l ∷ ls)) p.rest (ap (λ (x : At). x.line) here) end in
          absurd (both (is_passed l) (ap is_passed (p.is ∙ ap (λ (x : List ℕ). p.front ++ x) none) ∙ passes p.front [] p.all refl) stands)
    ]

-- where no token follows the line has ended
pub line_over : (a : At) → is_end (flow_next a) ≡ true → ends a.line ≡ true
unfolding flow_next
line_over a end =
    elim (cases_Bool (ends a.line)) [
      | inl ended ↦ ended
      | inr more ↦
          let p = parted is_white a.line in
          let here : flow_next a ≡ place (a.col + length p.front) p.rest a.later =
          ap over (if_false (ends a.line) (next_at a.later) a more) ∙ ap (λ (l : List ℕ). over (place a.col l a.later)) p.is ∙ gone_over a.col p.front p.rest a.later p.all p.stop in
          let none = no_rest (flow_next a) p.rest (ap (λ (x : At). x.line) here) end in
          ap ends (p.is ∙ ap (λ (x : List ℕ). p.front ++ x) none ∙ append-nil p.front) ∙ white_ends p.front p.all
    ]

-- the place with a line more
abbrev pub with_line : List ℕ → At → At
with_line r a = place a.col a.line (a.later ++ (r ∷ []))

pub next_more : (a : At) (r : List ℕ) → is_end (flow_next a) ≡ true → is_solid r ≡ true → flow_next (with_line r a) ≡ place 0 r []
unfolding flow_next
next_more a r end solid =
    let ended = line_over a end in
    let none : is_end (token_of a.later) ≡ true = sym (ap (λ (x : At). is_end (over x)) (if_true (ends a.line) (next_at a.later) a ended)) ∙ end in
    ap over (if_true (ends a.line) (next_at (a.later ++ (r ∷ []))) (with_line r a) ended) ∙ token_more a.later r none solid
