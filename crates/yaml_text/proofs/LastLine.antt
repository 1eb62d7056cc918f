-- One more byte of the last line.
use Rattle.std.proofs.Common.{◌≡◌, ℕ, List, [], ◌∷◌, ◌++◌, Bool, true, false, not, cond, ◌&&◌, ◌||◌, eqb, refl, ap, ◌∙◌}
use Rattle.std.specs.List.{list_any}
use Rattle.std.proofs.lemmas.List.Folds.{list_any-append}
use Rattle.yaml_text.specs.Texts.{is_feed, last_line, holds_text}

or_false : (a : Bool) → (a || false) ≡ a
or_false true = refl
or_false false = refl

or_true : (a : Bool) → (a || true) ≡ true
or_true true = refl
or_true false = refl

abbrev feeds : List ℕ → Bool
feeds xs = list_any is_feed xs

-- a line with a feed in it, and one with none, before a byte that is a feed or none
last_push : (x c : ℕ) (xs : List ℕ) (first some end : Bool) → eqb x 10 ≡ first → feeds xs ≡ some → eqb c 10 ≡ end
    → holds_text (last_line (xs ++ (c ∷ []))) ≡ not end && (holds_text (last_line xs) || not (eqb c 32))
    → holds_text (cond (first || (some || end)) (last_line (xs ++ (c ∷ []))) (x ∷ (xs ++ (c ∷ []))))
    ≡ not end && (holds_text (cond (first || some) (last_line xs) (x ∷ xs)) || not (eqb c 32))
last_push x c xs true some end e f g more = more
last_push x c xs false true end e f g more = more
last_push x c xs false false true e f g more = more
last_push x c xs false false false e f g more =
    list_any-append (λ d. not (eqb d 32)) (x ∷ xs) (c ∷ []) ∙ ap (λ (b : Bool). holds_text (x ∷ xs) || b) (or_false (not (eqb c 32)))

last_one : (c : ℕ) (end : Bool) → holds_text (cond (end || false) [] (c ∷ [])) ≡ not end && (false || not (eqb c 32))
last_one c true = refl
last_one c false = or_false (not (eqb c 32))

pub holds_push : (xs : List ℕ) (c : ℕ) → holds_text (last_line (xs ++ (c ∷ []))) ≡ not (eqb c 10) && (holds_text (last_line xs) || not (eqb c 32))
holds_push [] c = last_one c (eqb c 10)
holds_push (x ∷ xs) c =
    ap (λ (b : Bool). holds_text (cond (eqb x 10 || b) (last_line (xs ++ (c ∷ []))) (x ∷ (xs ++ (c ∷ [])))))
    (list_any-append is_feed xs (c ∷ []) ∙ ap (λ (b : Bool). feeds xs || b) (or_false (eqb c 10)))
    ∙ last_push x c xs (eqb x 10) (feeds xs) (eqb c 10) refl refl refl (holds_push xs c)
