-- What is known of comparators in a row.
use Rattle.std.proofs.Common.{◌≡◌, ℕ, List, [], ◌∷◌, ◌++◌, codes, refl, ◌∙◌}
use Rattle.std.proofs.lemmas.List.{append-nil, append_assoc}
use Rattle.semver.specs.Parse.{Held}
use Rattle.warg_names.specs.Texts.{comparator_text, following}

-- one more comparator stands behind the others
pub following_push : (cs : List Held) (c : Held) → following (cs ++ c ∷ []) ≡ following cs ++ (codes " " ++ comparator_text c)
unfolding following
following_push [] c = rw (append-nil (comparator_text c)) refl
following_push (d ∷ cs) c = rw (following_push cs c, append_assoc (comparator_text d) (following cs) (codes " " ++ comparator_text c)) refl

-- one text behind the other
pub in_a_row : (a b d e : List ℕ) → ((a ++ b) ++ d) ++ e ≡ a ++ (b ++ (d ++ e))
in_a_row a b d e = append_assoc (a ++ b) d e ∙ append_assoc a b (d ++ e)
