-- What is known of things that are compared, and of sets of them.
use Rattle.std.proofs.Common.{◌≡◌, Bool, true, false, cond, List, [], ◌∷◌, ◌++◌, refl, sym, ◌∙◌}
use Rattle.std.specs.Prelude.{◌||◌, ◌&&◌, ◌==◌}
use Rattle.std.specs.Ordering.{nat_cmp, bool_cmp, ordering_then, is_eq}
use Rattle.std.specs.Cmp.{both_tied, nat_eq_equiv, unsigned_ties}
use Rattle.std.specs.BTreeSet.{BTreeSet, Updates}
use Rattle.std.proofs.lemmas.Bool.{and_parts, eqb-true}
use Rattle.std.proofs.lemmas.List.Folds.{list_any-append}
use Rattle.comp_entity.specs.Fits.{same_truth}
use Rattle.compose_left.specs.declared.spots.Thing.{Thing}
use Rattle.compose_left.specs.Origins.{same_thing}
use Rattle.compose_left.specs.Wired.{thing_cmp}
use Rattle.compose_needs.specs.Mentioned.{has}
use Rattle.compose_needs.specs.Seen.{Holds}

same_truths : (a b : Bool) → same_truth a b ≡ true → a ≡ b
same_truths true true e = refl
same_truths true false e = absurd cc
same_truths false true e = absurd cc
same_truths false false e = refl

pub same_things : (a b : Thing) → same_thing a b ≡ true → a ≡ b
same_things a b e =
    let parts = and_parts (same_truth a.is_type b.is_type) ((a.out == b.out) && (a.number == b.number)) e in
    let rest = and_parts (a.out == b.out) (a.number == b.number) parts.1 in
    λ i. record { is_type = same_truths a.is_type b.is_type parts.0 i; out = eqb-true a.out b.out rest.0 i; number = eqb-true a.number b.number rest.1 i }

pub both : (a b : Bool) → a ≡ true → b ≡ true → (a && b) ≡ true
both true true p q = refl
both true false p q = absurd cc
both false b p q = absurd cc

truth_itself : (b : Bool) → same_truth b b ≡ true
truth_itself true = refl
truth_itself false = refl

pub same_itself : (t : Thing) → same_thing t t ≡ true
same_itself t = both (same_truth t.is_type t.is_type) ((t.out == t.out) && (t.number == t.number)) (truth_itself t.is_type) (both (t.out == t.out) (t.number == t.number) (nat_eq_equiv.refl t.out) (nat_eq_equiv.refl t.number))

truth_ties : (a b : Bool) → same_truth a b ≡ is_eq (bool_cmp a b)
truth_ties true true = refl
truth_ties true false = refl
truth_ties false true = refl
truth_ties false false = refl

pub thing_ties : (a b : Thing) → same_thing a b ≡ is_eq (thing_cmp a b)
thing_ties a b =
    both_tied _ _ (bool_cmp a.is_type b.is_type) (ordering_then (nat_cmp a.out b.out) (nat_cmp a.number b.number)) (truth_ties a.is_type b.is_type)
    (both_tied _ _ (nat_cmp a.out b.out) (nat_cmp a.number b.number) (unsigned_ties a.out b.out) (unsigned_ties a.number b.number))

or_last : (a b : Bool) → cond b true a ≡ (a || (b || false))
or_last true true = refl
or_last true false = refl
or_last false true = refl
or_last false false = refl

pub has_push : (ts : List Thing) (x t : Thing) → has (ts ++ x ∷ []) t ≡ cond (same_thing x t) true (has ts t)
has_push ts x t = list_any-append (λ m. same_thing m t) ts (x ∷ []) ∙ sym (or_last (has ts t) (same_thing x t))

-- one thing more
pub holds_more : (old new : BTreeSet Thing) (ts : List Thing) (x : Thing) → Holds old ts → Updates thing_cmp old new x true → Holds new (ts ++ x ∷ [])
holds_more old new ts x h u t =
    u.0 t ∙ (λ i. cond (sym (thing_ties x t) i) true (h t i)) ∙ sym (has_push ts x t)
