-- Names of releases, and names of interfaces.
use Rattle.std.proofs.Common.{◌≡◌, sym, ap, subst, refl, arith, ℕ, Bool, true, false, true≢false, ◌&&◌, List, [], ◌∷◌, ◌++◌, length, drop, Some, ◌∙◌, Option, None}
use Rattle.std.specs.Prelude.{nat_eq, option_to_list, slice_get}
use Rattle.std.specs.List.{AllByRecursion, flat_map, starts_with}
use Rattle.compose_check.specs.Composition.{ComponentTree, CompositionTree}
use Rattle.compose_image.specs.Imports.{component_of, used, used_components}
use Rattle.warg_names.specs.Import.{import_of, locked_mark}
use Rattle.warg_plan.specs.Walk.{Entry}
use Rattle.warg_compose.specs.Composed.{AreComponentsOf, release_name}
use Rattle.warg_compose.specs.Left.{is_release}
use Rattle.warg_compose.specs.Wired.{IsOpenName}
use Rattle.warg_compose.proofs.ComponentLaws.{of_entry}
use Rattle.warg_compose.proofs.DigestLaws.{locked_import}

-- ---- what begins with a text

both : (a b : Bool) → (a && b) ≡ true → (a ≡ true) × (b ≡ true)
both true b h = (refl, h)
both false b h = absurd (true≢false (sym h))

same_number : (a b : ℕ) → nat_eq a b ≡ true → a ≡ b
same_number a b h = grind (arith, h)

begun : (front name : List ℕ) → starts_with nat_eq name front ≡ true → name ≡ front ++ drop (length front) name
begun [] name h = refl
begun (c ∷ front) [] h = absurd (true≢false (sym h))
begun (c ∷ front) (b ∷ name) h =
    let each = both (nat_eq c b) (starts_with nat_eq name front) h in
    λ i. sym (same_number c b each.0) i ∷ begun front name each.1 i

-- ---- names

pub is_release_name : (e : Entry) → is_release (release_name e) ≡ true
is_release_name e = refl

pub no_release : (name : List ℕ) → IsOpenName name → is_release name ≡ false
no_release name opened = by (is_release name) refl
  where
    by : (b : Bool) → is_release name ≡ b → is_release name ≡ false
    by false e = e
    by true e = absurd (locked_import (drop (length locked_mark) name) opened.0 (subst (λ n. import_of n ≡ Some opened.0) (begun locked_mark name e) opened.1) opened.2)

-- ---- components

module _ (c : CompositionTree) (rs : List Entry) (are : AreComponentsOf rs c.components) where
  released : (ns : List ℕ) → AllByRecursion (λ (k : ComponentTree). is_release k.name ≡ true) (flat_map (component_of c) ns)
  released [] = tt
  released (n ∷ ns) = by (slice_get c.components n) refl (released ns)
    where
      by : (o : Option ComponentTree) → slice_get c.components n ≡ o → AllByRecursion (λ (k : ComponentTree). is_release k.name ≡ true) (flat_map (component_of c) ns)
          → AllByRecursion (λ (k : ComponentTree). is_release k.name ≡ true) (option_to_list o ++ flat_map (component_of c) ns)
      by None at rest = rest
      by (Some k) at rest =
          let of = of_entry rs c.components are n k at in
          (ap is_release of.1.named ∙ is_release_name of.0, rest)

  pub used_are_released : AllByRecursion (λ (k : ComponentTree). is_release k.name ≡ true) (used_components c)
  used_are_released = released (used c)
