-- What stands in components.
use Rattle.std.proofs.Common.{◌≡◌, ℕ, Bool, true, ◌&&◌, List, [], ◌++◌, sym, ◌∙◌}
use Rattle.comp_entity.specs.declared.entity.ComponentShape.{ComponentShape}
use Rattle.comp_entity.specs.declared.entity.Entity.{Entity}
use Rattle.comp_entity.specs.Places.{Path}
use Rattle.comp_entity.specs.Views.{component_sides, entries_of, named_entities}
use Rattle.compose_needs.specs.declared.leaves.Leaf.{Leaf}
use Rattle.compose_needs.specs.Leaves.{leaves_among}
use Rattle.compose_needs.specs.Sides.{sides_hold_tied}
use Rattle.compose_needs.specs.Tied.{are_sides_tied, entries_hold_tied}
use Rattle.compose_needs.proofs.ViewLaws.{component_is}

pub sides_leaves : (t : ComponentShape) (p : Path) (l0 l1 l2 : List Leaf) (is es : List (List ℕ × Entity)) → p ≡ [] → l0 ≡ [] → l1 ≡ l0 ++ leaves_among p (entries_of (named_entities is))
    → l2 ≡ l1 ++ leaves_among p (entries_of (named_entities es)) → is ≡ t.imports.items → es ≡ t.exports.items
    → l2 ≡ leaves_among [] (component_sides t).imports ++ leaves_among [] (component_sides t).exports
sides_leaves t p l0 l1 l2 is es at none first second imports exports =
    second ∙ (λ i. first i ++ leaves_among (at i) (entries_of (named_entities (exports i))))
    ∙ (λ i. (none i ++ leaves_among (at i) (entries_of (named_entities (imports i)))) ++ leaves_among [] (entries_of (named_entities t.exports.items)))
    ∙ (λ i. leaves_among [] (sym (component_is t) i).imports ++ leaves_among [] (sym (component_is t) i).exports)

pub sides_hold : (t : ComponentShape) (a b c : Bool) (is es : List (List ℕ × Entity)) → a ≡ are_sides_tied (component_sides t).imports (component_sides t).exports → b ≡ entries_hold_tied (entries_of (named_entities is))
    → c ≡ entries_hold_tied (entries_of (named_entities es)) → is ≡ t.imports.items → es ≡ t.exports.items → a ≡ true → b ≡ true → c ≡ sides_hold_tied (component_sides t)
sides_hold t a b c is es sides left right imports exports first second =
    right ∙ (λ i. entries_hold_tied (entries_of (named_entities (exports i)))) ∙ (λ i. entries_hold_tied (sym (component_is t) i).exports)
    ∙ (λ i. (sym first ∙ sides) i && ((sym second ∙ left ∙ (λ j. entries_hold_tied (entries_of (named_entities (imports j)))) ∙ (λ j. entries_hold_tied (sym (component_is t) j).imports)) i && entries_hold_tied (component_sides t).exports))
