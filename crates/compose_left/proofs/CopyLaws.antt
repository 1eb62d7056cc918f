-- Entities with changed names, by cases.
use Rattle.std.proofs.Common.{◌≡◌, ℕ, suc, ◌+◌, arith, true, List, [], ◌∷◌, map, Option, Some, None, refl, sym, ap, ◌∙◌}
use Rattle.std.specs.Option.{SomeIff}
use Rattle.std.proofs.lemmas.Option.{same_Some}
use Rattle.comp_entity.specs.declared.entity.InstanceShape.{InstanceShape}
use Rattle.comp_entity.specs.declared.entity.ComponentShape.{ComponentShape, fold-roll-ComponentShape}
use Rattle.comp_entity.specs.declared.entity.TypeShape.{fold-roll-TypeShape}
use Rattle.comp_entity.specs.declared.entity.TypeShape.TheVariants as type
use Rattle.comp_entity.specs.declared.entity.Entity.TheOpen as layer
use Rattle.comp_entity.specs.declared.entity.Entity.TheVariants as entity
use Rattle.comp_entity.specs.Entity.{TypeShapeTree, Instance, EntityTree, IsInstance, Entries, entry}
use Rattle.comp_entity.specs.Names.{Change, entity_by, entries_by, type_by}
use Rattle.comp_entity.specs.Views.{entries_of, named_entities, Sides, entity_step, type_step, component_step, instance_step, entity_tree, type_tree, component_sides}
use Rattle.compose_left.specs.declared.renaming.Renaming.{Renaming}
use Rattle.compose_left.specs.declared.renaming.Renaming.TheVariants as renaming
use Rattle.compose_left.specs.Renaming.{change_of, entry_by, sides_by}
use Rattle.compose_left.proofs.ViewLaws.{instance_is, entity_instance}

type_instance : (t : InstanceShape) → type_tree (type.Instance t) ≡ Instance (entries_of (named_entities t.exports.items))
type_instance t = ap type_tree (sym (type.rolls-Instance t)) ∙ fold-roll-TypeShape EntityTree TypeShapeTree Sides Entries entity_step type_step component_step instance_step (layer.«TypeShape::Instance» t) ∙ ap Instance (instance_is t)

component_is : (t : ComponentShape) → component_sides t ≡ record { imports = entries_of (named_entities t.imports.items); exports = entries_of (named_entities t.exports.items) }
component_is t = fold-roll-ComponentShape EntityTree TypeShapeTree Sides Entries entity_step type_step component_step instance_step (record { imports = t.imports; exports = t.exports })

pub sum_is : (P : Type 0) (v x : ℕ) (r : Option ℕ) → SomeIff r P v → r ≡ Some x → x ≡ v
sum_is P v x None h e = absurd cc
sum_is P v x (Some y) h e = sym (same_Some y x e) ∙ h.1

one_more : {inner d : ℕ} → inner ≡ d + 1 → inner ≡ suc d
one_more e = omega (arith, e)

two_more : {inner d : ℕ} → inner ≡ d + 2 → inner ≡ suc (suc d)
two_more e = omega (arith, e)

pub mark_kept : (r : Renaming) → (change_of r).mark true ≡ true
mark_kept renaming.Same = refl
mark_kept (renaming.Placed origins at) = refl
mark_kept (renaming.Called names) = refl

module _ (c : Change) (marks : c.mark true ≡ true) where
  entries_by_is : (d : ℕ) (xs : List (List ℕ × EntityTree)) → entries_by c d (entries_of xs) ≡ entries_of (map (entry_by c d) xs)
  entries_by_is d [] = refl
  entries_by_is d (x ∷ xs) = λ i. entry x.0 (entity_by c d x.1) (marks i) (entries_by_is d xs i)

  changed : (d : ℕ) (xs ys : List (List ℕ × EntityTree)) → ys ≡ map (entry_by c d) xs → entries_of ys ≡ entries_by c d (entries_of xs)
  changed d xs ys e = ap entries_of e ∙ sym (entries_by_is d xs)

  pub instance_in : (d : ℕ) (s t : InstanceShape) → named_entities t.exports.items ≡ map (entry_by c d) (named_entities s.exports.items) → entity_tree (entity.Instance t) ≡ entity_by c d (entity_tree (entity.Instance s))
  instance_in d s t e = entity_instance t ∙ ap IsInstance (changed d (named_entities s.exports.items) (named_entities t.exports.items) e) ∙ ap (entity_by c d) (sym (entity_instance s))

  pub instance_type_in : (d inner : ℕ) (s t : InstanceShape) → inner ≡ d + 1 → named_entities t.exports.items ≡ map (entry_by c inner) (named_entities s.exports.items) → type_tree (type.Instance t) ≡ type_by c d (type_tree (type.Instance s))
  instance_type_in d inner s t is e =
      type_instance t ∙ ap Instance (changed inner (named_entities s.exports.items) (named_entities t.exports.items) e ∙ ap (λ (k : ℕ). entries_by c k (entries_of (named_entities s.exports.items))) (one_more is))
      ∙ ap (type_by c d) (sym (type_instance s))

  pub component_with : (d inner : ℕ) (s t : ComponentShape) → inner ≡ d + 2 → named_entities t.imports.items ≡ map (entry_by c inner) (named_entities s.imports.items) → named_entities t.exports.items ≡ map (entry_by c inner) (named_entities s.exports.items)
      → component_sides t ≡ sides_by c d (component_sides s)
  component_with d inner s t is e f =
      component_is t
      ∙ (λ i. record {
        imports = (changed inner (named_entities s.imports.items) (named_entities t.imports.items) e ∙ ap (λ (k : ℕ). entries_by c k (entries_of (named_entities s.imports.items))) (two_more is)) i;
        exports = (changed inner (named_entities s.exports.items) (named_entities t.exports.items) f ∙ ap (λ (k : ℕ). entries_by c k (entries_of (named_entities s.exports.items))) (two_more is)) i;
      })
      ∙ ap (sides_by c d) (sym (component_is s))
