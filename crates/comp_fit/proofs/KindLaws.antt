-- Laws of which entities are instances and core modules, and of pairs whose answers are known.
use Rattle.std.specs.Prelude.{◌≡◌, ℕ, suc, Bool, true, false, ◌&&◌, List, Option, Some, refl, cond, ◌⊎◌}
use Rattle.std.specs.BTreeMap.{BTreeMap, get, Updates}
use Rattle.std.specs.FinMap.{nat_cmp-IsAntisymmetric}
use Rattle.std.specs.Ordering.{nat_cmp, ordering_then, is_eq}
use Rattle.std.specs.declared.cmp.Ordering.{Ordering}
use Rattle.std.specs.declared.cmp.Ordering.TheVariants.{Less, Equal, Greater}
use Rattle.std.proofs.Common.{sym, ◌∙◌, subst, inl, inr}
use Rattle.std.proofs.lemmas.Option.{same_Some}
use Rattle.comp_entity.specs.declared.module.ModuleShape.{ModuleShape}
use Rattle.comp_entity.specs.Entity.{ValueTree, Primitive, TupleOf, RecordOf, VariantOf, ListOf, FlagsOf, EnumOf, OptionOf, ResultOf, Own, Borrow, TypeShapeTree, Value, Resource, Func, Instance, Component, EntityTree, IsType, IsFunc, IsInstance, IsComponent, IsModule, IsOwnModule, Entries, no_entry, entry}
use Rattle.comp_entity.specs.Names.{Change, type_by, entity_by, entries_by}
use Rattle.comp_entity.specs.Fits.{equal, fits_with, same_name}
use Rattle.comp_fit.specs.declared.pair.Pair.{Pair}
use Rattle.comp_fit.specs.Known.{Answers, AreAnswers, pair_cmp, is_instance, is_module}
use Rattle.comp_table.specs.Plain.{plain_value, plain_entity}
use Rattle.comp_table.specs.Shown.{IsShownType, IsShown, AreShown}
use Rattle.comp_table.specs.Trees.{PlainTree, root, tree_at, Stands}

pub both : (a b : Bool) → (a && b) ≡ true → (a ≡ true) × (b ≡ true)
both true b e = (refl, e)
both false b e = absurd cc

value_no_instance : (v : ValueTree) → is_instance (root (plain_value v)) ≡ true → ⊥
value_no_instance (Primitive p) e = absurd cc
value_no_instance (TupleOf ts) e = absurd cc
value_no_instance (RecordOf place fields) e = absurd cc
value_no_instance (VariantOf place cases) e = absurd cc
value_no_instance (ListOf t) e = absurd cc
value_no_instance (FlagsOf place labels) e = absurd cc
value_no_instance (EnumOf place labels) e = absurd cc
value_no_instance (OptionOf t) e = absurd cc
value_no_instance (ResultOf ok err) e = absurd cc
value_no_instance (Own r) e = absurd cc
value_no_instance (Borrow r) e = absurd cc

value_no_module : (v : ValueTree) → is_module (root (plain_value v)) ≡ true → ⊥
value_no_module (Primitive p) e = absurd cc
value_no_module (TupleOf ts) e = absurd cc
value_no_module (RecordOf place fields) e = absurd cc
value_no_module (VariantOf place cases) e = absurd cc
value_no_module (ListOf t) e = absurd cc
value_no_module (FlagsOf place labels) e = absurd cc
value_no_module (EnumOf place labels) e = absurd cc
value_no_module (OptionOf t) e = absurd cc
value_no_module (ResultOf ok err) e = absurd cc
value_no_module (Own r) e = absurd cc
value_no_module (Borrow r) e = absurd cc

pub instance_is : (x : EntityTree) → is_instance (root (plain_entity x)) ≡ true → (es : Entries) × (x ≡ IsInstance es)
instance_is (IsType (Value v)) e = absurd (value_no_instance v e)
instance_is (IsType (Resource r)) e = absurd cc
instance_is (IsType (Func f)) e = absurd cc
instance_is (IsType (Instance es)) e = absurd cc
instance_is (IsType (Component is es)) e = absurd cc
instance_is (IsFunc f) e = absurd cc
instance_is (IsInstance es) e = (es, refl)
instance_is (IsComponent is es) e = absurd cc
instance_is (IsModule m) e = absurd cc
instance_is IsOwnModule e = absurd cc

pub module_is : (x : EntityTree) → is_module (root (plain_entity x)) ≡ true → (m : ModuleShape) × (x ≡ IsModule m)
module_is (IsType (Value v)) e = absurd (value_no_module v e)
module_is (IsType (Resource r)) e = absurd cc
module_is (IsType (Func f)) e = absurd cc
module_is (IsType (Instance es)) e = absurd cc
module_is (IsType (Component is es)) e = absurd cc
module_is (IsFunc f) e = absurd cc
module_is (IsInstance es) e = absurd cc
module_is (IsComponent is es) e = absurd cc
module_is (IsModule m) e = (m, refl)
module_is IsOwnModule e = absurd cc

pub module_at : (ts : List PlainTree) (n : ℕ) (x : EntityTree) → Stands ts n (plain_entity x) → is_module (root (tree_at ts n)) ≡ true → (m : ModuleShape) × (x ≡ IsModule m)
module_at ts n x s e = module_is x (subst (λ t. is_module (root t) ≡ true) s.tree_is e)

pub instance_at : (ts : List PlainTree) (n : ℕ) (x : EntityTree) → Stands ts n (plain_entity x) → is_instance (root (tree_at ts n)) ≡ true → (es : Entries) × (x ≡ IsInstance es)
instance_at ts n x s e = instance_is x (subst (λ t. is_instance (root t) ≡ true) s.tree_is e)

-- what are not both instances, nor both core modules, fit where they are equal
pub others_fit : (x y : EntityTree) → (is_instance (root (plain_entity x)) && is_instance (root (plain_entity y))) ≡ false → (is_module (root (plain_entity x)) && is_module (root (plain_entity y))) ≡ false → equal x y ≡ fits_with same_name x y
others_fit (IsInstance es) (IsInstance fs) i m = absurd cc
others_fit (IsModule m) (IsModule n) i k = absurd cc
others_fit _ _ i m = refl

-- answers that are known
tied : (x y : Ordering) → ordering_then x y ≡ Equal → (x ≡ Equal) × (y ≡ Equal)
tied Less y e = absurd cc
tied Equal y e = (refl, e)
tied Greater y e = absurd cc

pub same_pair : (a b : Pair) → pair_cmp a b ≡ Equal → a ≡ b
same_pair a b e =
    let h = tied (nat_cmp a.given b.given) (nat_cmp a.asked b.asked) e in
    let given = nat_cmp-IsAntisymmetric a.given b.given h.0 in
    let asked = nat_cmp-IsAntisymmetric a.asked b.asked h.1 in λ i. record { given = given i; asked = asked i }

pub got : {X : Type 0} (o : Ordering) (found other : Option X) (i : X) → cond (is_eq o) found other ≡ Some i → ((o ≡ Equal) × (found ≡ Some i)) ⊎ (other ≡ Some i)
got Less f x i e = inr e
got Equal f x i e = inl (refl, e)
got Greater f x i e = inr e

pub answer_more : (ts : List PlainTree) (old new : BTreeMap Pair Bool) (p : Pair) (answer : Bool) → AreAnswers ts old → Answers ts p answer → Updates pair_cmp old new p (Some answer) → AreAnswers ts new
answer_more ts old new p answer are here updates q b e = of (got (pair_cmp p q) (Some answer) (get pair_cmp old q) b (sym (updates.0 q) ∙ e))
  where
    of : ((pair_cmp p q ≡ Equal) × (Some answer ≡ Some b)) ⊎ (get pair_cmp old q ≡ Some b) → Answers ts q b
    of (inl h) = subst (λ x. Answers ts x b) (same_pair p q h.0) (subst (Answers ts p) (same_Some answer b h.1) here)
    of (inr h) = are q b h

-- in other names the same core modules of a component's own stand in an entity
mutual
  type_shown : (c : Change) (d : ℕ) (t : TypeShapeTree) → IsShownType t → IsShownType (type_by c d t)
  type_shown c d (Value t) s = tt
  type_shown c d (Resource r) s = tt
  type_shown c d (Func f) s = tt
  type_shown c d (Instance es) s = entries_shown c (suc d) es s
  type_shown c d (Component is es) s = (entries_shown c (suc (suc d)) is s.0, entries_shown c (suc (suc d)) es s.1)

  pub entity_shown : (c : Change) (d : ℕ) (e : EntityTree) → IsShown e → IsShown (entity_by c d e)
  entity_shown c d (IsType t) s = type_shown c d t s
  entity_shown c d (IsFunc f) s = tt
  entity_shown c d (IsInstance es) s = entries_shown c d es s
  entity_shown c d (IsComponent is es) s = (entries_shown c (suc (suc d)) is s.0, entries_shown c (suc (suc d)) es s.1)
  entity_shown c d (IsModule m) s = tt
  entity_shown c d IsOwnModule s = absurd s

  entries_shown : (c : Change) (d : ℕ) (es : Entries) → AreShown es → AreShown (entries_by c d es)
  entries_shown c d no_entry s = tt
  entries_shown c d (entry name e mark es) s = (entity_shown c d e s.0, entries_shown c d es s.1)
