-- Which trees of heads are of instances.
use Rattle.std.specs.Prelude.{◌≡◌, true, false, ℕ, List, refl, Some}
use Rattle.std.proofs.Common.{subst}
use Rattle.comp_entity.specs.Entity.{ValueTree, Primitive, TupleOf, RecordOf, VariantOf, ListOf, FlagsOf, EnumOf, OptionOf, ResultOf, Own, Borrow, Value, Resource, Func, Instance, Component, EntityTree, IsType, IsFunc, IsInstance, IsComponent, IsModule, IsOwnModule, Entries}
use Rattle.comp_fit.specs.Known.{is_instance}
use Rattle.comp_table.specs.Plain.{plain_value, plain_entity}
use Rattle.comp_table.specs.Trees.{PlainTree, root, tree_at, Stands}
use Rattle.compose_fit.specs.declared.misfit.Unfit.TheVariants as unfit
use Rattle.compose_fit.specs.Fit.{why_unfit}
use Rattle.compose_fit.specs.Seen.{plainly}
use Rattle.compose_fit.specs.Wires.{Whole}

value_no_instance : (v : ValueTree) → is_instance (root (plain_value v)) ≡ true → ⊥
value_no_instance (Primitive p) e = absurd cc
value_no_instance (TupleOf ts) e = absurd cc
value_no_instance (RecordOf place fields) e = absurd cc
value_no_instance (VariantOf place cases) e = absurd cc
value_no_instance (ListOf t) e = absurd cc
value_no_instance (FlagsOf place labels) e = absurd cc
value_no_instance (EnumOf place labels) e = absurd cc
value_no_instance (OptionOf t) e = absurd cc
value_no_instance (ResultOf ok err) e = absurd cc
value_no_instance (Own r) e = absurd cc
value_no_instance (Borrow r) e = absurd cc

pub instance_is : (x : EntityTree) → is_instance (root (plain_entity x)) ≡ true → (es : Entries) × (x ≡ IsInstance es)
instance_is (IsType (Value v)) e = absurd (value_no_instance v e)
instance_is (IsType (Resource r)) e = absurd cc
instance_is (IsType (Func f)) e = absurd cc
instance_is (IsType (Instance es)) e = absurd cc
instance_is (IsType (Component is es)) e = absurd cc
instance_is (IsFunc f) e = absurd cc
instance_is (IsInstance es) e = (es, refl)
instance_is (IsComponent is es) e = absurd cc
instance_is (IsModule m) e = absurd cc
instance_is IsOwnModule e = absurd cc

pub instance_at : (ts : List PlainTree) (n : ℕ) (x : EntityTree) → Stands ts n (plain_entity x) → is_instance (root (tree_at ts n)) ≡ true → (es : Entries) × (x ≡ IsInstance es)
instance_at ts n x s e = instance_is x (subst (λ t. is_instance (root t) ≡ true) s.tree_is e)

no_truth : true ≡ false → ⊥
no_truth h = absurd cc

-- what is no instance is not fitted by one
pub not_instance : (es : Entries) (x : EntityTree) → is_instance (root (plain_entity x)) ≡ false → Some unfit.NotInstance ≡ why_unfit plainly 0 (Whole es) 0 x
not_instance es (IsInstance fs) e = absurd (no_truth e)
not_instance es (IsType t) e = refl
not_instance es (IsFunc f) e = refl
not_instance es (IsComponent is fs) e = refl
not_instance es (IsModule m) e = refl
not_instance es IsOwnModule e = refl
