-- Laws of what descriptions describe.
use Rattle.std.specs.Prelude.{◌≡◌, ℕ, Bool, true, false, ◌&&◌, List, Err, refl}
use Rattle.std.proofs.Common.{sym, ◌∙◌, ap}
use Rattle.comp_entity.specs.Bounds.{Index}
use Rattle.comp_entity.specs.Entity.{ValueTree, Primitive, TupleOf, RecordOf, VariantOf, ListOf, FlagsOf, EnumOf, OptionOf, ResultOf, Own, Borrow, Value, Resource, Func, Instance, Component, EntityTree, IsType, IsFunc, IsInstance, IsComponent, IsModule, IsOwnModule}
use Rattle.comp_scope.specs.Descriptions as scope
use Rattle.comp_scope.specs.Descriptions.{described_func, described_component}
use Rattle.comp_space.specs.Descriptions.{ShowsDescribed, plainly}
use Rattle.comp_space.specs.Faults.{Found}
use Rattle.comp_space.specs.Heads.{is_func_type, is_component_type}
use Rattle.comp_table.specs.declared.head.Head.{Head}
use Rattle.comp_table.specs.declared.head.Head.TheVariants as head
use Rattle.comp_table.specs.Plain.{around, plain_value, plain_entity}
use Rattle.comp_table.specs.StandLaws.{same_stands}
use Rattle.comp_table.specs.Trees.{PlainTree, PlainTrees, tree, Stands, tree_at, root, below_root}

no_func : (t : ValueTree) → is_func_type (root (plain_value t)) ≡ false
no_func (Primitive p) = refl
no_func (TupleOf parts) = refl
no_func (RecordOf place fields) = refl
no_func (VariantOf place cases) = refl
no_func (ListOf t) = refl
no_func (FlagsOf place labels) = refl
no_func (EnumOf place labels) = refl
no_func (OptionOf t) = refl
no_func (ResultOf ok err) = refl
no_func (Own r) = refl
no_func (Borrow r) = refl

no_component : (t : ValueTree) → is_component_type (root (plain_value t)) ≡ false
no_component (Primitive p) = refl
no_component (TupleOf parts) = refl
no_component (RecordOf place fields) = refl
no_component (VariantOf place cases) = refl
no_component (ListOf t) = refl
no_component (FlagsOf place labels) = refl
no_component (EnumOf place labels) = refl
no_component (OptionOf t) = refl
no_component (ResultOf ok err) = refl
no_component (Own r) = refl
no_component (Borrow r) = refl

and_false : (b : Bool) → b && false ≡ false
and_false true = refl
and_false false = refl

-- the head tells whether it is a type of functions, and of components
func_there : EntityTree → Bool
func_there (IsType (Func f)) = true
func_there _ = false

component_there : EntityTree → Bool
component_there (IsType (Component is es)) = true
component_there _ = false

func_at : (e : EntityTree) → is_func_type (root (plain_entity e)) ≡ func_there e
unfolding func_there
func_at (IsType (Value t)) = no_func t
func_at (IsType (Resource r)) = refl
func_at (IsType (Func f)) = refl
func_at (IsType (Instance es)) = refl
func_at (IsType (Component is es)) = refl
func_at (IsFunc f) = refl
func_at (IsInstance es) = refl
func_at (IsComponent is es) = refl
func_at (IsModule m) = refl
func_at IsOwnModule = refl

component_at : (e : EntityTree) → is_component_type (root (plain_entity e)) ≡ component_there e
unfolding component_there
component_at (IsType (Value t)) = no_component t
component_at (IsType (Resource r)) = refl
component_at (IsType (Func f)) = refl
component_at (IsType (Instance es)) = refl
component_at (IsType (Component is es)) = refl
component_at (IsFunc f) = refl
component_at (IsInstance es) = refl
component_at (IsComponent is es) = refl
component_at (IsModule m) = refl
component_at IsOwnModule = refl

func_or_not : (ts us : List PlainTree) (n m : ℕ) (e : EntityTree) (b : Bool) → Stands ts n (plain_entity e) → Stands us m (around head.Func (tree_at ts n)) → b && func_there e ≡ true → Found (ShowsDescribed us) (plainly m) (described_func (e, b))
unfolding func_there
func_or_not ts us n m (IsType (Func f)) true s t is = record {
  value = scope.plainly (IsFunc f) true;
  given_is = refl;
  shown = record { standing = record { stands = same_stands us m _ _ (ap (around head.Func) s.tree_is) t; named_is = refl }; brings = refl };
}
func_or_not ts us n m (IsType (Func f)) false s t is = absurd cc
func_or_not ts us n m (IsType (Value v)) b s t is = absurd (let no = sym (and_false b) ∙ is in cc)
func_or_not ts us n m (IsType (Resource r)) b s t is = absurd (let no = sym (and_false b) ∙ is in cc)
func_or_not ts us n m (IsType (Instance es)) b s t is = absurd (let no = sym (and_false b) ∙ is in cc)
func_or_not ts us n m (IsType (Component is' es)) b s t is = absurd (let no = sym (and_false b) ∙ is in cc)
func_or_not ts us n m (IsFunc f) b s t is = absurd (let no = sym (and_false b) ∙ is in cc)
func_or_not ts us n m (IsInstance es) b s t is = absurd (let no = sym (and_false b) ∙ is in cc)
func_or_not ts us n m (IsComponent is' es) b s t is = absurd (let no = sym (and_false b) ∙ is in cc)
func_or_not ts us n m (IsModule x) b s t is = absurd (let no = sym (and_false b) ∙ is in cc)
func_or_not ts us n m IsOwnModule b s t is = absurd (let no = sym (and_false b) ∙ is in cc)

no_func_there : (e : EntityTree) (b : Bool) → b && func_there e ≡ false → described_func (e, b) ≡ Err Index
unfolding func_there
no_func_there (IsType (Func f)) true is = absurd cc
no_func_there (IsType (Func f)) false is = refl
no_func_there (IsType (Value v)) b is = refl
no_func_there (IsType (Resource r)) b is = refl
no_func_there (IsType (Instance es)) b is = refl
no_func_there (IsType (Component is' es)) b is = refl
no_func_there (IsFunc f) b is = refl
no_func_there (IsInstance es) b is = refl
no_func_there (IsComponent is' es) b is = refl
no_func_there (IsModule x) b is = refl
no_func_there IsOwnModule b is = refl

component_or_not : (ts us : List PlainTree) (n m : ℕ) (parts : PlainTrees) (e : EntityTree) (b : Bool) → Stands ts n (plain_entity e) → parts ≡ below_root (tree_at ts n) → Stands us m (tree head.Component parts) → component_there e ≡ true → Found (ShowsDescribed us) (plainly m) (described_component (e, b))
unfolding component_there
component_or_not ts us n m parts (IsType (Component is' es)) b s p t is = record {
  value = scope.plainly (IsComponent is' es) true;
  given_is = refl;
  shown = record { standing = record { stands = same_stands us m _ _ (ap (tree head.Component) (p ∙ ap below_root s.tree_is)) t; named_is = refl }; brings = refl };
}
component_or_not ts us n m parts (IsType (Func f)) b s p t is = absurd cc
component_or_not ts us n m parts (IsType (Value v)) b s p t is = absurd cc
component_or_not ts us n m parts (IsType (Resource r)) b s p t is = absurd cc
component_or_not ts us n m parts (IsType (Instance es)) b s p t is = absurd cc
component_or_not ts us n m parts (IsFunc f) b s p t is = absurd cc
component_or_not ts us n m parts (IsInstance es) b s p t is = absurd cc
component_or_not ts us n m parts (IsComponent is' es) b s p t is = absurd cc
component_or_not ts us n m parts (IsModule x) b s p t is = absurd cc
component_or_not ts us n m parts IsOwnModule b s p t is = absurd cc

no_component_there : (e : EntityTree) (b : Bool) → component_there e ≡ false → described_component (e, b) ≡ Err Index
unfolding component_there
no_component_there (IsType (Component is' es)) b is = absurd cc
no_component_there (IsType (Func f)) b is = refl
no_component_there (IsType (Value v)) b is = refl
no_component_there (IsType (Resource r)) b is = refl
no_component_there (IsType (Instance es)) b is = refl
no_component_there (IsFunc f) b is = refl
no_component_there (IsInstance es) b is = refl
no_component_there (IsComponent is' es) b is = refl
no_component_there (IsModule x) b is = refl
no_component_there IsOwnModule b is = refl

-- the same by the head
pub func_found : (ts us : List PlainTree) (n m : ℕ) (h : Head) (e : EntityTree) (b : Bool) → h ≡ root (tree_at ts n) → Stands ts n (plain_entity e) → Stands us m (around head.Func (tree_at ts n)) → b && is_func_type h ≡ true → Found (ShowsDescribed us) (plainly m) (described_func (e, b))
func_found ts us n m h e b is s t given = func_or_not ts us n m e b s t (sym (ap (λ c. b && c) (ap is_func_type (is ∙ ap root s.tree_is) ∙ func_at e)) ∙ given)

pub func_absent : (ts : List PlainTree) (n : ℕ) (h : Head) (e : EntityTree) (b : Bool) → h ≡ root (tree_at ts n) → Stands ts n (plain_entity e) → b && is_func_type h ≡ false → described_func (e, b) ≡ Err Index
func_absent ts n h e b is s given = no_func_there e b (sym (ap (λ c. b && c) (ap is_func_type (is ∙ ap root s.tree_is) ∙ func_at e)) ∙ given)

pub component_found : (ts us : List PlainTree) (n m : ℕ) (h : Head) (parts : PlainTrees) (e : EntityTree) (b : Bool) → h ≡ root (tree_at ts n) → Stands ts n (plain_entity e) → parts ≡ below_root (tree_at ts n) → Stands us m (tree head.Component parts) → is_component_type h ≡ true → Found (ShowsDescribed us) (plainly m) (described_component (e, b))
component_found ts us n m h parts e b is s p t given = component_or_not ts us n m parts e b s p t (sym (ap is_component_type (is ∙ ap root s.tree_is) ∙ component_at e) ∙ given)

pub component_absent : (ts : List PlainTree) (n : ℕ) (h : Head) (e : EntityTree) (b : Bool) → h ≡ root (tree_at ts n) → Stands ts n (plain_entity e) → is_component_type h ≡ false → described_component (e, b) ≡ Err Index
component_absent ts n h e b is s given = no_component_there e b (sym (ap is_component_type (is ∙ ap root s.tree_is) ∙ component_at e) ∙ given)
