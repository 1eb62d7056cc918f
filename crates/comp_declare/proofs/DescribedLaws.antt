-- Laws of what descriptions describe.
use Rattle.std.specs.Prelude.{◌≡◌, ℕ, Bool, true, false, ◌||◌, List, Some, None, Err, Option, refl}
use Rattle.std.proofs.Common.{sym, ◌∙◌, ap}
use Rattle.comp_entity.specs.Bounds.{Index}
use Rattle.comp_entity.specs.Entity.{Name, ValueTree, Primitive, TupleOf, RecordOf, VariantOf, ListOf, FlagsOf, EnumOf, OptionOf, ResultOf, Own, Borrow, TypeShapeTree, Value, Resource, Func, Instance, Component, EntityTree, IsType, IsFunc, IsInstance, IsComponent, IsModule, IsOwnModule}
use Rattle.comp_entity.specs.Names.{counts_at, in_entity, in_entries, entity_by, entries_by}
use Rattle.comp_format.specs.declared.types.Sort.TheVariants as sort
use Rattle.comp_scope.specs.Descriptions.{NewNames, named_by, names_a_place, is_named_by, opening, described_type, described_instance}
use Rattle.comp_scope.specs.Spaces.{sort_of}
use Rattle.comp_space.specs.declared.space.Counts.{Counts}
use Rattle.comp_space.specs.Descriptions.{ShowsDescribed}
use Rattle.comp_space.specs.Faults.{Found}
use Rattle.comp_space.specs.SpaceViews.{counts}
use Rattle.comp_declare.specs.Heads.{named_head, is_resource, is_instance_type}
use Rattle.comp_table.specs.declared.head.Head.{Head}
use Rattle.comp_table.specs.declared.head.Head.TheVariants as head
use Rattle.comp_table.specs.Changes.{tree_by}
use Rattle.comp_table.specs.Plain.{plain_value, plain_type, plain_entity}
use Rattle.comp_table.specs.StandLaws.{same_stands}
use Rattle.comp_table.specs.Trees.{PlainTree, tree, Stands, tree_at, root, below_root}

abbrev some_head : Head → Option Head
some_head h = Some h

same_head : (g h : Head) → some_head g ≡ some_head h → g ≡ h
same_head g h e = cc

or_false : (b : Bool) → b ≡ (b || false)
or_false true = refl
or_false false = refl

or_true : (b : Bool) → true ≡ (b || true)
or_true true = refl
or_true false = refl

-- a type that a place names, by its head
record TakesName (place : Name) (t : TypeShapeTree) (h : Head) : Type 0 where
  tree_is : tree h (below_root (plain_type t)) ≡ plain_type (named_by place t)
  counts_is : names_a_place t ≡ 1
  named_is : (b : Bool) → is_named_by t b ≡ b

value_takes : (place : Name) (v : ValueTree) (h : Head) → named_head place (root (plain_value v)) ≡ Some h → TakesName place (Value v) h
value_takes place (RecordOf None fields) h e = record { tree_is = ap (λ g. tree g (below_root (plain_value (RecordOf None fields)))) (sym (same_head (head.RecordOf (Some place)) h e)); counts_is = refl; named_is = λ b. refl }
value_takes place (VariantOf None cases) h e = record { tree_is = ap (λ g. tree g (below_root (plain_value (VariantOf None cases)))) (sym (same_head (head.VariantOf (Some place)) h e)); counts_is = refl; named_is = λ b. refl }
value_takes place (FlagsOf None labels) h e = record { tree_is = ap (λ g. tree g (below_root (plain_value (FlagsOf None labels)))) (sym (same_head (head.FlagsOf (Some place)) h e)); counts_is = refl; named_is = λ b. refl }
value_takes place (EnumOf None labels) h e = record { tree_is = ap (λ g. tree g (below_root (plain_value (EnumOf None labels)))) (sym (same_head (head.EnumOf (Some place)) h e)); counts_is = refl; named_is = λ b. refl }
value_takes place (RecordOf (Some n) fields) h e = absurd cc
value_takes place (VariantOf (Some n) cases) h e = absurd cc
value_takes place (FlagsOf (Some n) labels) h e = absurd cc
value_takes place (EnumOf (Some n) labels) h e = absurd cc
value_takes place (Primitive p) h e = absurd cc
value_takes place (TupleOf parts) h e = absurd cc
value_takes place (ListOf t) h e = absurd cc
value_takes place (OptionOf t) h e = absurd cc
value_takes place (ResultOf ok err) h e = absurd cc
value_takes place (Own r) h e = absurd cc
value_takes place (Borrow r) h e = absurd cc

type_takes : (place : Name) (t : TypeShapeTree) (h : Head) → named_head place (root (plain_type t)) ≡ Some h → TakesName place t h
type_takes place (Value v) h e = value_takes place v h e
type_takes place (Resource r) h e = absurd cc
type_takes place (Func f) h e = absurd cc
type_takes place (Instance es) h e = absurd cc
type_takes place (Component is es) h e = absurd cc

-- one that no place names
record KeepsName (place : Name) (t : TypeShapeTree) : Type 0 where
  type_is : t ≡ named_by place t
  counts_is : names_a_place t ≡ 0
  named_is : (b : Bool) → is_named_by t b ≡ (b || is_resource (root (plain_type t)))

value_keeps : (place : Name) (v : ValueTree) → named_head place (root (plain_value v)) ≡ None → KeepsName place (Value v)
value_keeps place (RecordOf None fields) e = absurd cc
value_keeps place (VariantOf None cases) e = absurd cc
value_keeps place (FlagsOf None labels) e = absurd cc
value_keeps place (EnumOf None labels) e = absurd cc
value_keeps place (RecordOf (Some n) fields) e = record { type_is = refl; counts_is = refl; named_is = or_false }
value_keeps place (VariantOf (Some n) cases) e = record { type_is = refl; counts_is = refl; named_is = or_false }
value_keeps place (FlagsOf (Some n) labels) e = record { type_is = refl; counts_is = refl; named_is = or_false }
value_keeps place (EnumOf (Some n) labels) e = record { type_is = refl; counts_is = refl; named_is = or_false }
value_keeps place (Primitive p) e = record { type_is = refl; counts_is = refl; named_is = or_false }
value_keeps place (TupleOf parts) e = record { type_is = refl; counts_is = refl; named_is = or_false }
value_keeps place (ListOf t) e = record { type_is = refl; counts_is = refl; named_is = or_false }
value_keeps place (OptionOf t) e = record { type_is = refl; counts_is = refl; named_is = or_false }
value_keeps place (ResultOf ok err) e = record { type_is = refl; counts_is = refl; named_is = or_false }
value_keeps place (Own r) e = record { type_is = refl; counts_is = refl; named_is = or_false }
value_keeps place (Borrow r) e = record { type_is = refl; counts_is = refl; named_is = or_false }

type_keeps : (place : Name) (t : TypeShapeTree) → named_head place (root (plain_type t)) ≡ None → KeepsName place t
type_keeps place (Value v) e = value_keeps place v e
type_keeps place (Resource r) e = record { type_is = refl; counts_is = refl; named_is = or_true }
type_keeps place (Func f) e = record { type_is = refl; counts_is = refl; named_is = or_false }
type_keeps place (Instance es) e = record { type_is = refl; counts_is = refl; named_is = or_false }
type_keeps place (Component is es) e = record { type_is = refl; counts_is = refl; named_is = or_false }

-- what is a type is described so
module _ (new : NewNames) (ts us : List PlainTree) (n m : ℕ) (b : Bool) where
  pub named_type_found : (e : EntityTree) (h : Head) → sort.Ty ≡ sort_of e → Stands ts n (plain_entity e) → named_head (new.place 0) (root (tree_at ts n)) ≡ Some h → Stands us m (tree h (below_root (tree_at ts n))) → Found (ShowsDescribed us) (record { standing = record { number = m; named = b }; brings = record { resources = 0; places = 1 } }) (described_type new (e, b))
  named_type_found (IsType t) h is s takes stands =
      let k = type_takes (new.place 0) t h (ap (λ x. named_head (new.place 0) (root x)) (sym s.tree_is) ∙ takes) in
      record {
        value = record { standing = (IsType (named_by (new.place 0) t), is_named_by t b); brings = record { resources = 0; places = names_a_place t } };
        given_is = refl;
        shown = record {
          standing = record { stands = same_stands us m _ _ (ap (λ x. tree h (below_root x)) s.tree_is ∙ k.tree_is) stands; named_is = sym (k.named_is b) };
          brings = ap (λ p. record { resources = 0; places = p }) (sym k.counts_is);
        };
      }
  named_type_found (IsFunc f) h is s takes stands = absurd cc
  named_type_found (IsInstance es) h is s takes stands = absurd cc
  named_type_found (IsComponent is' es) h is s takes stands = absurd cc
  named_type_found (IsModule x) h is s takes stands = absurd cc
  named_type_found IsOwnModule h is s takes stands = absurd cc

  pub type_found : (e : EntityTree) → sort.Ty ≡ sort_of e → Stands ts n (plain_entity e) → named_head (new.place 0) (root (tree_at ts n)) ≡ None → Found (ShowsDescribed ts) (record { standing = record { number = n; named = b || is_resource (root (tree_at ts n)) }; brings = record { resources = 0; places = 0 } }) (described_type new (e, b))
  type_found (IsType t) is s keeps =
      let k = type_keeps (new.place 0) t (ap (λ x. named_head (new.place 0) (root x)) (sym s.tree_is) ∙ keeps) in
      record {
        value = record { standing = (IsType (named_by (new.place 0) t), is_named_by t b); brings = record { resources = 0; places = names_a_place t } };
        given_is = refl;
        shown = record {
          standing = record { stands = same_stands ts n _ _ (ap plain_type k.type_is) s; named_is = ap (λ x. b || is_resource (root x)) s.tree_is ∙ sym (k.named_is b) };
          brings = ap (λ p. record { resources = 0; places = p }) (sym k.counts_is);
        };
      }
  type_found (IsFunc f) is s keeps = absurd cc
  type_found (IsInstance es) is s keeps = absurd cc
  type_found (IsComponent is' es) is s keeps = absurd cc
  type_found (IsModule x) is s keeps = absurd cc
  type_found IsOwnModule is s keeps = absurd cc

-- what is none is not
pub no_type : (new : NewNames) (e : EntityTree) (b : Bool) → (sort.Ty ≡ sort_of e → ⊥) → described_type new (e, b) ≡ Err Index
no_type new (IsType t) b wrong = absurd (wrong refl)
no_type new (IsFunc f) b wrong = refl
no_type new (IsInstance es) b wrong = refl
no_type new (IsComponent is es) b wrong = refl
no_type new (IsModule x) b wrong = refl
no_type new IsOwnModule b wrong = refl

-- the head tells a type of instances
value_is_no_instance : (v : ValueTree) → is_instance_type (root (plain_value v)) ≡ false
value_is_no_instance (Primitive p) = refl
value_is_no_instance (TupleOf parts) = refl
value_is_no_instance (RecordOf place fields) = refl
value_is_no_instance (VariantOf place cases) = refl
value_is_no_instance (ListOf t) = refl
value_is_no_instance (FlagsOf place labels) = refl
value_is_no_instance (EnumOf place labels) = refl
value_is_no_instance (OptionOf t) = refl
value_is_no_instance (ResultOf ok err) = refl
value_is_no_instance (Own r) = refl
value_is_no_instance (Borrow r) = refl

no_truth : {A : Type 0} → true ≡ false → A
no_truth h = absurd cc

module _ (new : NewNames) (b : Bool) where
  pub no_instance : (ts : List PlainTree) (n : ℕ) (e : EntityTree) → Stands ts n (plain_entity e) → is_instance_type (root (tree_at ts n)) ≡ false → described_instance new (e, b) ≡ Err Index
  no_instance ts n (IsType (Instance es)) s wrong = no_truth (ap (λ x. is_instance_type (root x)) (sym s.tree_is) ∙ wrong)
  no_instance ts n (IsType (Value v)) s wrong = refl
  no_instance ts n (IsType (Resource r)) s wrong = refl
  no_instance ts n (IsType (Func f)) s wrong = refl
  no_instance ts n (IsType (Component is es)) s wrong = refl
  no_instance ts n (IsFunc f) s wrong = refl
  no_instance ts n (IsInstance es) s wrong = refl
  no_instance ts n (IsComponent is es) s wrong = refl
  no_instance ts n (IsModule x) s wrong = refl
  no_instance ts n IsOwnModule s wrong = refl

  -- the number of the instance in the names of the type, and of the one in those of the scope
  pub instance_found : (ts us vs : List PlainTree) (n k m : ℕ) (c : Counts) (e : EntityTree) → Stands ts n (plain_entity e) → is_instance_type (root (tree_at ts n)) ≡ true
      → Stands us k (tree head.Instance (below_root (tree_at ts n)))
      → ((e : EntityTree) → Stands us k (plain_entity e) → counts c ≡ counts_at 0 (in_entity 0 e))
      → ((e : EntityTree) → plain_entity (entity_by (opening new) 0 e) ≡ tree_by (opening new) 0 (plain_entity e))
      → Stands vs m (tree_by (opening new) 0 (tree_at us k))
      → Found (ShowsDescribed vs) (record { standing = record { number = m; named = true }; brings = c }) (described_instance new (e, b))
  instance_found ts us vs n k m c (IsType (Instance es)) s is closed counted law opened =
      let stands : Stands us k (plain_entity (IsInstance es)) = same_stands us k _ _ (ap (λ x. tree head.Instance (below_root x)) s.tree_is) closed in
      record {
        value = record { standing = (IsInstance (entries_by (opening new) 0 es), true); brings = counts_at 0 (in_entries 0 es) };
        given_is = refl;
        shown = record {
          standing = record { stands = same_stands vs m _ _ (ap (tree_by (opening new) 0) stands.tree_is ∙ sym (law (IsInstance es))) opened; named_is = refl };
          brings = counted (IsInstance es) stands;
        };
      }
  instance_found ts us vs n k m c (IsType (Value v)) s is closed counted law opened = no_truth (sym is ∙ ap (λ x. is_instance_type (root x)) s.tree_is ∙ value_is_no_instance v)
  instance_found ts us vs n k m c (IsType (Resource r)) s is closed counted law opened = no_truth (sym is ∙ ap (λ x. is_instance_type (root x)) s.tree_is)
  instance_found ts us vs n k m c (IsType (Func f)) s is closed counted law opened = no_truth (sym is ∙ ap (λ x. is_instance_type (root x)) s.tree_is)
  instance_found ts us vs n k m c (IsType (Component is' es)) s is closed counted law opened = no_truth (sym is ∙ ap (λ x. is_instance_type (root x)) s.tree_is)
  instance_found ts us vs n k m c (IsFunc f) s is closed counted law opened = no_truth (sym is ∙ ap (λ x. is_instance_type (root x)) s.tree_is)
  instance_found ts us vs n k m c (IsInstance es) s is closed counted law opened = no_truth (sym is ∙ ap (λ x. is_instance_type (root x)) s.tree_is)
  instance_found ts us vs n k m c (IsComponent is' es) s is closed counted law opened = no_truth (sym is ∙ ap (λ x. is_instance_type (root x)) s.tree_is)
  instance_found ts us vs n k m c (IsModule x) s is closed counted law opened = no_truth (sym is ∙ ap (λ x. is_instance_type (root x)) s.tree_is)
  instance_found ts us vs n k m c IsOwnModule s is closed counted law opened = no_truth (sym is ∙ ap (λ x. is_instance_type (root x)) s.tree_is)
