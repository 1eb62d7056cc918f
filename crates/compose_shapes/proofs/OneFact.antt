-- That a shape is whole, and that its imports are named, is one fact each: there is one proof of it at most.
use Rattle.std.proofs.Common.{ℕ, List}
use Rattle.std.proofs.Props.{props}
use Rattle.std.specs.List.{AllByRecursion, AllByRecursion-prop}
use Rattle.comp_entity.specs.Entity.{ValueTree, Primitive, TupleOf, RecordOf, VariantOf, ListOf, FlagsOf, EnumOf, OptionOf, ResultOf, Own, Borrow, TypeShapeTree, Value, Resource, Func, Instance, Component, EntityTree, IsType, IsFunc, IsInstance, IsComponent, IsModule, IsOwnModule, Entries, no_entry, entry, ShapeTree}
use Rattle.comp_entity.specs.Views.{entries_of}
use Rattle.compose_settled.specs.Named.{HasOwnNames, HaveOwnNames}
use Rattle.compose_known.specs.Placed.{HasPlace, HasPlaces, HavePlaces}
use Rattle.compose_known.specs.InOrder.{AreInOrder, IsApart, IsInOrder, TypeInOrder}
use Rattle.compose_known.specs.Whole.{IsWhole}

one_apart : (t : ValueTree) → IsProp (IsApart t)
one_apart t = hlevel props

mutual
  one_type : (t : TypeShapeTree) → IsProp (TypeInOrder t)
  one_type (Value t) = one_apart t
  one_type (Resource r) = hlevel props
  one_type (Func f) = hlevel props
  one_type (Instance es) = hlevel (props, all_in_order es)
  one_type (Component is es) = hlevel (all_in_order is, all_in_order es)

  pub one_in_order : (e : EntityTree) → IsProp (IsInOrder e)
  one_in_order (IsType t) = one_type t
  one_in_order (IsFunc f) = hlevel props
  one_in_order (IsInstance es) = all_in_order es
  one_in_order (IsComponent is es) = hlevel (all_in_order is, all_in_order es)
  one_in_order (IsModule m) = hlevel props
  one_in_order IsOwnModule = hlevel props

  all_in_order : (es : Entries) → IsProp (AreInOrder es)
  all_in_order no_entry = hlevel props
  all_in_order (entry name e mark es) = hlevel (one_in_order e, all_in_order es)

pub one_whole : (s : ShapeTree) → IsProp (IsWhole s)
one_whole s = hlevel (props, all_in_order (entries_of s.imports), all_in_order (entries_of s.exports))

-- ---- so is that imports are named

mutual
  one_own : (e : EntityTree) → IsProp (HasOwnNames e)
  one_own (IsInstance es) = all_own es
  one_own (IsType t) = hlevel props
  one_own (IsFunc f) = hlevel props
  one_own (IsComponent is es) = hlevel props
  one_own (IsModule m) = hlevel props
  one_own IsOwnModule = hlevel props

  all_own : (es : Entries) → IsProp (HaveOwnNames es)
  all_own no_entry = hlevel props
  all_own (entry name e mark es) = hlevel (props, one_own e, all_own es)

one_place : (t : ValueTree) → IsProp (HasPlace t)
one_place (RecordOf p fields) = hlevel props
one_place (VariantOf p cases) = hlevel props
one_place (FlagsOf p labels) = hlevel props
one_place (EnumOf p labels) = hlevel props
one_place (Primitive p) = hlevel props
one_place (TupleOf ts) = hlevel props
one_place (ListOf t) = hlevel props
one_place (OptionOf t) = hlevel props
one_place (ResultOf ok err) = hlevel props
one_place (Own r) = hlevel props
one_place (Borrow r) = hlevel props

mutual
  one_placed : (e : EntityTree) → IsProp (HasPlaces e)
  one_placed (IsType (Value t)) = one_place t
  one_placed (IsType (Resource r)) = hlevel props
  one_placed (IsType (Func f)) = hlevel props
  one_placed (IsType (Instance es)) = hlevel props
  one_placed (IsType (Component is es)) = hlevel props
  one_placed (IsInstance es) = entries_placed es
  one_placed (IsFunc f) = hlevel props
  one_placed (IsComponent is es) = hlevel props
  one_placed (IsModule m) = hlevel props
  one_placed IsOwnModule = hlevel props

  entries_placed : (es : Entries) → IsProp (HavePlaces es)
  entries_placed no_entry = hlevel props
  entries_placed (entry name e mark es) = hlevel (one_placed e, entries_placed es)

pub all_apart : (es : List (List ℕ × EntityTree))
    → IsProp (AllByRecursion (λ (e : List ℕ × EntityTree). HasOwnNames e.1) es)
all_apart es = AllByRecursion-prop (λ (e : List ℕ × EntityTree). HasOwnNames e.1) (λ e. one_own e.1) es

pub all_placed : (es : List (List ℕ × EntityTree))
    → IsProp (AllByRecursion (λ (e : List ℕ × EntityTree). HasPlaces e.1) es)
all_placed es = AllByRecursion-prop (λ (e : List ℕ × EntityTree). HasPlaces e.1) (λ e. one_placed e.1) es
