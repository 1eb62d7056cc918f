-- That left imports stand in order as they are written is one fact: so it is enough that shapes may be well named.
use Rattle.std.proofs.Common.{ℕ, zero, suc, List, [], ◌∷◌, map}
use Rattle.std.proofs.Props.{props}
use Rattle.std.specs.List.{AllByRecursion}
use Rattle.comp_entity.specs.Entity.{ValueTree, TypeShapeTree, Value, Resource, Func, Instance, Component, EntityTree, IsType, IsFunc, IsInstance, IsComponent, IsModule, IsOwnModule, Entries, no_entry, entry}
use Rattle.compose_order.specs.Needs.{LeftTree}
use Rattle.compose_check.specs.Composition.{ComponentTree, shape_numbered}
use Rattle.compose_naming.specs.Settled.{settled}
use Rattle.compose_known.specs.InOrder.{AreInOrder, IsApart, IsInOrder, TypeInOrder}
use Rattle.compose_known.specs.Whole.{IsWhole}
use Rattle.compose_settled.specs.Written.{HasImportsInOrder, IsWrittenInOrder}

one_apart : (t : ValueTree) → IsProp (IsApart t)
one_apart t = hlevel props

mutual
  one_type : (t : TypeShapeTree) → IsProp (TypeInOrder t)
  one_type (Value t) = one_apart t
  one_type (Resource r) = hlevel props
  one_type (Func f) = hlevel props
  one_type (Instance es) = hlevel (props, all_in_order es)
  one_type (Component is es) = hlevel (all_in_order is, all_in_order es)

  one_in_order : (e : EntityTree) → IsProp (IsInOrder e)
  one_in_order (IsType t) = one_type t
  one_in_order (IsFunc f) = hlevel props
  one_in_order (IsInstance es) = all_in_order es
  one_in_order (IsComponent is es) = hlevel (all_in_order is, all_in_order es)
  one_in_order (IsModule m) = hlevel props
  one_in_order IsOwnModule = hlevel props

  all_in_order : (es : Entries) → IsProp (AreInOrder es)
  all_in_order no_entry = hlevel props
  all_in_order (entry name e mark es) = hlevel (one_in_order e, all_in_order es)

pub one_written : (ls : List LeftTree) → IsProp (AllByRecursion IsWrittenInOrder ls)
one_written [] = hlevel props
one_written (l ∷ ls) = hlevel (one_in_order (settled l).entity, one_written ls)

-- ---- the shapes of instances are those of components

abbrev ComponentIsWhole : ComponentTree → Type 0
ComponentIsWhole k = IsWhole k.shape

numbered : (ks : List ComponentTree) (n : ℕ) → AllByRecursion ComponentIsWhole ks → HasImportsInOrder (shape_numbered ks n)
numbered [] n h = tt
numbered (k ∷ ks) zero h = h.0.imports
numbered (k ∷ ks) (suc n) h = numbered ks n h.1

pub shapes_in_order : (ks : List ComponentTree) (instances : List ℕ) → AllByRecursion ComponentIsWhole ks → AllByRecursion HasImportsInOrder (map (shape_numbered ks) instances)
shapes_in_order ks [] h = tt
shapes_in_order ks (n ∷ ns) h = (numbered ks n h, shapes_in_order ks ns h)
