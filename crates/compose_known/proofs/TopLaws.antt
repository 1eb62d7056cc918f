-- A left import of which all that it needs is known can be written.
use Rattle.std.proofs.Common.{◌≡◌, ◌&&◌, Bool, true, false}
use Rattle.std.proofs.lemmas.Bool.{and_parts}
use Rattle.comp_entity.specs.Entity.{TypeShapeTree, Value, Resource, Func, Instance, Component, EntityTree, IsType, IsFunc, IsInstance, IsComponent, IsModule, IsOwnModule, Entries, no_entry, entry}
use Rattle.comp_entity.specs.Names.{Mention}
use Rattle.compose_left.specs.declared.spots.Thing.{Thing}
use Rattle.compose_needs.specs.Lefts.{Lefts}
use Rattle.compose_needs.specs.Mentioned.{has, mentioned}
use Rattle.compose_needs.specs.Tied.{are_sides_tied, entity_holds_tied, entries_hold_tied, type_holds_tied}
use Rattle.compose_order.specs.Needs.{LeftTree, is_own}
use Rattle.compose_writing.specs.Conditions.{KeepsEntries, KeepsForm, KeepsType}
use Rattle.compose_known.specs.InOrder.{AreInOrder, IsInOrder, TypeInOrder}
use Rattle.compose_known.proofs.BehindLaws.{AllStand, Stands, TypeStands, key_of}

-- ---- entities in order, whose components keep to what they bring

mutual
  type_stands : (t : TypeShapeTree) → TypeInOrder t → KeepsType t → type_holds_tied t ≡ true → TypeStands t
  type_stands (Value t) o k h = o
  type_stands (Resource r) o k h = tt
  type_stands (Func f) o k h = tt
  type_stands (Instance es) o k h = (o.0, all_stand es o.1 k h)
  type_stands (Component is es) o k h =
      let parts = and_parts (are_sides_tied is es) (entries_hold_tied is && entries_hold_tied es) h in
      let inner = and_parts (entries_hold_tied is) (entries_hold_tied es) parts.1 in
      (parts.0, all_stand is o.0 k.0 inner.0, all_stand es o.1 k.1 inner.1)

  pub entity_stands : (e : EntityTree) → IsInOrder e → KeepsForm e → entity_holds_tied e ≡ true → Stands e
  entity_stands (IsType t) o k h = type_stands t o k h
  entity_stands (IsFunc f) o k h = tt
  entity_stands (IsInstance es) o k h = all_stand es o k h
  entity_stands (IsComponent is es) o k h =
      let parts = and_parts (are_sides_tied is es) (entries_hold_tied is && entries_hold_tied es) h in
      let inner = and_parts (entries_hold_tied is) (entries_hold_tied es) parts.1 in
      (parts.0, all_stand is o.0 k.0 inner.0, all_stand es o.1 k.1 inner.1)
  entity_stands (IsModule m) o k h = tt
  entity_stands IsOwnModule o k h = absurd k

  all_stand : (es : Entries) → AreInOrder es → KeepsEntries es → entries_hold_tied es ≡ true → AllStand es
  all_stand no_entry o k h = tt
  all_stand (entry name e mark es) o k h =
      let parts = and_parts (entity_holds_tied e) (entries_hold_tied es) h in
      (entity_stands e o.0 k.1 parts.0, all_stand es o.1 k.2 parts.1)

-- ---- an import

-- all that it mentions, and does not itself bring or export, is known
abbrev pub NeedsKnown : Lefts → LeftTree → (Mention → Bool) → Type 0
NeedsKnown left l f = (t : Thing) → has (mentioned l.entity) t ≡ true → is_own left l t ≡ false → f (key_of t) ≡ true
