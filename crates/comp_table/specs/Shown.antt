-- Entities in which no core module of a component's own stands. The type of such a module is not known, so that nothing
-- equals it, and it is in no shape.
use Rattle.comp_entity.specs.Views.{Sides}
use Rattle.comp_entity.specs.Entity.{TypeShapeTree, Value, Resource, Func, Instance, Component, EntityTree, IsType, IsFunc, IsInstance, IsComponent, IsModule, IsOwnModule, Entries, no_entry, entry}

abbrev mutual
  pub IsShownType : TypeShapeTree → Type 0
  IsShownType (Value t) = Unit {0}
  IsShownType (Resource r) = Unit {0}
  IsShownType (Func f) = Unit {0}
  IsShownType (Instance exports) = AreShown exports
  IsShownType (Component imports exports) = AreShown imports × AreShown exports

  pub IsShown : EntityTree → Type 0
  IsShown (IsType t) = IsShownType t
  IsShown (IsFunc f) = Unit {0}
  IsShown (IsInstance exports) = AreShown exports
  IsShown (IsComponent imports exports) = AreShown imports × AreShown exports
  IsShown (IsModule m) = Unit {0}
  IsShown IsOwnModule = ⊥

  pub AreShown : Entries → Type 0
  AreShown no_entry = Unit {0}
  AreShown (entry name e mark es) = IsShown e × AreShown es

abbrev pub SidesAreShown : Sides → Type 0
SidesAreShown s = AreShown s.imports × AreShown s.exports
