-- What a description of an import or an export says of an entity, in the scope in which it stands.
use Rattle.std.specs.Prelude.{◌≡◌, ℕ, List, [], Ok}
use Rattle.std.specs.List.{AllByRecursion}
use Rattle.comp_format.specs.declared.types.TypeRef.{TypeRef}
use Rattle.comp_format.specs.declared.types.TypeRef.TheVariants as description
use Rattle.comp_entity.specs.declared.module.ModuleShape.{ModuleShape}
use Rattle.comp_entity.specs.Entity.{FuncTree, TypeShapeTree, EntityTree, IsType, IsFunc, IsInstance, IsComponent, IsModule, Entries}
use Rattle.comp_entity.specs.Names.{in_type}
use Rattle.comp_scope.specs.Spaces.{Spaces, Known, Standing}
use Rattle.comp_scope.specs.Descriptions.{NewNames, new_brought, new_made, Described, described}
use Rattle.compose_meaning.specs.Meaning.{Meaning, named_type}
use Rattle.compose_meaning.specs.Readable.{SpotKind, Importing, Exporting, Spot, brought_keys, new_resources, behind, IsOlder}
use Rattle.compose_meaning.specs.Shows.{Shows}

-- what is new in an import, or in an export
abbrev pub new_of : SpotKind → Spaces → NewNames
new_of Importing = new_brought
new_of Exporting = new_made

-- the imports, or the exports
abbrev pub listed : SpotKind → Known → List (List ℕ × Standing)
listed Importing k = k.imports
listed Exporting k = k.exports

-- how many resources were brought, or made
abbrev pub count : SpotKind → Spaces → ℕ
count Importing s = s.brought.resources
count Exporting s = s.made.resources

-- a description of this sort gives an entity of this sort
abbrev pub Matches : TypeRef → EntityTree → Type 0
Matches (description.Module i) e = (m : ModuleShape) × (e ≡ IsModule m)
Matches (description.Func i) e = (f : FuncTree) × (e ≡ IsFunc f)
Matches (description.TyEqual i) e = (t : TypeShapeTree) × (e ≡ IsType t)
Matches description.TyFresh e = (t : TypeShapeTree) × (e ≡ IsType t)
Matches (description.Component i) e = (is : Entries) × (es : Entries) × (e ≡ IsComponent is es)
Matches (description.Instance i) e = (es : Entries) × (e ≡ IsInstance es)

-- The description describes this entity, and so many new resources.
pub record Describing (mean : Meaning) (p : Spot) (ty : TypeRef) (e : EntityTree) (s : Spaces) : Type 0 where
  pub what : Described
  pub is : described s (new_of p.side s) ty ≡ Ok what
  pub shows : Shows mean e what.standing
  pub brings : what.brings.resources ≡ new_resources mean p e
  pub matches : Matches ty what.standing.0

-- The same, and what the entity brings mentions nothing that is new behind it.
pub record IsDescribed (mean : Meaning) (p : Spot) (ty : TypeRef) (e : EntityTree) (s : Spaces) : Type 0 where
  pub describes : Describing mean p ty e s
  pub older : AllByRecursion
      (λ key. AllByRecursion (IsOlder mean (behind mean p [] e)) (in_type 0 (named_type mean key)))
      (brought_keys e)
