-- The outermost scope, between one import and the next.
use Rattle.std.specs.Prelude.{◌≡◌, ℕ, ◌+◌, true, List, [], ◌∷◌, ◌++◌, map, length, Ok}
use Rattle.comp_format.specs.declared.types.TypeRef.{TypeRef}
use Rattle.comp_format.specs.Definitions.{TypeTree}
use Rattle.comp_entity.specs.Entity.{EntityTree, TypeShapeTree, IsType}
use Rattle.comp_entity.specs.Names.{Mention, bare}
use Rattle.comp_scope.specs.Spaces.{Known, Standing, Spaces}
use Rattle.compose_writing.specs.Scopes.{WrittenScope, knows}
use Rattle.comp_entity.specs.Bounds.{unbounded}
use Rattle.comp_scope.specs.Types.{with_type}
use Rattle.compose_writing.specs.Conditions.{with_these}
use Rattle.compose_meaning.specs.Meaning.{Meaning, placed_entity, meant}
use Rattle.compose_meaning.specs.Stands.{Grown, Stands, Knows}
use Rattle.compose_meaning.specs.Readable.{Importing, Spot, AreOlder, AreApart, brought_keys, new_resources}
use Rattle.compose_meaning.specs.Shows.{Shows}
use Rattle.compose_meaning.specs.Described.{IsDescribed}

-- where the next import stands
abbrev pub spot_of : WrittenScope → Known → Spot
spot_of m k = record {
  side = Importing;
  resources = k.spaces.brought.resources;
  known = knows (m ∷ []);
  names = map (λ (e : List ℕ × Standing). e.0) k.imports;
}

-- What is written stands for this, and what is known stands where it is known. It mentions nothing that is new in the
-- next import, and two resources of it are one exactly where they mean one name. The scope is a component's, and it
-- exports nothing.
pub record Keeps (mean : Meaning) (m : WrittenScope) (k : Known) : Type 0 where
  pub stands : Stands m k []
  pub knows : Knows 0 (meant mean) m k
  pub older : AreOlder mean (spot_of m k)
  pub apart : AreApart mean (spot_of m k).known
  pub is_component : k.spaces.is_closed ≡ true
  pub exports : k.exports ≡ []

-- More was written, and nothing imported: the same is known, and the next import stands where it stood.
pub record GoesOn (mean : Meaning) (m : WrittenScope) (k : Known) (later : List WrittenScope) : Type 0 where
  pub scope : WrittenScope
  pub known : Known
  pub is : later ≡ scope ∷ []
  pub keeps : Keeps mean scope known
  pub same_known : scope.known ≡ m.known
  pub grown : Grown k.spaces known.spaces
  pub imports : known.imports ≡ k.imports
  pub brought : known.spaces.brought ≡ k.spaces.brought
  pub spot : spot_of scope known ≡ spot_of m k

-- a type more
abbrev pub with_one_type : Spaces → TypeShapeTree → Spaces
with_one_type s t = record s { types = s.types ++ (IsType t, true) ∷ [] }

-- What was written for an entity describes it.
pub record IsWritten (mean : Meaning) (m : WrittenScope) (k : Known) (later : List WrittenScope) (ty : TypeRef) (e : EntityTree) :
    Type 0 where
  pub goes_on : GoesOn mean m k later
  pub describes : IsDescribed mean (spot_of m k) ty e goes_on.known.spaces

-- What was written is a type that is added as the next one. By its index the entity is described.
pub record IsNextType (mean : Meaning) (m : WrittenScope) (k : Known) (later : List WrittenScope) (t : TypeTree) (by : ℕ → TypeRef)
    (e : EntityTree) : Type 0 where
  pub goes_on : GoesOn mean m k later
  pub ty : TypeShapeTree
  pub reads : with_type unbounded [] goes_on.known.spaces t ≡ Ok (with_one_type goes_on.known.spaces ty)
  pub describes : IsDescribed mean (spot_of m k) (by (length goes_on.known.spaces.types)) e
      (with_one_type goes_on.known.spaces ty)

-- The entity is imported, and what it brings is known. Its resources are called as they are meant to be, and which
-- places named types is set aside.
pub record IsImported (mean : Meaning) (m : WrittenScope) (k : Known) (later : List WrittenScope) (name : List ℕ) (e : EntityTree) :
    Type 0 where
  pub scope : WrittenScope
  pub known : Known
  pub is : later ≡ scope ∷ []
  pub keeps : Keeps mean scope known
  pub standing : Standing
  pub imports : known.imports ≡ k.imports ++ (name, standing) ∷ []
  pub entity : bare standing.0 ≡ placed_entity mean e
  pub shows : Shows mean e standing
  pub resources : known.spaces.brought.resources ≡ k.spaces.brought.resources + new_resources mean (spot_of m k) e
  pub knows : (key : Mention) → knows (scope ∷ []) key ≡ with_these (knows (m ∷ [])) (brought_keys e) key
