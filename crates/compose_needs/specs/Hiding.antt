-- Imports agree, last parts, in the words of the rule: what exports mention can be had, and which does not.
use Rattle.std.specs.Prelude.{◌≡◌, ℕ, List, [], ◌∷◌, ◌++◌, flat_map}
use Rattle.std.specs.List.{AllByRecursion}
use Rattle.comp_entity.specs.Entity.{ShapeTree}
use Rattle.compose_needs.specs.declared.place.Place.{Place}
use Rattle.compose_needs.specs.Components.{HoldsTied}
use Rattle.compose_needs.specs.Exports.{NamedEntities, NamedEntity, given_places, own_places}
use Rattle.compose_needs.specs.Lefts.{Lefts}
use Rattle.compose_needs.specs.Tied.{AreTied}

abbrev pub NameBytes : Type 0
NameBytes = List ℕ

-- the places of exports of an instance, one export behind the other
abbrev pub export_places : Lefts → NamedEntities → List Place
export_places left es = flat_map (λ (e : NamedEntity). given_places left e.1) es

-- Each resource in the exports of an instance is brought by a left import, or exported there or earlier.
abbrev pub ExportsAreHad : Lefts → NamedEntities → Type 0
ExportsAreHad left es = AreTied (export_places left es)

-- the places of imports, or exports, of a component
abbrev pub entity_places : NamedEntities → List Place
entity_places es = flat_map (λ (e : NamedEntity). own_places e.1) es

abbrev pub HoldsEachTied : NamedEntity → Type 0
HoldsEachTied e = HoldsTied e.1

-- What these mention of their own component is brought or exported there or earlier, and in the components within them
-- too.
pub record EntitiesAreHad (es : NamedEntities) : Type 0 where
  pub tied : AreTied (entity_places es)
  pub within : AllByRecursion HoldsEachTied es

abbrev pub SidesAreHad : ShapeTree → Type 0
SidesAreHad s = EntitiesAreHad (s.imports ++ s.exports)

-- The first of some that mentions what can't be had, by its name: those before it mention what can be, and with it they
-- don't.
pub record IsFirstHiding (Had : NamedEntities → Type 0) (es : NamedEntities) (name : List ℕ) : Type 0 where
  pub before : NamedEntities
  pub entity : NamedEntity
  pub after : NamedEntities
  pub all : es ≡ before ++ entity ∷ after
  pub had : Had before
  pub hidden : ¬ (Had (before ++ entity ∷ []))
  pub named : name ≡ entity.0
