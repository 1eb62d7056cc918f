-- What a caller sees to, so that what is written for an entity reads back: that each name in it has a meaning where it
-- stands (Component Model, Explainer.md, "Import and Export Definitions").
use Rattle.std.specs.Prelude.{◌≡◌, ℕ, ◌+◌, ◌-◌, Bool, true, false, ◌&&◌, ◌||◌, not, List, [], ◌∷◌, ◌++◌, flat_map, Option, Some, None, nat_le, ◌==◌, if◌then◌else◌}
use Rattle.std.specs.List.{AllByRecursion, list_any}
use Rattle.std.specs.Str.{str_eq_ignore_ascii_case}
use Rattle.comp_entity.specs.Entity.{Name, made, brought, ValueTree, TypeShapeTree, Value, Resource, Func, Instance, Component, EntityTree, IsType, IsFunc, IsInstance, IsComponent, IsModule, IsOwnModule, Entries, no_entry, entry}
use Rattle.comp_entity.specs.Names.{changing, deeper, outside, value_by, entries_by, Mention, OfResource, OfPlace, in_type, in_entries, resource_at, mentions_resource, counts_at}
use Rattle.comp_entity.specs.Fits.{place_of}
use Rattle.comp_entity.specs.Places.{names_itself}
use Rattle.comp_scope.specs.Closing.{first_mentions, renumbered}
use Rattle.compose_writing.specs.Conditions.{with_these}
use Rattle.compose_writing.specs.Keys.{name_outside, mention_outside, from_within}
use Rattle.compose_meaning.specs.Meaning.{Meaning, placed_entries, named_type, own_bit, func_bit, IsMentioned, OneTree, OneTreeFunc}

-- an import or an export, and what is new in one is named so
pub data SpotKind : Type 0 where
  Importing : SpotKind
  Exporting : SpotKind

abbrev pub new_name : SpotKind → ℕ → Name
new_name Importing n = brought n
new_name Exporting n = made n

-- Where an entity is imported or exported: how many resources its scope has brought or made, which things are known,
-- and under which names there are imports or exports already.
pub record Spot : Type 0 where
  pub side : SpotKind
  pub resources : ℕ
  pub known : Mention → Bool
  pub names : List (List ℕ)

-- within a type of instances: it makes a scope of its own, in which what its place brings is what it makes
abbrev pub is_new : Spot → Name → Bool
is_new p n = (n.out == (new_name p.side 0).out) && nat_le p.resources n.number

abbrev pub inside : Spot → Name → Name
inside p n = if is_new p n then made (n.number - p.resources) else deeper 1 n

abbrev pub within : Spot → Meaning → Meaning
within p mean = record mean { resource = λ n. inside p (mean.resource n) }

-- ---- within types that are scopes of names

abbrev pub by_scope : {X : Type 0} → X → (Name → X) → Option Name → X
by_scope own around None = own
by_scope own around (Some n) = around n

-- a value type that mentions no resource
abbrev pub is_free : Meaning → Mention → Bool
is_free mean (OfResource r) = false
is_free mean (OfPlace n) = not (mentions_resource (Value (mean.tree n)))

-- From within a type of components only such types of the scopes around it may be mentioned.
abbrev pub may_within : Bool → Meaning → Option Mention → Bool
may_within is_component mean None = true
may_within is_component mean (Some key) = mean.may_mention key && (not is_component || is_free mean key)

-- the tree of a place, in the names of a scope so many scopes within
abbrev pub further_in : ℕ → Meaning → Name → ValueTree
further_in width mean n = value_by (changing (deeper width) (deeper width)) 0 (mean.tree n)

-- Names of scopes around the type mean there what they mean around it. The type's own resources are called as they are,
-- and its own places stand for types of their own.
abbrev pub meaning_within : Bool → ℕ → Meaning → Meaning → Meaning
meaning_within is_component width own mean = record {
  may_mention = λ key. may_within is_component mean (mention_outside width key);
  resource = outside mean.resource width;
  tree = λ n. by_scope (own.tree n) (further_in width mean) (name_outside width n);
  bit = λ n. by_scope (own.bit n) mean.bit (name_outside width n);
}

abbrev pub in_instance_type : Meaning → Meaning → Meaning
in_instance_type own mean = meaning_within false 1 own mean

abbrev pub in_component_type : Meaning → Meaning → Meaning
in_component_type own mean = meaning_within true 2 own mean

-- The resources that a component makes are numbered by their first mention, exports before imports. Imports mention
-- none of them.
abbrev pub own_order : Entries → Entries → List ℕ
own_order is es = first_mentions (flat_map (resource_at 0) (in_entries 0 es ++ in_entries 0 is))

pub record IsNumbered (is es : Entries) : Type 0 where
  pub imports : entries_by (changing (renumbered (own_order is es)) (λ n. n)) 0 is ≡ is
  pub exports : entries_by (changing (renumbered (own_order is es)) (λ n. n)) 0 es ≡ es
  pub made_behind : flat_map (resource_at 0) (in_entries 0 is) ≡ []

-- ---- where things stand

-- a scope at its begin, in which what is known around it is known
abbrev pub first_spot : SpotKind → (Mention → Bool) → Spot
first_spot side known = record { side = side; resources = 0; known = known; names = [] }

-- What is known mentions no resource that is new.
abbrev pub IsOlder : Meaning → Spot → ℕ × Mention → Type 0
IsOlder mean p (depth, OfResource r) = is_new p (mean.resource r) ≡ false
IsOlder mean p (depth, OfPlace n) = Unit {0}

abbrev pub AreOlder : Meaning → Spot → Type 0
AreOlder mean p = (key : Mention) → p.known key ≡ true
    → AllByRecursion (IsOlder mean p) (in_type 0 (named_type mean key))

-- Resources that are known are called differently.
abbrev pub AreApart : Meaning → (Mention → Bool) → Type 0
AreApart mean known = (r s : Name) → known (OfResource r) ≡ true → known (OfResource s) ≡ true
    → mean.resource r ≡ mean.resource s → r ≡ s

-- ---- what an entity brings, instances gone into

abbrev mutual
  pub brought_keys : EntityTree → List Mention
  brought_keys (IsType t) = names_itself (IsType t)
  brought_keys (IsFunc f) = []
  brought_keys (IsInstance es) = keys_among es
  brought_keys (IsComponent is es) = []
  brought_keys (IsModule m) = []
  brought_keys IsOwnModule = []

  pub keys_among : Entries → List Mention
  keys_among no_entry = []
  keys_among (entry name e mark es) = brought_keys e ++ keys_among es

abbrev pub new_resources : Meaning → Spot → EntityTree → ℕ
new_resources mean p (IsType (Resource r)) = if p.known (OfResource r) then 0 else 1
new_resources mean p (IsInstance es) = (counts_at 0 (in_entries 0 (placed_entries (within p mean) es))).resources
new_resources mean p _ = 0

-- where the next one stands
abbrev pub behind : Meaning → Spot → List ℕ → EntityTree → Spot
behind mean p name e = record {
  side = p.side;
  resources = p.resources + new_resources mean p e;
  known = with_these p.known (brought_keys e);
  names = p.names ++ name ∷ [];
}

unfoldable pub behind_all : Meaning → Spot → Entries → Spot
behind_all mean p no_entry = p
behind_all mean p (entry name e mark es) = behind_all mean (behind mean p name e) es

-- how many resources that were not known an instance exports as types
abbrev pub exported_resources : Meaning → Spot → Entries → ℕ
exported_resources mean p es = (behind_all (within p mean) (first_spot Exporting p.known) es).resources

-- the exports of a component stand behind its imports
abbrev pub exports_spot : Meaning → Spot → Entries → Spot
exports_spot mean p is = first_spot Exporting (behind_all mean p is).known

-- ---- each name has a meaning

-- the place of a type that is not known has the naming bit where all parts of the type have it
abbrev pub NewPlace : Meaning → (Mention → Bool) → ValueTree → Option Name → Type 0
NewPlace mean known t None = Unit {0}
NewPlace mean known t (Some n) = known (OfPlace n) ≡ false → mean.bit n ≡ own_bit mean.bit t

-- The names of a component have a meaning in its imports, and behind these in its exports.
abbrev pub ComponentHas : Meaning → Spot → Entries → Entries → (Meaning → Spot → Type 0) → (Meaning → Spot → Type 0)
    → Type 0
ComponentHas mean p is es Imports Exports = (own : Meaning)
    × Imports (in_component_type own mean) p
    × Exports (in_component_type own mean) (exports_spot (in_component_type own mean) p is)
    × IsNumbered is es

-- A resource that is not known is the next one of the scope. Functions have the naming bit, and names differ, letter
-- case set aside.
abbrev mutual
  pub TypeHasMeaning : Meaning → Spot → TypeShapeTree → Type 0
  TypeHasMeaning mean p (Value t) = OneTree mean t × NewPlace mean p.known t (place_of t)
  TypeHasMeaning mean p (Resource r) =
      IsMentioned mean (OfResource r) × (p.known (OfResource r) ≡ false → mean.resource r ≡ new_name p.side p.resources)
  TypeHasMeaning mean p (Func f) = OneTreeFunc mean f
  TypeHasMeaning mean p (Instance es) =
      (own : Meaning) × HaveMeaning (in_instance_type own mean) (first_spot Exporting (from_within 1 p.known)) es
  TypeHasMeaning mean p (Component is es) = ComponentHas mean (first_spot Importing (from_within 2 p.known)) is es
      (λ inner at. HaveMeaning inner at is) (λ inner at. HaveMeaning inner at es)

  pub HasMeaning : Meaning → Spot → EntityTree → Type 0
  HasMeaning mean p (IsType t) = TypeHasMeaning mean p t
  HasMeaning mean p (IsFunc f) = OneTreeFunc mean f × (func_bit mean.bit f ≡ true)
  HasMeaning mean p (IsInstance es) = HaveMeaning (within p mean) (first_spot Exporting p.known) es
  HasMeaning mean p (IsComponent is es) = ComponentHas mean (first_spot Importing (from_within 2 p.known)) is es
      (λ inner at. HaveMeaning inner at is) (λ inner at. HaveMeaning inner at es)
  HasMeaning mean p (IsModule m) = Unit {0}
  HasMeaning mean p IsOwnModule = ⊥

  pub HaveMeaning : Meaning → Spot → Entries → Type 0
  HaveMeaning mean p no_entry = Unit {0}
  HaveMeaning mean p (entry name e mark es) = (list_any (str_eq_ignore_ascii_case name) p.names ≡ false)
      × HasMeaning mean p e
      × HaveMeaning mean (behind mean p name e) es
