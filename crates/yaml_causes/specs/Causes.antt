-- Why a type does not read a node, in the node's own words. What a list's items and a map's entries are put to is read
-- from the first to the last, so what stands in front of the one that is refused is read.
use Rattle.std.specs.Prelude.{◌≡◌, ℕ, ◌+◌, List, Bool, true, false, ◌⊎◌, Option, Some, None, Result, Err}
use Rattle.yaml_small.specs.declared.event.Event.{Event}
use Rattle.yaml_small.specs.declared.event.Event.TheVariants as events
use Rattle.yaml_small.specs.Trees.{Tree, Leaf, Seq, Map, Trees, none, more, Pairs, no_pairs, pair, scalar_event}
use Rattle.yaml_small.specs.Scalars.{is_plain}
use Rattle.yaml_read.specs.Source.{Refusal, WrongEvent, UnknownField, TooManyEvents}
use Rattle.yaml_read.specs.Scalar.{is_null}

-- More events than are counted end each read.
abbrev pub OrUncounted : (Refusal → Type 0) → Refusal → Type 0
OrUncounted Refuses refusal = (refusal ≡ TooManyEvents) ⊎ Refuses refusal

-- the event that a node begins with; none is the stream's end
abbrev pub first_event : Option Tree → Event
first_event None = events.StreamEnd
first_event (Some (Leaf s)) = scalar_event s
first_event (Some (Seq ts)) = events.SequenceStart
first_event (Some (Map ps)) = events.MappingStart

-- a node of another kind or style than is wanted
abbrev pub IsOther : Option Tree → Refusal → Type 0
IsOther node refusal = refusal ≡ WrongEvent (first_event node)

-- a scalar of any style is wanted
abbrev pub RefusesAny : Option Tree → Refusal → Type 0
RefusesAny None refusal = IsOther None refusal
RefusesAny (Some (Leaf s)) refusal = ⊥
RefusesAny (Some (Seq ts)) refusal = IsOther (Some (Seq ts)) refusal
RefusesAny (Some (Map ps)) refusal = IsOther (Some (Map ps)) refusal

-- a plain scalar is wanted, which is taken for something
abbrev pub RefusesPlain : {X : Type 0} → (List ℕ → Result X Refusal) → Option Tree → Refusal → Type 0
RefusesPlain f None refusal = IsOther None refusal
RefusesPlain f (Some (Leaf s)) refusal =
    ((is_plain s.style ≡ true) × (f s.text ≡ Err refusal))
    ⊎ ((is_plain s.style ≡ false) × IsOther (Some (Leaf s)) refusal)
RefusesPlain f (Some (Seq ts)) refusal = IsOther (Some (Seq ts)) refusal
RefusesPlain f (Some (Map ps)) refusal = IsOther (Some (Map ps)) refusal

-- A list is wanted: an item is refused behind items that are read.
abbrev pub RefusesItems : {X : Type 0} → (X → ℕ → Option Tree → Option X)
    → (X → ℕ → Option Tree → Refusal → Type 0) → ℕ → X → Trees → Refusal → Type 0
RefusesItems takes Refuses at x none refusal = ⊥
RefusesItems {X} takes Refuses at x (more t ts) refusal =
    Refuses x at (Some t) refusal
    ⊎ ((y : X) × (takes x at (Some t) ≡ Some y) × RefusesItems takes Refuses (at + 1) y ts refusal)

abbrev pub RefusesList : {X : Type 0} → (X → ℕ → Option Tree → Option X)
    → (X → ℕ → Option Tree → Refusal → Type 0) → X → Option Tree → Refusal → Type 0
RefusesList takes Refuses x None refusal = IsOther None refusal
RefusesList takes Refuses x (Some (Leaf s)) refusal = IsOther (Some (Leaf s)) refusal
RefusesList takes Refuses x (Some (Seq ts)) refusal = RefusesItems takes Refuses 0 x ts refusal
RefusesList takes Refuses x (Some (Map ps)) refusal = IsOther (Some (Map ps)) refusal

-- A map is wanted: an entry is refused behind entries that are read.
abbrev pub RefusesEntries : {X : Type 0} → (X → List ℕ → Option Tree → Option X)
    → (X → List ℕ → Option Tree → Refusal → Type 0) → X → Pairs → Refusal → Type 0
RefusesEntries takes Refuses x no_pairs refusal = ⊥
RefusesEntries {X} takes Refuses x (pair key t ps) refusal =
    Refuses x key.text (Some t) refusal
    ⊎ ((y : X) × (takes x key.text (Some t) ≡ Some y) × RefusesEntries takes Refuses y ps refusal)

abbrev pub RefusesMap : {X : Type 0} → (X → List ℕ → Option Tree → Option X)
    → (X → List ℕ → Option Tree → Refusal → Type 0) → X → Option Tree → Refusal → Type 0
RefusesMap takes Refuses x None refusal = IsOther None refusal
RefusesMap takes Refuses x (Some (Leaf s)) refusal = IsOther (Some (Leaf s)) refusal
RefusesMap takes Refuses x (Some (Seq ts)) refusal = IsOther (Some (Seq ts)) refusal
RefusesMap takes Refuses x (Some (Map ps)) refusal = RefusesEntries takes Refuses x ps refusal

-- what may be missing: `null` and `~` are read
abbrev pub RefusesOption : (Option Tree → Refusal → Type 0) → Option Tree → Refusal → Type 0
RefusesOption Refuses None refusal = Refuses None refusal
RefusesOption Refuses (Some (Leaf s)) refusal = (is_null s.text ≡ false) × Refuses (Some (Leaf s)) refusal
RefusesOption Refuses (Some (Seq ts)) refusal = Refuses (Some (Seq ts)) refusal
RefusesOption Refuses (Some (Map ps)) refusal = Refuses (Some (Map ps)) refusal

-- what is read is put to a test
abbrev pub RefusesTest : {X Y : Type 0} → (X → Result Y Refusal) → (Option Tree → Option X)
    → (Option Tree → Refusal → Type 0) → Option Tree → Refusal → Type 0
RefusesTest {X} f of_node Refuses node refusal =
    Refuses node refusal ⊎ ((x : X) × (of_node node ≡ Some x) × (f x ≡ Err refusal))

-- a field that the type does not have
abbrev pub IsUnknown : List ℕ → Option Tree → Refusal → Type 0
IsUnknown name _ refusal = refusal ≡ UnknownField name

-- one of two, by a test of a field's name
abbrev pub RefusesIf : Bool → (Option Tree → Refusal → Type 0) → (Option Tree → Refusal → Type 0)
    → Option Tree → Refusal → Type 0
RefusesIf b Yes No node refusal = ((b ≡ true) × Yes node refusal) ⊎ ((b ≡ false) × No node refusal)
