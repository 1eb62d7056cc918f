-- That an entry is in a registry's log, and a value in its map, unless two different byte strings have one hash.
use Rattle.std.specs.Prelude.{◌≡◌, ◌⊎◌, ℕ, List, Some, IsSomeAnd, slice_get}
use Rattle.warg_proof.specs.LogTree.{inclusion_clash}
use Rattle.warg_proof.specs.MapTree.{Entries, IsMapClash, value_at, map_clash}
use Rattle.warg_proof.specs.Merkle.{IsClash}

-- the entry stands at the index; or from a path two different byte strings of equal SHA-256 are computed
abbrev pub StandsAt : List (List ℕ) → ℕ → List ℕ → Type 0
StandsAt entries index entry =
    (slice_get entries index ≡ Some entry)
    ⊎ ((path : List (List ℕ)) × IsSomeAnd (inclusion_clash entries index entry path) IsClash)

-- the map has the value at the key; or from siblings two different byte strings of equal SHA-256 are computed, or one
-- whose SHA-256 is 32 zero bytes, the hash of an empty leaf
abbrev pub HasValue : Entries → List ℕ → List ℕ → Type 0
HasValue m key value =
    (value_at m key ≡ Some value)
    ⊎ ((siblings : List (List ℕ)) × IsSomeAnd (map_clash m key value siblings) IsMapClash)
