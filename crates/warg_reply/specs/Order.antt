-- The order in which bodies have their members.
use Rattle.std.specs.Prelude.{◌≡◌, ℕ, List, [], fold, Some}
use Rattle.std.specs.List.{AllByRecursion}
use Rattle.std.specs.BTreeMap.{insert_entry}
use Rattle.std.specs.Ordering.{nat_cmp}
use Rattle.std.specs.Cmp.Lexicographic.{slice_cmp}
use Rattle.std.specs.declared.cmp.Ordering.{Ordering}
use Rattle.warg_hash.specs.Hash.{digest_of, hash_text}

-- the order of two hashes' texts, byte by byte
abbrev pub by_text : List ℕ → List ℕ → Ordering
by_text a b = slice_cmp nat_cmp (hash_text a) (hash_text b)

-- the entries of a map by hash, ascending by the texts of their hashes
abbrev pub ascending : {X : Type 0} → List (List ℕ × X) → List (List ℕ × X)
ascending entries = fold (λ sorted e. insert_entry by_text sorted e.0 e.1) [] entries

-- a hash is the one that its text names
abbrev pub NamesItself : List ℕ → Type 0
NamesItself digest = digest_of (hash_text digest) ≡ Some digest

-- so is each hash of a map
abbrev pub NameThemselves : {X : Type 0} → List (List ℕ × X) → Type 0
NameThemselves entries = AllByRecursion (λ e. NamesItself e.0) entries
