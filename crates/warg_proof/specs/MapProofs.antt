-- What a map bundle holds: its bytes, and what its paths prove.
use Rattle.std.specs.Prelude.{◌≡◌, ℕ, zero, suc, ◌+◌, ◌-◌, if◌then◌else◌, List, [], ◌∷◌, ◌++◌, length, Some, slice_get, slice_index_or}
use Rattle.std.specs.List.{flat_map, AllByRecursion}
use Rattle.sha2.specs.Sha256.{sha256}
use Rattle.warg_hash.specs.Hash.{IsDigest}
use Rattle.warg_proof.specs.Merkle.{AreHashes}
use Rattle.warg_proof.specs.MapTree.{empty_root, has_bit, map_path_root}
use Rattle.warg_proof.specs.LogProofs.{counted, AreCounted}

-- A path of a map: the bits of 32 bytes say at which depths a sibling is given, and the given ones stand from
-- the root down.
pub record MapPath : Type 0 where
  pub given : List ℕ
  pub siblings : List (List ℕ)

-- the path of these bits and siblings
abbrev pub path_of : List ℕ → List (List ℕ) → MapPath
path_of given siblings = record { given = given; siblings = siblings }

-- at how many of the first depths a sibling is given
unfoldable pub given_before : ℕ → List ℕ → ℕ
given_before zero given = 0
given_before (suc depth) given = given_before depth given + (if has_bit given depth then 1 else 0)

-- ---- the bytes

abbrev pub path_text : MapPath → List ℕ
path_text path = path.given ++ flat_map (λ hash. hash) path.siblings

abbrev pub map_text : List MapPath → List ℕ
map_text paths = 0 ∷ counted path_text paths

-- there is a sibling for each bit that is 1
pub record IsMapPath (path : MapPath) : Type 0 where
  pub given : IsDigest path.given
  pub count : length path.siblings ≡ given_before 256 path.given
  pub siblings : AllByRecursion IsDigest path.siblings

abbrev pub IsMapBundle : List MapPath → Type 0
IsMapBundle paths = AreCounted IsMapPath paths

-- ---- siblings

-- the sibling at a depth: the given one, or the root of the empty subtree there
abbrev pub sibling_at : MapPath → ℕ → List ℕ
sibling_at path depth = if has_bit path.given depth then slice_index_or path.siblings (given_before depth path.given) [] else empty_root (255 - depth)

-- the siblings in the subtree of a height, from its split down
unfoldable pub siblings_within : ℕ → MapPath → List (List ℕ)
siblings_within zero path = []
siblings_within (suc height) path = sibling_at path (255 - height) ∷ siblings_within height path

-- all 256 siblings, from the root down
abbrev pub siblings : MapPath → List (List ℕ)
siblings path = siblings_within 256 path

-- ---- what a bundle proves

-- the key of a log in the map: the SHA-256 of its id's bytes
abbrev pub log_key : List ℕ → List ℕ
log_key log_id = sha256 log_id

-- the bundle's path of a number gives the root for a log's value
pub record ProvesValue (paths : List MapPath) (at : ℕ) (log_id value root : List ℕ) : Type 0 where
  pub path : MapPath
  pub asked : slice_get paths at ≡ Some path
  pub are_hashes : AreHashes (siblings path)
  pub gives_root : map_path_root (log_key log_id) value (siblings path) ≡ Some root
