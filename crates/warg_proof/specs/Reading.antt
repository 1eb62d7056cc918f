-- Reading a proof bundle from left to right. The one fault is `Form`.
use Rattle.std.specs.Prelude.{◌≡◌, ℕ, zero, suc, List, [], ◌∷◌, length, take, drop, Result, Ok, Err, nat_lt, ◌==◌, if◌then◌else◌}
use Rattle.std.specs.Int.{Width, w32, w64, byte_len, from_be_bytes}
use Rattle.warg_values.specs.Reading.{◌>>=◌}
use Rattle.warg_proof.specs.declared.fault.ProofFault.{ProofFault}
use Rattle.warg_proof.specs.declared.fault.ProofFault.TheVariants.{Form, Memory, WrongCount, WrongLeaf, WrongLength, MissingHash, OtherRoot}
use Rattle.warg_proof.specs.declared.node.Node.{Node}
use Rattle.warg_proof.specs.declared.node.Consistency.{Consistency}
use Rattle.warg_proof.specs.declared.node.Inclusion.{Inclusion}
use Rattle.warg_proof.specs.LogProofs.{LogProofs, is_ascending}
use Rattle.warg_proof.specs.MapProofs.{MapPath, given_before}

-- what reading gives
abbrev pub Read : Type 0 → Type 0
Read X = Result X ProofFault

-- A refusal is want of memory, or the fault of the bytes.
abbrev pub Refuses : {Y : Type 0} → ProofFault → Read Y → Type 0
Refuses Memory read = Unit {0}
Refuses Form read = read ≡ Err Form
Refuses WrongCount read = ⊥
Refuses WrongLeaf read = ⊥
Refuses WrongLength read = ⊥
Refuses MissingHash read = ⊥
Refuses (OtherRoot root found) read = ⊥

-- What a function answered, seen by view, is what reading gives, unless memory ran out.
abbrev pub GivesOrForm : {X Y : Type 0} → (X → Y) → Read X → Read Y → Type 0
GivesOrForm view (Ok x) read = read ≡ Ok (view x)
GivesOrForm view (Err fault) read = Refuses fault read

-- ---- fields: a value, and the bytes after it

unfoldable pub byte_at : List ℕ → Read (ℕ × List ℕ)
byte_at [] = Err Form
byte_at (byte ∷ rest) = Ok (byte, rest)

abbrev pub number_at : Width → List ℕ → Read (ℕ × List ℕ)
number_at w bytes = if nat_lt (length bytes) (byte_len w) then Err Form else Ok (from_be_bytes w (take (byte_len w) bytes), drop (byte_len w) bytes)

abbrev pub hash_at : List ℕ → Read (List ℕ × List ℕ)
hash_at bytes = if nat_lt (length bytes) 32 then Err Form else Ok (take 32 bytes, drop 32 bytes)

unfoldable pub node_at : List ℕ → Read (Node × List ℕ)
node_at bytes = do
  level ← byte_at bytes
  place ← number_at w64 level.1
  hash ← hash_at place.1
  Ok (record { level = level.0; place = place.0; hash = hash.0 }, hash.1)

unfoldable pub consistency_at : List ℕ → Read (Consistency × List ℕ)
consistency_at bytes = do
  old ← number_at w64 bytes
  new ← number_at w64 old.1
  Ok (record { old_length = old.0; new_length = new.0 }, new.1)

unfoldable pub inclusion_at : List ℕ → Read (Inclusion × List ℕ)
inclusion_at bytes = do
  log ← number_at w64 bytes
  index ← number_at w64 log.1
  Ok (record { log_length = log.0; index = index.0 }, index.1)

-- as many values as a count says, and the bytes after them
unfoldable pub each_at : {X : Type 0} → (List ℕ → Read (X × List ℕ)) → ℕ → List ℕ → Read (List X × List ℕ)
each_at one zero bytes = Ok ([], bytes)
each_at one (suc count) bytes = do
  first ← one bytes
  others ← each_at one count first.1
  Ok (first.0 ∷ others.0, others.1)

-- a count and as many values
unfoldable pub counted_at : {X : Type 0} → (List ℕ → Read (X × List ℕ)) → List ℕ → Read (List X × List ℕ)
counted_at one bytes = do
  count ← number_at w32 bytes
  each_at one count.0 count.1

-- ---- bundles: all of the bytes

unfoldable pub log_rest_at : List ℕ → Read LogProofs
log_rest_at bytes = do
  nodes ← counted_at node_at bytes
  consistencies ← counted_at consistency_at nodes.1
  inclusions ← counted_at inclusion_at consistencies.1
  if length inclusions.1 == 0
      then (if is_ascending nodes.0 then Ok (record { nodes = nodes.0; consistencies = consistencies.0; inclusions = inclusions.0 }) else Err Form)
      else Err Form

unfoldable pub log_at : List ℕ → Read LogProofs
log_at [] = Err Form
log_at (zero ∷ rest) = log_rest_at rest
log_at (suc version ∷ rest) = Err Form

unfoldable pub path_at : List ℕ → Read (MapPath × List ℕ)
path_at bytes = do
  given ← hash_at bytes
  siblings ← each_at hash_at (given_before 256 given.0) given.1
  Ok (record { given = given.0; siblings = siblings.0 }, siblings.1)

unfoldable pub map_rest_at : List ℕ → Read (List MapPath)
map_rest_at bytes = do
  paths ← counted_at path_at bytes
  if length paths.1 == 0 then Ok paths.0 else Err Form

unfoldable pub map_at : List ℕ → Read (List MapPath)
map_at [] = Err Form
map_at (zero ∷ rest) = map_rest_at rest
map_at (suc version ∷ rest) = Err Form
