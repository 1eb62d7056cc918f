-- Reading from left to right: a value and the bytes after it, or nothing where the bytes have not the form.
use Rattle.std.specs.Prelude.{ℕ, zero, suc, ◌+◌, ◌-◌, ◌*◌, ◌^◌, ◌==◌, ◌&&◌, ◌||◌, nat_lt, nat_le, if◌then◌else◌, List, [], ◌∷◌, length, take, drop, Option, Some, None, option_and_then, option_map}
use Rattle.std.specs.Result.{result_ok}
use Rattle.std.specs.Str.{is_utf8}
use Rattle.warg_values.specs.declared.moment.Moment.{Moment}
use Rattle.semver.specs.Parse.{Parts, version_parts}
use Rattle.warg_hash.specs.Hash.{digest_of}
use Rattle.warg_record.specs.Key.{is_key_text}
use Rattle.warg_record.specs.Record.{Kind, Package, Operator, PlainEntry, Init, GrantFlat, RevokeFlat, Release, Yank, DefineNamespace, ImportNamespace, PlainRecord, is_permission}

-- goes on with what was read
infixl 10 ◌>>=◌
abbrev pub ◌>>=◌ : {A B : Type 0} → Option A → (A → Option B) → Option B
o >>= f = option_and_then f o

-- a number of k bytes at most, in its shortest form, below 2 ^ 64
unfoldable pub varint_at : ℕ → List ℕ → Option (ℕ × List ℕ)
varint_at zero bytes = None
varint_at (suc k) [] = None
varint_at (suc k) (b ∷ bytes) = if nat_lt b 128 then Some (b, bytes) else do
  high ← varint_at k bytes
  if nat_le 256 b || (high.0 == 0 || nat_le (2 ^ 57) high.0) then None else Some (b - 128 + 128 * high.0, high.1)

-- bytes behind their length
unfoldable pub counted_at : List ℕ → Option (List ℕ × List ℕ)
counted_at bytes = do
  n ← varint_at 10 bytes
  if nat_lt (length n.1) n.0 then None else Some (take n.0 n.1, drop n.0 n.1)

-- the field of this number that holds bytes
unfoldable pub field_at : ℕ → List ℕ → Option (List ℕ × List ℕ)
field_at number [] = None
field_at number (b ∷ bytes) = if b == 8 * number + 2 then counted_at bytes else None

-- the same, where it may be absent
unfoldable pub optional_at : ℕ → List ℕ → Option (Option (List ℕ) × List ℕ)
optional_at number [] = Some (None, [])
optional_at number (b ∷ bytes) = if b == 8 * number + 2 then (do
  x ← counted_at bytes
  Some (Some x.0, x.1)) else Some (None, b ∷ bytes)

-- the field of this number that holds a number, which is 0 where it is absent
unfoldable pub number_at : ℕ → List ℕ → Option (ℕ × List ℕ)
number_at number [] = Some (0, [])
number_at number (b ∷ bytes) = if b == 8 * number then (do
  n ← varint_at 10 bytes
  if n.0 == 0 then None else Some n) else Some (0, b ∷ bytes)

-- a text that is not empty
unfoldable pub text_of : List ℕ → Option (List ℕ)
text_of bytes = if is_utf8 bytes && nat_lt 0 (length bytes) then Some bytes else None

-- a key's text
unfoldable pub key_of : List ℕ → Option (List ℕ)
key_of bytes = do
  text ← text_of bytes
  if is_key_text text then Some text else None

-- the digest that a hash text names
unfoldable pub hash_of : List ℕ → Option (List ℕ)
hash_of bytes = text_of bytes >>= digest_of

unfoldable pub optional_hash_of : Option (List ℕ) → Option (Option (List ℕ))
optional_hash_of None = Some None
optional_hash_of (Some bytes) = option_map Some (hash_of bytes)

-- a version's numbers and texts
unfoldable pub version_of : List ℕ → Option Parts
version_of bytes = do
  text ← text_of bytes
  result_ok (version_parts text)

-- a permission of such a log
unfoldable pub permission_of : Kind → List ℕ → Option (List ℕ)
permission_of kind bytes = do
  text ← text_of bytes
  if is_permission kind text then Some text else None

-- the fields of this number to the end, each read by one, of which there are n at most
unfoldable pub each_field : {X : Type 0} → (List ℕ → Option X) → ℕ → ℕ → List ℕ → Option (List X)
each_field one number zero [] = Some []
each_field one number zero (b ∷ bytes) = None
each_field one number (suc n) [] = Some []
each_field one number (suc n) (b ∷ bytes) = do
  f ← field_at number (b ∷ bytes)
  x ← one f.0
  xs ← each_field one number n f.1
  Some (x ∷ xs)

-- one such field or more
unfoldable pub some_fields : {X : Type 0} → (List ℕ → Option X) → ℕ → List ℕ → Option (List X)
some_fields one number bytes = if length bytes == 0 then None else each_field one number (length bytes) bytes

-- a message of one field: its key, and what it holds
unfoldable pub only_field : List ℕ → Option (ℕ × List ℕ)
only_field [] = None
only_field (key ∷ bytes) = do
  x ← counted_at bytes
  if length x.1 == 0 then Some (key, x.0) else None

-- a message of two fields, 1 and 2
unfoldable pub two_fields : List ℕ → Option (List ℕ × List ℕ)
two_fields bytes = do
  x ← field_at 1 bytes
  y ← field_at 2 x.1
  if length y.1 == 0 then Some (x.0, y.0) else None

-- a message of field 1 alone
unfoldable pub one_field : List ℕ → Option (List ℕ)
one_field bytes = do
  x ← field_at 1 bytes
  if length x.1 == 0 then Some x.0 else None

unfoldable pub init_of : List ℕ → Option PlainEntry
init_of bytes = do
  parts ← two_fields bytes
  key ← key_of parts.0
  algorithm ← text_of parts.1
  Some (Init key algorithm)

unfoldable pub grant_of : Kind → List ℕ → Option PlainEntry
grant_of kind bytes = do
  x ← field_at 1 bytes
  key ← key_of x.0
  permissions ← some_fields (permission_of kind) 2 x.1
  Some (GrantFlat key permissions)

unfoldable pub revoke_of : Kind → List ℕ → Option PlainEntry
revoke_of kind bytes = do
  x ← field_at 1 bytes
  key_id ← hash_of x.0
  permissions ← some_fields (permission_of kind) 2 x.1
  Some (RevokeFlat key_id permissions)

unfoldable pub release_of : List ℕ → Option PlainEntry
release_of bytes = do
  parts ← two_fields bytes
  version ← version_of parts.0
  content ← hash_of parts.1
  Some (Release version content)

unfoldable pub yank_of : List ℕ → Option PlainEntry
yank_of bytes = do
  x ← one_field bytes
  version ← version_of x
  Some (Yank version)

unfoldable pub define_of : List ℕ → Option PlainEntry
define_of bytes = do
  x ← one_field bytes
  namespace ← text_of x
  Some (DefineNamespace namespace)

unfoldable pub import_of : List ℕ → Option PlainEntry
import_of bytes = do
  parts ← two_fields bytes
  namespace ← text_of parts.0
  registry ← text_of parts.1
  Some (ImportNamespace namespace registry)

-- the fourth and the fifth entry of a kind of log
abbrev pub fourth_of : Kind → List ℕ → Option PlainEntry
fourth_of Package bytes = release_of bytes
fourth_of Operator bytes = define_of bytes

abbrev pub fifth_of : Kind → List ℕ → Option PlainEntry
fifth_of Package bytes = yank_of bytes
fifth_of Operator bytes = import_of bytes

-- the entry that a field of this key holds
abbrev pub entry_of : Kind → ℕ → List ℕ → Option PlainEntry
entry_of kind key bytes =
    if key == 10 then init_of bytes
    else if key == 18 then grant_of kind bytes
    else if key == 26 then revoke_of kind bytes
    else if key == 34 then fourth_of kind bytes
    else if key == 42 then fifth_of kind bytes
    else None

-- an entry's message
unfoldable pub entry_at : Kind → List ℕ → Option PlainEntry
entry_at kind bytes = do
  message ← only_field bytes
  entry_of kind message.0 message.1

-- a moment's message
unfoldable pub moment_of : List ℕ → Option Moment
moment_of bytes = do
  seconds ← number_at 1 bytes
  nanos ← number_at 2 seconds.1
  if length nanos.1 == 0 && nat_lt nanos.0 (10 ^ 9) then Some (record { seconds = seconds.0; nanos = nanos.0 }) else None

-- a record's message
unfoldable pub record_of : Kind → List ℕ → Option PlainRecord
record_of kind bytes = do
  prev ← optional_at 1 bytes
  version ← number_at 2 prev.1
  time ← field_at 3 version.1
  id ← optional_hash_of prev.0
  moment ← moment_of time.0
  entries ← some_fields (entry_at kind) 4 time.1
  Some (record { prev = id; version = version.0; time = moment; entries = entries })
