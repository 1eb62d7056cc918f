-- The keys of registries, and their names.
use Rattle.std.specs.Prelude.{ℕ, List, ◌++◌, codes, bytes_eq, Bool, true, false, Option, Some, None}
use Rattle.std.specs.Int.{w64, to_be_bytes}
use Rattle.base64.specs.Engines.{standard}
use Rattle.base64.specs.GeneralPurpose.{encode_of}
use Rattle.warg_model.specs.declared.key.SigningKey.{SigningKey}

-- the text that is the key of the registry of a number, and each of its signatures: the number in eight bytes, the highest
-- first, in standard base64 with padding (RFC 4648, section 4)
abbrev pub key_text : ℕ → List ℕ
key_text number = codes "demo:" ++ encode_of standard (to_be_bytes w64 number)

abbrev pub key_of : ℕ → SigningKey
key_of number = record { key = key_text number; signature = key_text number }

-- whether two names are one: the home registry has none
abbrev pub same_name : Option (List ℕ) → Option (List ℕ) → Bool
same_name None None = true
same_name None (Some b) = false
same_name (Some a) None = false
same_name (Some a) (Some b) = bytes_eq a b
