-- What is known of what is written. Only the crate's private clauses cite it.
use Rattle.std.specs.Prelude.{◌≡◌, List, ℕ, true, Option, Some, None, Ok}
use Rattle.base64.specs.Engines.{standard}
use Rattle.base64.specs.GeneralPurpose.{decode_of, encode_of}
use Rattle.serde_json.specs.Data.{Data, Members, put}
use Rattle.warg_hash.specs.Hash.{IsDigest}
use Rattle.warg_hash.specs.Name.{is_package_name}
use Rattle.warg_record.specs.Key.{IsKeyText}
use Rattle.warg_info.specs.Kept.{Kept}

-- a record's message comes back from base64, its key's id is a digest, and its signature has the form of one
pub record IsWritable (k : Kept) : Type 0 where
  pub contents : decode_of standard (encode_of standard k.signed.contents) ≡ Ok k.signed.contents
  pub key_id : IsDigest k.signed.key_id
  pub signature : IsKeyText k.signed.signature

-- a package's name passes the test
abbrev pub IsWritableName : List ℕ → Type 0
IsWritableName name = is_package_name name ≡ true

-- a member that is put among others, where it is there
abbrev pub put_optional : List ℕ → Option Data → Members → Members
put_optional name None ms = ms
put_optional name (Some d) ms = put name d ms
