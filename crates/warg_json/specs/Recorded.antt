-- What recorded replies and checked signatures mean that stand in JSON (RFC 8259).
use Rattle.std.specs.Prelude.{ℕ, ◌&&◌, nat_lt, List, [], ◌∷◌, codes, if◌then◌else◌, Ok, Err}
use Rattle.std.specs.List.{list_all}
use Rattle.std.specs.Result.{result_ok}
use Rattle.hex.specs.Hex.{decode_sized}
use Rattle.http_header.specs.FieldName.{is_field_name}
use Rattle.http_header.specs.FieldValue.{FieldValue, plain_value}
use Rattle.http_header.specs.Token.{is_value_byte, lowercase}
use Rattle.serde_json.specs.Data.{Data}
use Rattle.warg_values.specs.Reading.{◌>>=◌}
use Rattle.warg_record.specs.Key.{is_key_text}
use Rattle.warg_exchange.specs.declared.exchange.Reply.{Reply}
use Rattle.warg_exchange.specs.Body.{Unexpected, Meaning, required, member_as, number_in, text_in, formed_in, bytes_in, list_in}

-- a status code, which has 16 bits
abbrev pub status_in : Data → Meaning ℕ
status_in d = number_in d >>= λ n. if nat_lt n 65536 then Ok n else Err Unexpected

-- a header's name (RFC 9110, section 5.1), kept in lower case
abbrev pub name_of_text : List ℕ → Meaning (List ℕ)
name_of_text name = if is_field_name name then Ok (lowercase name) else Err Unexpected

-- a header's value (RFC 9110, section 5.5)
abbrev pub value_of_text : List ℕ → Meaning FieldValue
value_of_text value = if list_all is_value_byte value then Ok (plain_value value) else Err Unexpected

abbrev pub header_of_texts : List (List ℕ) → Meaning (List ℕ × FieldValue)
header_of_texts (name ∷ value ∷ []) = name_of_text name >>= λ n. value_of_text value >>= λ v. Ok (n, v)
header_of_texts texts = Err Unexpected

-- a header, as a list of its name and its value
abbrev pub header_in : Data → Meaning (List ℕ × FieldValue)
header_in d = list_in text_in d >>= header_of_texts

unfoldable pub reply_in : Data → Meaning Reply
reply_in d = do
  status ← member_as (codes "status") status_in d
  headers ← member_as (codes "headers") (list_in header_in) d
  body ← member_as (codes "body") bytes_in d
  Ok (record { status = status; headers = headers; body = body })

-- a digest in 64 hexadecimal digits
abbrev pub digits_in : Data → Meaning (List ℕ)
digits_in d = text_in d >>= λ t. required (result_ok (decode_sized t 32))

-- a key, the digest of a text, and a signature by the key that was checked over the text
unfoldable pub checked_in : Data → Meaning (List ℕ × List ℕ × List ℕ)
checked_in d = do
  key ← member_as (codes "key") (formed_in is_key_text) d
  digest ← member_as (codes "text") digits_in d
  signature ← member_as (codes "signature") (formed_in is_key_text) d
  Ok (key, digest, signature)
