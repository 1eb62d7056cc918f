-- The texts of keys and signatures.
use Rattle.std.specs.Prelude.{◌≡◌, ℕ, ◌==◌, ◌&&◌, ◌||◌, ◌<◌, nat_lt, Bool, List, ◌∷◌, ◌++◌, length, is_ok, IsOk, IsTrue, IsUtf8}
use Rattle.std.specs.List.{list_all, before_first, after_first, position_or_len}
use Rattle.base64.specs.Engines.{standard}
use Rattle.base64.specs.GeneralPurpose.{decode_of}
use Rattle.warg_hash.specs.Name.{is_lower, is_digit, is_colon}

-- a byte of the word that names the kind of a key: [a-z0-9-]
abbrev pub is_kind_byte : ℕ → Bool
is_kind_byte b = is_lower b || is_digit b || b == 45

-- the text is this word, a colon, and a code that standard base64 with padding decodes (RFC 4648, section 4)
pub record IsKeyOf (text kind code : List ℕ) : Type 0 where
  pub is_text : IsUtf8 text
  pub joined : text ≡ kind ++ 58 ∷ code
  pub kind_is_there : 0 < length kind
  pub kind_is_word : IsTrue (list_all is_kind_byte kind)
  pub decodes : IsOk (decode_of standard code)

-- a key's text, and a signature's
abbrev pub IsKeyText : List ℕ → Type 0
IsKeyText text = (kind : List ℕ) × (code : List ℕ) × IsKeyOf text kind code

-- whether a text is one
abbrev pub is_key_text : List ℕ → Bool
is_key_text text = nat_lt (position_or_len is_colon text) (length text)
    && (nat_lt 0 (length (before_first is_colon text))
    && (list_all is_kind_byte (before_first is_colon text) && is_ok (decode_of standard (after_first is_colon text))))
