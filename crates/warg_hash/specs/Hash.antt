-- Hashes, their texts, and what is named by a hash.
use Rattle.std.specs.Prelude.{◌≡◌, ℕ, if◌then◌else◌, List, ◌++◌, length, drop, codes, bytes_eq, Option, Some, None, Result, Ok, Err}
use Rattle.hex.specs.Hex.{encode_lower, decode_sized, IsBytes}
use Rattle.hex.specs.declared.error.FromHexError.{FromHexError}
use Rattle.sha2.specs.Sha256.{sha256}

-- the 32 bytes of a SHA-256 digest
abbrev pub IsDigest : List ℕ → Type 0
IsDigest digest = (length digest ≡ 32) × IsBytes digest

-- a digest as text: `sha256:` and 64 lower-case hex digits
abbrev pub hash_text : List ℕ → List ℕ
hash_text digest = codes "sha256:" ++ encode_lower digest

-- the text is that of this digest
abbrev pub IsHashText : List ℕ → List ℕ → Type 0
IsHashText text digest = IsDigest digest × (text ≡ hash_text digest)

-- the digest, where the text is its hash text
abbrev pub digest_with_text : List ℕ → Result (List ℕ) FromHexError → Option (List ℕ)
digest_with_text text (Ok digest) = if bytes_eq (hash_text digest) text then Some digest else None
digest_with_text text (Err e) = None

-- the digest that a text names: what the digits behind `sha256:` decode to, where the text is that digest's
unfoldable pub digest_of : List ℕ → Option (List ℕ)
digest_of text = digest_with_text text (decode_sized (drop 7 text) 32)

-- the id of a registry's operator log
abbrev pub operator_log_id : List ℕ
operator_log_id = sha256 (codes "WARG-OPERATOR-LOG-ID-V0")

-- the id of the log of the package with this name
abbrev pub package_log_id : List ℕ → List ℕ
package_log_id name = sha256 (codes "WARG-PACKAGE-ID-V0:" ++ name)
