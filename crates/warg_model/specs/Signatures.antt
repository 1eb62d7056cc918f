-- Signatures as a verifier lists them.
use Rattle.std.specs.Prelude.{ℕ, List}
use Rattle.std.specs.List.{list_any}
use Rattle.sha2.specs.Sha256.{sha256}
use Rattle.warg_log.specs.Listed.{is_listed}
use Rattle.warg_log.specs.Rules.{Accepts}
use Rattle.warg_model.specs.declared.key.SigningKey.{SigningKey}

-- the key, the text's digest, and the key's signature
abbrev pub signature_on : SigningKey → List ℕ → List ℕ × List ℕ × List ℕ
signature_on k text = (k.key, sha256 text, k.signature)

-- which keys, texts and signatures go together, where these are listed
abbrev pub accepted_of : List (List ℕ × List ℕ × List ℕ) → Accepts
accepted_of listed key text signature = list_any (is_listed key (sha256 text) signature) listed
