-- The mark of a content's digest: the integrity of a name that was locked.
use Rattle.std.specs.Prelude.{ℕ, List, ◌++◌, codes, Option, option_and_then}
use Rattle.hex.specs.Hex.{encode_lower}
use Rattle.warg_hash.specs.Hash.{digest_of}
use Rattle.warg_names.specs.Cut.{behind}

-- a digest as a mark: `sha256-` and 64 lower-case hex digits
abbrev pub mark_text : List ℕ → List ℕ
mark_text digest = codes "sha256-" ++ encode_lower digest

-- the digest that a mark names: that of the hash text with the same digits
unfoldable pub digest_marked : List ℕ → Option (List ℕ)
digest_marked mark = option_and_then (λ digits. digest_of (codes "sha256:" ++ digits)) (behind (codes "sha256-") mark)
