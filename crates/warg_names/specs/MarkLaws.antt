-- A mark names the digest of which it is the text, and no other text names one.
use Rattle.std.proofs.Common.{◌≡◌, ℕ, List, ◌++◌, codes, drop, Some, refl, ap, ◌∙◌}
use Rattle.hex.specs.Hex.{encode_lower}
use Rattle.warg_hash.specs.Hash.{IsDigest, hash_text, digest_of}
use Rattle.warg_hash.specs.HashLaws.{digest_of-again, digest_of-sound}
use Rattle.warg_names.specs.Cut.{behind}
use Rattle.warg_names.specs.CutLaws.{then_some, behind-sound, behind-append}
use Rattle.warg_names.specs.Mark.{mark_text, digest_marked}

-- the mark of a digest names it
pub digest_marked-again : (digest : List ℕ) → IsDigest digest → digest_marked (mark_text digest) ≡ Some digest
unfolding digest_marked
digest_marked-again digest is = rw (behind-append (codes "sha256-") (encode_lower digest)) (digest_of-again (hash_text digest) digest (is, refl))

-- what names a digest is its mark
pub digest_marked-sound : (mark digest : List ℕ) → digest_marked mark ≡ Some digest → IsDigest digest × (mark ≡ mark_text digest)
unfolding digest_marked
digest_marked-sound mark digest e =
    let t = then_some (λ digits. digest_of (codes "sha256:" ++ digits)) (behind (codes "sha256-") mark) digest e in
    let is = digest_of-sound (codes "sha256:" ++ t.0) digest t.2 in
    let digits : t.0 ≡ encode_lower digest = ap (drop 7) is.1 in
    (is.0, behind-sound (codes "sha256-") mark t.0 t.1 ∙ ap (λ d. codes "sha256-" ++ d) digits)
