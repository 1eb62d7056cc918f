-- What is known of hashes, of the strings that are hashed, and of the first clash in a list of pairs.
use Rattle.std.proofs.Common.{◌≡◌, ◌⊎◌, ℕ, ◌≤◌, Bool, not, cond, List, [], ◌∷◌, ◌++◌, length, take, drop, Some, refl, sym, ap, subst, ◌∙◌, inl, inr, arith}
use Rattle.std.specs.Prelude.{IsSomeAnd, bytes_eq}
use Rattle.std.proofs.lemmas.Bool.{cases_Bool, false≢true}
use Rattle.std.proofs.lemmas.List.{take_at, drop_at, length-append}
use Rattle.std.proofs.lemmas.Slice.Eq.{bytes_eq-Decides}
use Rattle.sha2.specs.Sha256.{sha256}
use Rattle.hex.specs.Hex.{IsBytes}
use Rattle.warg_hash.specs.ByteLaws.{no_bytes, bytes-cons, bytes-append}
use Rattle.warg_hash.specs.Hash.{IsDigest}
use Rattle.warg_proof.specs.Merkle.{AreHashes, leaf_text, branch_text, next_hash, IsClash, first_clash}

-- ---- byte strings

pub bytes-leaf_text : (content : List ℕ) → IsBytes content → IsBytes (leaf_text content)
bytes-leaf_text content h = bytes-cons 0 content (omega arith) h

pub bytes-branch_text : (left right : List ℕ) → IsBytes left → IsBytes right → IsBytes (branch_text left right)
bytes-branch_text left right h k = bytes-cons 1 (left ++ right) (omega arith) (bytes-append left right h k)

-- what may stand for a hash: at most 32 bytes
pub record IsShort (hash : List ℕ) : Type 0 where
  pub at_most_32 : length hash ≤ 32
  pub are_bytes : IsBytes hash

pub short_hash : (hash : List ℕ) → IsDigest hash → IsShort hash
short_hash hash h = let len = h.0 in record { at_most_32 = omega arith; are_bytes = h.1 }

pub short-next_hash : (hashes : List (List ℕ)) → AreHashes hashes → IsShort (next_hash hashes)
short-next_hash [] h = record { at_most_32 = omega arith; are_bytes = no_bytes }
short-next_hash (hash ∷ hashes) h = short_hash hash (h 0 [] (omega arith))

-- ---- the parts of equal strings

-- two equal leaves have one content
pub leaf_parts : (x y : List ℕ) → leaf_text x ≡ leaf_text y → x ≡ y
leaf_parts x y same = ap (drop 1) same

-- two equal branches have equal parts, where the left parts are of one length
pub branch_parts : (left right left' right' : List ℕ) → length left ≡ length left' → branch_text left right ≡ branch_text left' right' → (left ≡ left') × (right ≡ right')
branch_parts left right left' right' len same =
    let joined : left ++ right ≡ left' ++ right' = ap (drop 1) same in (
      sym (take_at left right (length left) refl) ∙ ap (take (length left)) joined ∙ take_at left' right' (length left) (sym len),
      sym (drop_at left right (length left) refl) ∙ ap (drop (length left)) joined ∙ drop_at left' right' (length left) (sym len),
    )

-- a branch over two hashes equals only a branch over two hashes
pub branch_of_hashes : (left right left' right' : List ℕ) → IsDigest left → IsDigest right → IsShort left' → IsShort right' → branch_text left right ≡ branch_text left' right' → (left ≡ left') × (right ≡ right')
branch_of_hashes left right left' right' l r l' r' same =
    let joined : left ++ right ≡ left' ++ right' = ap (drop 1) same in
    let one = l.0 in
    let two = r.0 in
    let three = l'.at_most_32 in
    let four = r'.at_most_32 in
    branch_parts left right left' right' (omega (arith, ap length joined, length-append left right, length-append left' right')) same

-- ---- the first clash

-- two strings of one hash are a clash, unless they are equal and what follows shows the claim or a clash
pub clash_or : (Claim : Type 0) (x y : List ℕ) (pairs : List (List ℕ × List ℕ)) → IsBytes x → IsBytes y → sha256 x ≡ sha256 y → (x ≡ y → Claim ⊎ IsSomeAnd (first_clash pairs) IsClash) → Claim ⊎ IsSomeAnd (first_clash ((x, y) ∷ pairs)) IsClash
clash_or Claim x y pairs bx by alike go =
    let P : Bool → Type 0 = λ b. Claim ⊎ IsSomeAnd (cond (not b) (Some (x, y)) (first_clash pairs)) IsClash in
    elim (cases_Bool (bytes_eq x y)) [
      | inl same ↦ subst P (sym same) (go ((bytes_eq-Decides x y).0 same))
      | inr other ↦ subst P (sym other) (inr (record { first_bytes = bx; second_bytes = by; differ = λ e. false≢true (sym other ∙ (bytes_eq-Decides x y).1 e); hash_alike = alike }))
    ]
