-- The root by the hashes of the leaves is the root of the entries.
use Rattle.std.proofs.Common.{◌≡◌, ℕ, zero, suc, ◌-◌, ◌^◌, ◌≤◌, ◌<◌, List, [], ◌∷◌, length, take, drop, map, refl, sym, ap, subst, ◌∙◌, arith}
use Rattle.std.proofs.lemmas.Bool.{lt-ltb, le-ltb}
use Rattle.std.proofs.lemmas.List.{length-map, take-map, drop-map}
use Rattle.warg_proof.specs.declared.leaf.LogLeaf.{LogLeaf}
use Rattle.warg_proof.specs.HashedTree.{hashed_within}
use Rattle.warg_proof.specs.Leaves.{leaf_entry, entry_hash}
use Rattle.warg_proof.specs.LogTree.{root_within, root}
use Rattle.warg_proof.specs.Merkle.{leaf_hash, branch_hash}
use Rattle.warg_proof.proofs.LogLaws.{root-at}

pub hashed-root : (level : ℕ) (entries : List (List ℕ)) → hashed_within level (map leaf_hash entries) ≡ root_within level entries
unfolding root_within hashed_within
hashed-root zero [] = refl
hashed-root zero (entry ∷ entries) = refl
hashed-root (suc level) entries =
    let left = hashed-root level (take (2 ^ level) entries) in
    let right = hashed-root level (drop (2 ^ level) entries) in
    let low = hashed-root level entries in
    rw (length-map entries leaf_hash, take-map leaf_hash (2 ^ level) entries, drop-map leaf_hash (2 ^ level) entries, left, right, low) refl

hashes_of_entries : (leaves : List LogLeaf) → map entry_hash leaves ≡ map leaf_hash (map leaf_entry leaves)
hashes_of_entries [] = refl
hashes_of_entries (leaf ∷ leaves) = ap (λ hs. entry_hash leaf ∷ hs) (hashes_of_entries leaves)

-- the root by the hashes of leaves, of which there are at most 2 ^ 64
pub hashed-leaves : (leaves : List LogLeaf) → length leaves ≤ 2 ^ 64 → hashed_within 64 (map entry_hash leaves) ≡ root (map leaf_entry leaves)
hashed-leaves leaves few =
    ap (hashed_within 64) (hashes_of_entries leaves)
    ∙ hashed-root 64 (map leaf_entry leaves)
    ∙ sym (root-at 64 (map leaf_entry leaves) (rw (length-map leaves leaf_entry) few))

-- the step of the root over the hashes
pub hashed-more : (level : ℕ) (hashes : List (List ℕ)) → 2 ^ level < length hashes
    → hashed_within (suc level) hashes ≡ branch_hash (hashed_within level (take (2 ^ level) hashes)) (hashed_within level (drop (2 ^ level) hashes))
unfolding hashed_within
hashed-more level hashes lt = rw (lt-ltb (2 ^ level) (length hashes) lt) refl

pub hashed-less : (level : ℕ) (hashes : List (List ℕ)) → length hashes ≤ 2 ^ level → hashed_within (suc level) hashes ≡ hashed_within level hashes
unfolding hashed_within
hashed-less level hashes le = rw (le-ltb (2 ^ level) (length hashes) le) refl

-- the same where half of a level is given
pub hashed_more : (level half : ℕ) (hashes : List (List ℕ)) → 0 < level → half ≡ 2 ^ (level - 1) → half < length hashes
    → hashed_within level hashes ≡ branch_hash (hashed_within (level - 1) (take half hashes)) (hashed_within (level - 1) (drop half hashes))
hashed_more level half hashes pos is lt =
    let up : level ≡ suc (level - 1) = omega (arith, pos) in
    let more : 2 ^ (level - 1) < length hashes = subst (λ (n : ℕ). n < length hashes) is lt in
    ap (λ (n : ℕ). hashed_within n hashes) up ∙ hashed-more (level - 1) hashes more
    ∙ ap (λ (n : ℕ). branch_hash (hashed_within (level - 1) (take n hashes)) (hashed_within (level - 1) (drop n hashes))) (sym is)

pub hashed_less : (level half : ℕ) (hashes : List (List ℕ)) → 0 < level → half ≡ 2 ^ (level - 1) → length hashes ≤ half
    → hashed_within level hashes ≡ hashed_within (level - 1) hashes
hashed_less level half hashes pos is le =
    let up : level ≡ suc (level - 1) = omega (arith, pos) in
    let less : length hashes ≤ 2 ^ (level - 1) = subst (λ (n : ℕ). length hashes ≤ n) is le in
    ap (λ (n : ℕ). hashed_within n hashes) up ∙ hashed-less (level - 1) hashes less
