-- The siblings of a path, from the leaf up.
use Rattle.std.proofs.Common.{◌≡◌, ℕ, zero, suc, ◌+◌, ◌-◌, ◌<◌, ◌≤◌, true, false, cond, List, [], ◌∷◌, length, get_or, refl, sym, ap, subst, ◌∙◌, inl, inr, arith}
use Rattle.std.specs.List.{AllByRecursion}
use Rattle.std.proofs.lemmas.Bool.{cases_Bool, cond-true, cond-false, cond_both}
use Rattle.std.proofs.lemmas.List.Elements.{All-from_recursion}
use Rattle.warg_hash.specs.Hash.{IsDigest}
use Rattle.warg_proof.specs.Merkle.{AreHashes, leaf_hash, branch_hash}
use Rattle.warg_proof.specs.MapTree.{empty_root, has_bit, subtree_path_root}
use Rattle.warg_proof.specs.MapProofs.{MapPath, given_before, IsMapPath, sibling_at, siblings_within, siblings}
use Rattle.warg_proof.proofs.MapLaws.{empty_is_hash}
use Rattle.warg_proof.proofs.Loops.{given_before-set, given_before-unset}

-- ---- how many are given

given_before-more : (depth more : ℕ) (given : List ℕ) → given_before depth given ≤ given_before (depth + more) given
given_before-more depth zero given =
    let same : depth + 0 ≡ depth = omega arith in
    subst (λ (d : ℕ). given_before depth given ≤ given_before d given) (sym same) (omega arith)
given_before-more depth (suc more) given =
    let same : depth + suc more ≡ depth + more + 1 = omega arith in
    let before = given_before-more depth more given in
    subst (λ (d : ℕ). given_before depth given ≤ given_before d given) (sym same)
    (elim (cases_Bool (has_bit given (depth + more))) [
      | inl set ↦ omega (arith, given_before-set (depth + more) given set)
      | inr unset ↦ omega (arith, given_before-unset (depth + more) given unset)
    ])

pub given_before-mono : (depth further : ℕ) (given : List ℕ) → depth ≤ further → given_before depth given ≤ given_before further given
given_before-mono depth further given le =
    let same : depth + (further - depth) ≡ further = omega arith in
    subst (λ (d : ℕ). given_before depth given ≤ given_before d given) same (given_before-more depth (further - depth) given)

-- where a sibling is given at a height, there is one more below it than above
pub given-at : (height : ℕ) (given : List ℕ) → height < 256 → has_bit given (255 - height) ≡ true → given_before (256 - height) given ≡ given_before (255 - height) given + 1
given-at height given lt set =
    let same : 255 - height + 1 ≡ 256 - height = omega arith in
    ap (λ (d : ℕ). given_before d given) (sym same) ∙ given_before-set (255 - height) given set

pub not_given-at : (height : ℕ) (given : List ℕ) → height < 256 → has_bit given (255 - height) ≡ false → given_before (256 - height) given ≡ given_before (255 - height) given
not_given-at height given lt unset =
    let same : 255 - height + 1 ≡ 256 - height = omega arith in
    ap (λ (d : ℕ). given_before d given) (sym same) ∙ given_before-unset (255 - height) given unset

-- ---- one height more

length-siblings : (height : ℕ) (path : MapPath) → length (siblings_within height path) ≡ height
unfolding siblings_within
length-siblings zero path = refl
length-siblings (suc height) path = ap suc (length-siblings height path)

pub none_below : (path : MapPath) (key value : List ℕ) → subtree_path_root key value (siblings_within 0 path) ≡ leaf_hash value
unfolding siblings_within subtree_path_root
none_below path key value = refl

pub root_above : (path : MapPath) (key value root sibling : List ℕ) (height : ℕ) → root ≡ subtree_path_root key value (siblings_within height path) → sibling ≡ sibling_at path (255 - height)
    → cond (has_bit key (255 - height)) (branch_hash sibling root) (branch_hash root sibling) ≡ subtree_path_root key value (siblings_within (height + 1) path)
unfolding siblings_within subtree_path_root
root_above path key value root sibling height is beside =
    let up : height + 1 ≡ suc height = omega arith in
    let below = subtree_path_root key value (siblings_within height path) in
    let there = sibling_at path (255 - height) in
    ap (λ (h : List ℕ). cond (has_bit key (255 - height)) (branch_hash sibling h) (branch_hash h sibling)) is
    ∙ ap (λ (h : List ℕ). cond (has_bit key (255 - height)) (branch_hash h below) (branch_hash below h)) beside
    ∙ ap (λ (n : ℕ). cond (has_bit key (255 - n)) (branch_hash there below) (branch_hash below there)) (sym (length-siblings height path))
    ∙ ap (λ (n : ℕ). subtree_path_root key value (siblings_within n path)) (sym up)

pub sibling-given : (path : MapPath) (depth : ℕ) → has_bit path.given depth ≡ true → sibling_at path depth ≡ get_or path.siblings (given_before depth path.given) []
sibling-given path depth set = cond-true (has_bit path.given depth) _ _ set

pub sibling-empty : (path : MapPath) (height : ℕ) → height < 256 → has_bit path.given (255 - height) ≡ false → sibling_at path (255 - height) ≡ empty_root height
sibling-empty path height lt unset =
    let same : 255 - (255 - height) ≡ height = omega arith in
    cond-false (has_bit path.given (255 - height)) _ _ unset ∙ ap empty_root same

-- ---- all siblings

pub length-all : (path : MapPath) → length (siblings path) ≡ 256
length-all path = length-siblings 256 path

at_of : (hashes : List (List ℕ)) (i : ℕ) → AllByRecursion IsDigest hashes → i < length hashes → IsDigest (get_or hashes i [])
at_of [] i h lt = absurd (omega arith)
at_of (hash ∷ hashes) zero h lt = h.0
at_of (hash ∷ hashes) (suc i) h lt = at_of hashes i h.1 (omega arith)

sibling_is_hash : (path : MapPath) (depth : ℕ) → IsMapPath path → depth < 256 → IsDigest (sibling_at path depth)
sibling_is_hash path depth is lt =
    cond_both (has_bit path.given depth) _ _ IsDigest
    (λ set.
    let count = is.count in
    let one = given_before-set depth path.given set in
    let most = given_before-mono (depth + 1) 256 path.given (omega arith) in
    at_of path.siblings (given_before depth path.given) is.siblings (omega arith))
    (λ unset. empty_is_hash (255 - depth))

within_are_hashes : (height : ℕ) (path : MapPath) → IsMapPath path → height ≤ 256 → AllByRecursion IsDigest (siblings_within height path)
unfolding siblings_within
within_are_hashes zero path is le = tt
within_are_hashes (suc height) path is le = (sibling_is_hash path (255 - height) is (omega arith), within_are_hashes height path is (omega arith))

pub siblings_are_hashes : (path : MapPath) → IsMapPath path → AreHashes (siblings path)
siblings_are_hashes path is = All-from_recursion IsDigest (siblings path) (within_are_hashes 256 path is (omega arith))
