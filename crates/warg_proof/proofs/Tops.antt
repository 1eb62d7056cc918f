-- A whole log at level 64, and at the level of its length.
use Rattle.std.proofs.Common.{◌≡◌, ℕ, zero, suc, ◌*◌, ◌^◌, ◌<◌, ◌≤◌, Bool, true, false, cond, eqb, ltb, leb, ◌&&◌, List, [], ◌∷◌, length, Option, Some, None, refl, sym, ap, subst, ◌∙◌, arith}
use Rattle.std.specs.Option.{option_map, option_and_then}
use Rattle.std.specs.List.{AllByRecursion}
use Rattle.std.proofs.lemmas.Bool.{cond-true, and_from, lt-ltb, le-leb, eq-eqb}
use Rattle.std.proofs.lemmas.List.Elements.{All-from_recursion}
use Rattle.warg_hash.specs.ByteLaws.{sha256_is_digest}
use Rattle.warg_hash.specs.Hash.{IsDigest}
use Rattle.warg_proof.specs.declared.node.Node.{Node}
use Rattle.warg_proof.specs.Merkle.{AreHashes, branch_hash}
use Rattle.warg_proof.specs.LogTree.{Range, inclusion_ranges, path_root_within, path_root, consistency_ranges, roots_within, two_roots}
use Rattle.warg_proof.specs.LogProofs.{IsNode, listed, branch_of, hash_within, range_hash, each_or_none}
use Rattle.warg_proof.specs.Judging.{root_beside, roots_joining}
use Rattle.warg_proof.proofs.LogLaws.{below_power, at_any_level}
use Rattle.warg_proof.proofs.Climbing.{beside_lower, joining_lower}

-- ---- as many hashes as ranges

same_some : {A : Type 0} (x y : A) → Some x ≡ Some y → x ≡ y
same_some x y e = cc

length-both : {A B : Type 0} (first : Option B) (others : Option (List B)) (xs : List A) (ys : List B) → ((zs : List B) → others ≡ Some zs → length zs ≡ length xs)
    → option_and_then (λ y. option_map (λ zs. y ∷ zs) others) first ≡ Some ys → length ys ≡ suc (length xs)
length-both None others xs ys h e = absurd cc
length-both (Some y) None xs ys h e = absurd cc
length-both (Some y) (Some zs) xs ys h e = ap length (sym (same_some (y ∷ zs) ys e)) ∙ ap suc (h zs refl)

length-each_or_none : {A B : Type 0} (f : A → Option B) (xs : List A) (ys : List B) → each_or_none f xs ≡ Some ys → length ys ≡ length xs
length-each_or_none f [] ys e = ap length (sym (same_some [] ys e))
length-each_or_none f (x ∷ xs) ys e = length-both (f x) (each_or_none f xs) xs ys (λ zs is. length-each_or_none f xs zs is) e

-- what two functions give of the hashes that are there
same_of : {A B : Type 0} (o : Option A) (f : A → B) (g : A → Option B) → ((x : A) → o ≡ Some x → g x ≡ Some (f x)) → option_map f o ≡ option_and_then g o
same_of None f g h = refl
same_of (Some x) f g h = sym (h x refl)

-- ---- the whole log

-- the path of a bundle gives a root
pub path_root-there : (nodes : List Node) (count index : ℕ) (leaf : List ℕ) (path : List (List ℕ)) → index < count → each_or_none (range_hash nodes) (inclusion_ranges count index) ≡ Some path
    → path_root index count leaf path ≡ Some (path_root_within count index count leaf path)
path_root-there nodes count index leaf path below e =
    let enough = eqb (length path) (length (inclusion_ranges count index)) in
    cond-true (ltb index count && enough) _ _
    (and_from (ltb index count) enough (lt-ltb _ _ below) (eq-eqb _ _ (length-each_or_none (range_hash nodes) (inclusion_ranges count index) path e)))

-- the hashes of a bundle give two roots
pub two_roots-there : (nodes : List Node) (old new : ℕ) (hashes : List (List ℕ)) → 0 < old → old ≤ new → each_or_none (range_hash nodes) (consistency_ranges old new) ≡ Some hashes
    → two_roots old new hashes ≡ Some (roots_within new old new hashes)
two_roots-there nodes old new hashes positive ordered e =
    let enough = eqb (length hashes) (length (consistency_ranges old new)) in
    cond-true (ltb 0 old && leb old new && enough) _ _
    (and_from (ltb 0 old && leb old new) enough (and_from (ltb 0 old) (leb old new) (lt-ltb _ _ positive) (le-leb _ _ ordered))
    (eq-eqb _ _ (length-each_or_none (range_hash nodes) (consistency_ranges old new) hashes e)))

pub root_at_top : (nodes : List Node) (count index : ℕ) (leaf : List ℕ) → count < 2 ^ 64 → index < count
    → root_beside nodes 64 0 count index leaf ≡ option_and_then (path_root index count leaf) (each_or_none (range_hash nodes) (inclusion_ranges count index))
root_at_top nodes count index leaf fits below =
    at_any_level (λ level. root_beside nodes level 0 count index leaf) count (λ level le. beside_lower nodes level 0 count index leaf le) 64 count (omega arith) (let lt = below_power count in omega arith)
    ∙ same_of (each_or_none (range_hash nodes) (inclusion_ranges count index)) (path_root_within count index count leaf) (path_root index count leaf) (λ path e. path_root-there nodes count index leaf path below e)

pub roots_at_top : (nodes : List Node) (old new : ℕ) → new < 2 ^ 64 → 0 < old → old ≤ new
    → roots_joining nodes 64 0 old new ≡ option_and_then (two_roots old new) (each_or_none (range_hash nodes) (consistency_ranges old new))
roots_at_top nodes old new fits positive ordered =
    at_any_level (λ level. roots_joining nodes level 0 old new) new (λ level le. joining_lower nodes level 0 old new le) 64 new (omega arith) (let lt = below_power new in omega arith)
    ∙ same_of (each_or_none (range_hash nodes) (consistency_ranges old new)) (roots_within new old new) (two_roots old new) (λ hashes e. two_roots-there nodes old new hashes positive ordered e)

-- ---- the hashes of a bundle are hashes

-- one of two options
choose : {A P : Type 0} (b : Bool) (x y : Option A) (z : A) → cond b x y ≡ Some z → (x ≡ Some z → P) → (y ≡ Some z → P) → P
choose true x y z e here there = here e
choose false x y z e here there = there e

both_hashed : (first : Option (List ℕ)) (others : Option (List (List ℕ))) (hashes : List (List ℕ)) → ((hash : List ℕ) → first ≡ Some hash → IsDigest hash) → ((rest : List (List ℕ)) → others ≡ Some rest → AllByRecursion IsDigest rest)
    → option_and_then (λ y. option_map (λ zs. y ∷ zs) others) first ≡ Some hashes → AllByRecursion IsDigest hashes
both_hashed None others hashes h k e = absurd cc
both_hashed (Some hash) None hashes h k e = absurd cc
both_hashed (Some hash) (Some rest) hashes h k e = subst (AllByRecursion IsDigest) (same_some (hash ∷ rest) hashes e) (h hash refl, k rest refl)

listed_hash : (nodes : List Node) (level place : ℕ) → AllByRecursion IsNode nodes → (hash : List ℕ) → listed nodes level place ≡ Some hash → IsDigest hash
unfolding listed
listed_hash [] level place h hash e = absurd cc
listed_hash (node ∷ nodes) level place h hash e =
    choose (eqb node.level level && eqb node.place place) (Some node.hash) (listed nodes level place) hash e
    (λ is. subst IsDigest (same_some node.hash hash is) h.0.hash) (λ later. listed_hash nodes level place h.1 hash later)

branch_hashed : (left right : Option (List ℕ)) (hash : List ℕ) → branch_of left right ≡ Some hash → IsDigest hash
branch_hashed None right hash e = absurd cc
branch_hashed (Some l) None hash e = absurd cc
branch_hashed (Some l) (Some r) hash e = subst IsDigest (same_some (branch_hash l r) hash e) (sha256_is_digest _)

range_hashed : (nodes : List Node) → AllByRecursion IsNode nodes → (level place count : ℕ) (hash : List ℕ) → hash_within nodes level place count ≡ Some hash → IsDigest hash
unfolding hash_within
range_hashed nodes h zero place count hash e = listed_hash nodes 0 place h hash e
range_hashed nodes h (suc level) place count hash e =
    choose (ltb (2 ^ level) count) _ _ hash e
    (λ high. choose (eqb count (2 ^ suc level)) _ _ hash high (λ whole. listed_hash nodes (suc level) place h hash whole) (λ part. branch_hashed _ _ hash part))
    (λ low. range_hashed nodes h level (2 * place) count hash low)

all_hashed : (nodes : List Node) → AllByRecursion IsNode nodes → (ranges : List Range) (hashes : List (List ℕ)) → each_or_none (range_hash nodes) ranges ≡ Some hashes → AllByRecursion IsDigest hashes
all_hashed nodes h [] hashes e = subst (AllByRecursion IsDigest) (same_some [] hashes e) tt
all_hashed nodes h (r ∷ ranges) hashes e = both_hashed (range_hash nodes r) (each_or_none (range_hash nodes) ranges) hashes (λ hash is. range_hashed nodes h r.level r.place r.count hash is) (all_hashed nodes h ranges) e

pub are_hashes : (nodes : List Node) → AllByRecursion IsNode nodes → (ranges : List Range) (hashes : List (List ℕ)) → each_or_none (range_hash nodes) ranges ≡ Some hashes → AreHashes hashes
are_hashes nodes h ranges hashes e = All-from_recursion IsDigest hashes (all_hashed nodes h ranges hashes e)
