-- The hashes and roots of a range from those of its parts, one level at a time.
use Rattle.std.proofs.Common.{◌≡◌, ℕ, suc, ◌+◌, ◌-◌, ◌*◌, ◌^◌, ◌<◌, ◌≤◌, eqb, ltb, List, [], ◌∷◌, drop, Option, Some, None, refl, sym, ap, subst, ◌∙◌, arith}
use Rattle.std.specs.Option.{option_map, option_and_then}
use Rattle.std.proofs.Math.Nat.{pow-suc}
use Rattle.std.proofs.lemmas.Bool.{cond-true, cond-false, lt-ltb, le-ltb, eq-eqb, ne_eqb}
use Rattle.warg_proof.specs.declared.node.Node.{Node}
use Rattle.warg_proof.specs.Merkle.{leaf_hash, branch_hash, next_hash}
use Rattle.warg_proof.specs.LogTree.{Range, range, ranges_beside, path_root_within, ranges_joining, roots_within}
use Rattle.warg_proof.specs.LogProofs.{listed, branch_of, hash_within, range_hash, each_or_none}
use Rattle.warg_proof.specs.Judging.{root_beside, roots_joining}
use Rattle.warg_proof.proofs.LogLaws.{path-left, path-right, path-less, roots-whole, roots-right, roots-left, roots-less}

-- ---- places

-- the parts of a split have places within 64 bits
pub place_fits : (level place : ℕ) → 0 < level → level ≤ 64 → place < 2 ^ (64 - level) → 2 * place + 1 < 2 ^ (64 - (level - 1))
place_fits level place above within fits =
    let same : 64 - (level - 1) ≡ suc (64 - level) = omega arith in
    subst (λ (n : ℕ). 2 * place + 1 < 2 ^ n) (sym same) (omega (arith, pow-suc 2 (64 - level)))

-- ---- hashes of ranges

pub hash-none : (nodes : List Node) (level place count : ℕ) → level ≡ 0 → hash_within nodes level place count ≡ listed nodes level place
unfolding hash_within
hash-none nodes level place count e = ap (λ (l : ℕ). hash_within nodes l place count) e ∙ ap (λ (l : ℕ). listed nodes l place) (sym e)

pub hash-less : (nodes : List Node) (level below place count : ℕ) → level ≡ suc below → count ≤ 2 ^ below → hash_within nodes level place count ≡ hash_within nodes below (2 * place) count
unfolding hash_within
hash-less nodes level below place count e le =
    ap (λ (l : ℕ). hash_within nodes l place count) e ∙ cond-false (ltb (2 ^ below) count) _ _ (le-ltb _ _ le)

pub hash-whole : (nodes : List Node) (level below place count : ℕ) → level ≡ suc below → 2 ^ below < count → count - 2 ^ below ≡ 2 ^ below → hash_within nodes level place count ≡ listed nodes level place
unfolding hash_within
hash-whole nodes level below place count e lt whole =
    let same : count ≡ 2 ^ suc below = omega (arith, pow-suc 2 below) in
    ap (λ (l : ℕ). hash_within nodes l place count) e ∙ cond-true (ltb (2 ^ below) count) _ _ (lt-ltb _ _ lt) ∙ cond-true (eqb count (2 ^ suc below)) _ _ (eq-eqb _ _ same)
    ∙ ap (λ (l : ℕ). listed nodes l place) (sym e)

pub hash-split : (nodes : List Node) (level below place count : ℕ) → level ≡ suc below → 2 ^ below < count → (count - 2 ^ below ≡ 2 ^ below → ⊥)
    → hash_within nodes level place count ≡ branch_of (hash_within nodes below (2 * place) (2 ^ below)) (hash_within nodes below (2 * place + 1) (count - 2 ^ below))
unfolding hash_within
hash-split nodes level below place count e lt part =
    let other : count ≡ 2 ^ suc below → ⊥ = λ same. part (omega (arith, same, pow-suc 2 below)) in
    ap (λ (l : ℕ). hash_within nodes l place count) e ∙ cond-true (ltb (2 ^ below) count) _ _ (lt-ltb _ _ lt) ∙ cond-false (eqb count (2 ^ suc below)) _ _ (ne_eqb _ _ other)

-- ---- the root from a leaf

-- a branch over a hash that stands first in a path, and the root from the others
turned : (first : Option (List ℕ)) (others : Option (List (List ℕ))) (f : List (List ℕ) → List ℕ)
    → option_map (λ path. branch_hash (f (drop 1 path)) (next_hash path)) (option_and_then (λ h. option_map (λ hs. h ∷ hs) others) first) ≡ branch_of (option_map f others) first
turned None None f = refl
turned None (Some hs) f = refl
turned (Some h) None f = refl
turned (Some h) (Some hs) f = refl

straight : (first : Option (List ℕ)) (others : Option (List (List ℕ))) (f : List (List ℕ) → List ℕ)
    → option_map (λ path. branch_hash (next_hash path) (f (drop 1 path))) (option_and_then (λ h. option_map (λ hs. h ∷ hs) others) first) ≡ branch_of first (option_map f others)
straight None others f = refl
straight (Some h) None f = refl
straight (Some h) (Some hs) f = refl

-- the hashes of ranges
abbrev hashes_of : List Node → List Range → Option (List (List ℕ))
hashes_of nodes ranges = each_or_none (range_hash nodes) ranges

pub beside-ranges-less : (level place count index : ℕ) → count ≤ 2 ^ level → ranges_beside (suc level) place count index ≡ ranges_beside level (2 * place) count index
unfolding ranges_beside
beside-ranges-less level place count index le = cond-false (ltb (2 ^ level) count) _ _ (le-ltb _ _ le)

pub beside-ranges-left : (level place count index : ℕ) → 2 ^ level < count → index < 2 ^ level
    → ranges_beside (suc level) place count index ≡ range level (2 * place + 1) (count - 2 ^ level) ∷ ranges_beside level (2 * place) (2 ^ level) index
unfolding ranges_beside
beside-ranges-left level place count index lt here = cond-true (ltb (2 ^ level) count) _ _ (lt-ltb _ _ lt) ∙ cond-true (ltb index (2 ^ level)) _ _ (lt-ltb _ _ here)

pub beside-ranges-right : (level place count index : ℕ) → 2 ^ level < count → 2 ^ level ≤ index
    → ranges_beside (suc level) place count index ≡ range level (2 * place) (2 ^ level) ∷ ranges_beside level (2 * place + 1) (count - 2 ^ level) (index - 2 ^ level)
unfolding ranges_beside
beside-ranges-right level place count index lt there = cond-true (ltb (2 ^ level) count) _ _ (lt-ltb _ _ lt) ∙ cond-false (ltb index (2 ^ level)) _ _ (le-ltb _ _ there)

pub beside-none : (nodes : List Node) (level place count index : ℕ) (leaf : List ℕ) → level ≡ 0 → root_beside nodes level place count index leaf ≡ Some (leaf_hash leaf)
unfolding ranges_beside path_root_within
beside-none nodes level place count index leaf e = ap (λ (l : ℕ). root_beside nodes l place count index leaf) e

beside-less : (nodes : List Node) (level below place count index : ℕ) (leaf : List ℕ) → level ≡ suc below → count ≤ 2 ^ below
    → root_beside nodes level place count index leaf ≡ root_beside nodes below (2 * place) count index leaf
beside-less nodes level below place count index leaf e le =
    let f : path_root_within (suc below) index count leaf ≡ path_root_within below index count leaf = λ i path. path-less below index count leaf path le i in
    ap (λ (l : ℕ). root_beside nodes l place count index leaf) e
    ∙ ap (λ (rs : List Range). option_map (path_root_within (suc below) index count leaf) (hashes_of nodes rs)) (beside-ranges-less below place count index le)
    ∙ ap (λ (g : List (List ℕ) → List ℕ). option_map g (hashes_of nodes (ranges_beside below (2 * place) count index))) f

beside-left : (nodes : List Node) (level below place count index : ℕ) (leaf : List ℕ) → level ≡ suc below → 2 ^ below < count → index < 2 ^ below
    → root_beside nodes level place count index leaf ≡ branch_of (root_beside nodes below (2 * place) (2 ^ below) index leaf) (hash_within nodes below (2 * place + 1) (count - 2 ^ below))
beside-left nodes level below place count index leaf e lt here =
    let below_root : List (List ℕ) → List ℕ = path_root_within below index (2 ^ below) leaf in
    let whole : List (List ℕ) → List ℕ = λ path. branch_hash (below_root (drop 1 path)) (next_hash path) in
    let f : path_root_within (suc below) index count leaf ≡ whole = λ i path. path-left below index count leaf path lt here i in
    let beside : Range = range below (2 * place + 1) (count - 2 ^ below) in
    let rest : List Range = ranges_beside below (2 * place) (2 ^ below) index in
    ap (λ (l : ℕ). root_beside nodes l place count index leaf) e
    ∙ ap (λ (rs : List Range). option_map (path_root_within (suc below) index count leaf) (hashes_of nodes rs)) (beside-ranges-left below place count index lt here)
    ∙ ap (λ (g : List (List ℕ) → List ℕ). option_map g (hashes_of nodes (beside ∷ rest))) f
    ∙ turned (range_hash nodes beside) (hashes_of nodes rest) below_root

beside-right : (nodes : List Node) (level below place count index : ℕ) (leaf : List ℕ) → level ≡ suc below → 2 ^ below < count → 2 ^ below ≤ index
    → root_beside nodes level place count index leaf ≡ branch_of (hash_within nodes below (2 * place) (2 ^ below)) (root_beside nodes below (2 * place + 1) (count - 2 ^ below) (index - 2 ^ below) leaf)
beside-right nodes level below place count index leaf e lt there =
    let below_root : List (List ℕ) → List ℕ = path_root_within below (index - 2 ^ below) (count - 2 ^ below) leaf in
    let whole : List (List ℕ) → List ℕ = λ path. branch_hash (next_hash path) (below_root (drop 1 path)) in
    let f : path_root_within (suc below) index count leaf ≡ whole = λ i path. path-right below index count leaf path lt there i in
    let beside : Range = range below (2 * place) (2 ^ below) in
    let rest : List Range = ranges_beside below (2 * place + 1) (count - 2 ^ below) (index - 2 ^ below) in
    ap (λ (l : ℕ). root_beside nodes l place count index leaf) e
    ∙ ap (λ (rs : List Range). option_map (path_root_within (suc below) index count leaf) (hashes_of nodes rs)) (beside-ranges-right below place count index lt there)
    ∙ ap (λ (g : List (List ℕ) → List ℕ). option_map g (hashes_of nodes (beside ∷ rest))) f
    ∙ straight (range_hash nodes beside) (hashes_of nodes rest) below_root

-- ---- the two roots

-- the roots of a range that the old length cuts in its left part, and in its right part
abbrev pub left_roots : Option (List ℕ) → Option (List ℕ × List ℕ) → Option (List ℕ × List ℕ)
left_roots right roots = option_and_then (λ h. option_map (λ both. (both.0, branch_hash both.1 h)) roots) right

abbrev pub right_roots : Option (List ℕ) → Option (List ℕ × List ℕ) → Option (List ℕ × List ℕ)
right_roots left roots = option_and_then (λ h. option_map (λ both. (branch_hash h both.0, branch_hash h both.1)) roots) left

left_pair : (first : Option (List ℕ)) (others : Option (List (List ℕ))) (f : List (List ℕ) → List ℕ × List ℕ)
    → option_map (λ hashes. ((f (drop 1 hashes)).0, branch_hash (f (drop 1 hashes)).1 (next_hash hashes))) (option_and_then (λ h. option_map (λ hs. h ∷ hs) others) first) ≡ left_roots first (option_map f others)
left_pair None others f = refl
left_pair (Some h) None f = refl
left_pair (Some h) (Some hs) f = refl

right_pair : (first : Option (List ℕ)) (others : Option (List (List ℕ))) (f : List (List ℕ) → List ℕ × List ℕ)
    → option_map (λ hashes. (branch_hash (next_hash hashes) (f (drop 1 hashes)).0, branch_hash (next_hash hashes) (f (drop 1 hashes)).1)) (option_and_then (λ h. option_map (λ hs. h ∷ hs) others) first) ≡ right_roots first (option_map f others)
right_pair None others f = refl
right_pair (Some h) None f = refl
right_pair (Some h) (Some hs) f = refl

-- the roots of a range that ends at the old length
abbrev pub doubled : Option (List ℕ) → Option (List ℕ × List ℕ)
doubled whole = option_map (λ h. (h, h)) whole

whole_pair : (whole : Option (List ℕ)) → option_map {U = List ℕ × List ℕ} (λ hashes. (next_hash hashes, next_hash hashes)) (option_and_then (λ h. Some (h ∷ [])) whole) ≡ doubled whole
whole_pair None = refl
whole_pair (Some h) = refl

pub joining-ranges-less : (level place old new : ℕ) → new ≤ 2 ^ level → ranges_joining (suc level) place old new ≡ ranges_joining level (2 * place) old new
unfolding ranges_joining
joining-ranges-less level place old new le = cond-false (ltb (2 ^ level) new) _ _ (le-ltb _ _ le)

pub joining-ranges-whole : (level place old new : ℕ) → 2 ^ level < new → old ≡ new → ranges_joining (suc level) place old new ≡ range (suc level) place new ∷ []
unfolding ranges_joining
joining-ranges-whole level place old new lt same = cond-true (ltb (2 ^ level) new) _ _ (lt-ltb _ _ lt) ∙ cond-true (eqb old new) _ _ (eq-eqb _ _ same)

pub joining-ranges-right : (level place old new : ℕ) → old < new → 2 ^ level < old
    → ranges_joining (suc level) place old new ≡ range level (2 * place) (2 ^ level) ∷ ranges_joining level (2 * place + 1) (old - 2 ^ level) (new - 2 ^ level)
unfolding ranges_joining
joining-ranges-right level place old new below lt =
    cond-true (ltb (2 ^ level) new) _ _ (lt-ltb _ _ (omega arith)) ∙ cond-false (eqb old new) _ _ (ne_eqb _ _ (λ e. omega arith)) ∙ cond-true (ltb (2 ^ level) old) _ _ (lt-ltb _ _ lt)

pub joining-ranges-left : (level place old new : ℕ) → old < new → 2 ^ level < new → old ≤ 2 ^ level
    → ranges_joining (suc level) place old new ≡ range level (2 * place + 1) (new - 2 ^ level) ∷ ranges_joining level (2 * place) old (2 ^ level)
unfolding ranges_joining
joining-ranges-left level place old new below lt le =
    cond-true (ltb (2 ^ level) new) _ _ (lt-ltb _ _ lt) ∙ cond-false (eqb old new) _ _ (ne_eqb _ _ (λ e. omega arith)) ∙ cond-false (ltb (2 ^ level) old) _ _ (le-ltb _ _ le)

pub joining-none : (nodes : List Node) (level place old new : ℕ) → level ≡ 0 → roots_joining nodes level place old new ≡ doubled (hash_within nodes level place new)
unfolding ranges_joining roots_within
joining-none nodes level place old new e =
    ap (λ (l : ℕ). roots_joining nodes l place old new) e ∙ whole_pair (hash_within nodes 0 place new)
    ∙ ap (λ (l : ℕ). doubled (hash_within nodes l place new)) (sym e)

joining-less : (nodes : List Node) (level below place old new : ℕ) → level ≡ suc below → new ≤ 2 ^ below → roots_joining nodes level place old new ≡ roots_joining nodes below (2 * place) old new
joining-less nodes level below place old new e le =
    let f : roots_within (suc below) old new ≡ roots_within below old new = λ i hashes. roots-less below old new hashes le i in
    ap (λ (l : ℕ). roots_joining nodes l place old new) e
    ∙ ap (λ (rs : List Range). option_map (roots_within (suc below) old new) (hashes_of nodes rs)) (joining-ranges-less below place old new le)
    ∙ ap (λ (g : List (List ℕ) → List ℕ × List ℕ). option_map g (hashes_of nodes (ranges_joining below (2 * place) old new))) f

joining-whole : (nodes : List Node) (level below place old new : ℕ) → level ≡ suc below → 2 ^ below < new → old ≡ new
    → roots_joining nodes level place old new ≡ doubled (hash_within nodes level place new)
joining-whole nodes level below place old new e lt same =
    let whole : List (List ℕ) → List ℕ × List ℕ = λ hashes. (next_hash hashes, next_hash hashes) in
    let f : roots_within (suc below) old new ≡ whole = λ i hashes. roots-whole below old new hashes lt same i in
    ap (λ (l : ℕ). roots_joining nodes l place old new) e
    ∙ ap (λ (rs : List Range). option_map (roots_within (suc below) old new) (hashes_of nodes rs)) (joining-ranges-whole below place old new lt same)
    ∙ ap (λ (g : List (List ℕ) → List ℕ × List ℕ). option_map g (hashes_of nodes (range (suc below) place new ∷ []))) f
    ∙ whole_pair (hash_within nodes (suc below) place new)
    ∙ ap (λ (l : ℕ). doubled (hash_within nodes l place new)) (sym e)

joining-right : (nodes : List Node) (level below place old new : ℕ) → level ≡ suc below → old < new → 2 ^ below < old
    → roots_joining nodes level place old new ≡ right_roots (hash_within nodes below (2 * place) (2 ^ below)) (roots_joining nodes below (2 * place + 1) (old - 2 ^ below) (new - 2 ^ below))
joining-right nodes level below place old new e less lt =
    let below_roots : List (List ℕ) → List ℕ × List ℕ = roots_within below (old - 2 ^ below) (new - 2 ^ below) in
    let whole : List (List ℕ) → List ℕ × List ℕ = λ hashes. (branch_hash (next_hash hashes) (below_roots (drop 1 hashes)).0, branch_hash (next_hash hashes) (below_roots (drop 1 hashes)).1) in
    let f : roots_within (suc below) old new ≡ whole = λ i hashes. roots-right below old new hashes less lt i in
    let beside : Range = range below (2 * place) (2 ^ below) in
    let rest : List Range = ranges_joining below (2 * place + 1) (old - 2 ^ below) (new - 2 ^ below) in
    ap (λ (l : ℕ). roots_joining nodes l place old new) e
    ∙ ap (λ (rs : List Range). option_map (roots_within (suc below) old new) (hashes_of nodes rs)) (joining-ranges-right below place old new less lt)
    ∙ ap (λ (g : List (List ℕ) → List ℕ × List ℕ). option_map g (hashes_of nodes (beside ∷ rest))) f
    ∙ right_pair (range_hash nodes beside) (hashes_of nodes rest) below_roots

joining-left : (nodes : List Node) (level below place old new : ℕ) → level ≡ suc below → old < new → 2 ^ below < new → old ≤ 2 ^ below
    → roots_joining nodes level place old new ≡ left_roots (hash_within nodes below (2 * place + 1) (new - 2 ^ below)) (roots_joining nodes below (2 * place) old (2 ^ below))
joining-left nodes level below place old new e less lt le =
    let below_roots : List (List ℕ) → List ℕ × List ℕ = roots_within below old (2 ^ below) in
    let whole : List (List ℕ) → List ℕ × List ℕ = λ hashes. ((below_roots (drop 1 hashes)).0, branch_hash (below_roots (drop 1 hashes)).1 (next_hash hashes)) in
    let f : roots_within (suc below) old new ≡ whole = λ i hashes. roots-left below old new hashes less lt le i in
    let beside : Range = range below (2 * place + 1) (new - 2 ^ below) in
    let rest : List Range = ranges_joining below (2 * place) old (2 ^ below) in
    ap (λ (l : ℕ). roots_joining nodes l place old new) e
    ∙ ap (λ (rs : List Range). option_map (roots_within (suc below) old new) (hashes_of nodes rs)) (joining-ranges-left below place old new less lt le)
    ∙ ap (λ (g : List (List ℕ) → List ℕ × List ℕ). option_map g (hashes_of nodes (beside ∷ rest))) f
    ∙ left_pair (range_hash nodes beside) (hashes_of nodes rest) below_roots

-- ---- a level more than enough

pub beside_lower : (nodes : List Node) (level place count index : ℕ) (leaf : List ℕ) → count ≤ 2 ^ level → root_beside nodes (suc level) place count index leaf ≡ root_beside nodes level (2 * place) count index leaf
beside_lower nodes level place count index leaf le = beside-less nodes (suc level) level place count index leaf refl le

pub joining_lower : (nodes : List Node) (level place old new : ℕ) → new ≤ 2 ^ level → roots_joining nodes (suc level) place old new ≡ roots_joining nodes level (2 * place) old new
joining_lower nodes level place old new le = joining-less nodes (suc level) level place old new refl le

-- ---- the same at a level above the lowest, by half of its entries

module _ (nodes : List Node) (level half place : ℕ) where
  pub hash_less : (count : ℕ) → 0 < level → half ≡ 2 ^ (level - 1) → count ≤ half → hash_within nodes level place count ≡ hash_within nodes (level - 1) (2 * place) count
  hash_less count above is few = hash-less nodes level (level - 1) place count (omega arith) (omega arith)

  pub hash_whole : (count : ℕ) → 0 < level → half ≡ 2 ^ (level - 1) → half < count → count - half ≡ half → hash_within nodes level place count ≡ listed nodes level place
  hash_whole count above is many whole = hash-whole nodes level (level - 1) place count (omega arith) (omega arith) (omega arith)

  pub hash_split : (count : ℕ) → 0 < level → half ≡ 2 ^ (level - 1) → half < count → (count - half ≡ half → ⊥)
      → hash_within nodes level place count ≡ branch_of (hash_within nodes (level - 1) (2 * place) half) (hash_within nodes (level - 1) (2 * place + 1) (count - half))
  hash_split count above is many part = rw is (hash-split nodes level (level - 1) place count (omega arith) (omega arith) (λ e. part (omega arith)))

  pub beside_less : (count index : ℕ) (leaf : List ℕ) → 0 < level → half ≡ 2 ^ (level - 1) → count ≤ half
      → root_beside nodes level place count index leaf ≡ root_beside nodes (level - 1) (2 * place) count index leaf
  beside_less count index leaf above is few = beside-less nodes level (level - 1) place count index leaf (omega arith) (omega arith)

  pub beside_left : (count index : ℕ) (leaf : List ℕ) → 0 < level → half ≡ 2 ^ (level - 1) → half < count → index < half
      → root_beside nodes level place count index leaf ≡ branch_of (root_beside nodes (level - 1) (2 * place) half index leaf) (hash_within nodes (level - 1) (2 * place + 1) (count - half))
  beside_left count index leaf above is many here = rw is (beside-left nodes level (level - 1) place count index leaf (omega arith) (omega arith) (omega arith))

  pub beside_right : (count index : ℕ) (leaf : List ℕ) → 0 < level → half ≡ 2 ^ (level - 1) → half < count → half ≤ index
      → root_beside nodes level place count index leaf ≡ branch_of (hash_within nodes (level - 1) (2 * place) half) (root_beside nodes (level - 1) (2 * place + 1) (count - half) (index - half) leaf)
  beside_right count index leaf above is many there = rw is (beside-right nodes level (level - 1) place count index leaf (omega arith) (omega arith) (omega arith))

  pub joining_less : (old new : ℕ) → 0 < level → half ≡ 2 ^ (level - 1) → new ≤ half → roots_joining nodes level place old new ≡ roots_joining nodes (level - 1) (2 * place) old new
  joining_less old new above is few = joining-less nodes level (level - 1) place old new (omega arith) (omega arith)

  pub joining_whole : (old new : ℕ) → 0 < level → half ≡ 2 ^ (level - 1) → half < new → old ≡ new → roots_joining nodes level place old new ≡ doubled (hash_within nodes level place new)
  joining_whole old new above is many same = joining-whole nodes level (level - 1) place old new (omega arith) (omega arith) same

  pub joining_right : (old new : ℕ) → 0 < level → half ≡ 2 ^ (level - 1) → old < new → half < old
      → roots_joining nodes level place old new ≡ right_roots (hash_within nodes (level - 1) (2 * place) half) (roots_joining nodes (level - 1) (2 * place + 1) (old - half) (new - half))
  joining_right old new above is less past = rw is (joining-right nodes level (level - 1) place old new (omega arith) less (omega arith))

  pub joining_left : (old new : ℕ) → 0 < level → half ≡ 2 ^ (level - 1) → old < new → half < new → old ≤ half
      → roots_joining nodes level place old new ≡ left_roots (hash_within nodes (level - 1) (2 * place + 1) (new - half)) (roots_joining nodes (level - 1) (2 * place) old half)
  joining_left old new above is less many upto = rw is (joining-left nodes level (level - 1) place old new (omega arith) less (omega arith) (omega arith))

-- ---- parts that are there, and parts that are not

pub none_left : (left right : Option (List ℕ)) → left ≡ None → branch_of left right ≡ None
none_left left right e = ap (λ (o : Option (List ℕ)). branch_of o right) e

pub none_right : (left right : Option (List ℕ)) → right ≡ None → branch_of left right ≡ None
none_right None right e = refl
none_right (Some l) right e = ap (λ (o : Option (List ℕ)). branch_of (Some l) o) e

pub both_are : (left right : Option (List ℕ)) (l r : List ℕ) → left ≡ Some l → right ≡ Some r → branch_of left right ≡ Some (branch_hash l r)
both_are left right l r e k = ap (λ (o : Option (List ℕ)). branch_of o right) e ∙ ap (λ (o : Option (List ℕ)). branch_of (Some l) o) k

pub none_of_left : (right : Option (List ℕ)) (roots : Option (List ℕ × List ℕ)) → roots ≡ None → left_roots right roots ≡ None
none_of_left None roots e = refl
none_of_left (Some h) roots e = ap (λ (o : Option (List ℕ × List ℕ)). left_roots (Some h) o) e

pub none_of_right : (left : Option (List ℕ)) (roots : Option (List ℕ × List ℕ)) → roots ≡ None → right_roots left roots ≡ None
none_of_right None roots e = refl
none_of_right (Some h) roots e = ap (λ (o : Option (List ℕ × List ℕ)). right_roots (Some h) o) e

pub right_are : (left : Option (List ℕ)) (roots : Option (List ℕ × List ℕ)) (l : List ℕ) (r : List ℕ × List ℕ) (x y : List ℕ) → left ≡ Some l → roots ≡ Some r → x ≡ branch_hash l r.0 → y ≡ branch_hash l r.1
    → right_roots left roots ≡ Some (x, y)
right_are left roots l r x y e k p q =
    let made : List ℕ × List ℕ = (branch_hash l r.0, branch_hash l r.1) in
    let seen : List ℕ × List ℕ = (x, y) in
    let same : made ≡ seen = λ i. (sym p i, sym q i) in
    ap (λ (o : Option (List ℕ)). right_roots o roots) e ∙ ap (λ (o : Option (List ℕ × List ℕ)). right_roots (Some l) o) k ∙ ap (λ (both : List ℕ × List ℕ). Some both) same

pub left_are : (right : Option (List ℕ)) (roots : Option (List ℕ × List ℕ)) (h : List ℕ) (l : List ℕ × List ℕ) (y : List ℕ) → right ≡ Some h → roots ≡ Some l → y ≡ branch_hash l.1 h → left_roots right roots ≡ Some (l.0, y)
left_are right roots h l y e k q =
    let made : List ℕ × List ℕ = (l.0, branch_hash l.1 h) in
    let seen : List ℕ × List ℕ = (l.0, y) in
    let same : made ≡ seen = λ i. (l.0, sym q i) in
    ap (λ (o : Option (List ℕ)). left_roots o roots) e ∙ ap (λ (o : Option (List ℕ × List ℕ)). left_roots (Some h) o) k ∙ ap (λ (both : List ℕ × List ℕ). Some both) same
