-- What the root of a log, an inclusion path and a consistency proof show.
use Rattle.std.proofs.Common.{◌≡◌, ◌⊎◌, ℕ, zero, suc, ◌+◌, ◌-◌, ◌^◌, ◌<◌, ◌≤◌, ◌&&◌, ltb, leb, eqb, List, [], ◌∷◌, length, take, drop, Some, refl, sym, ap, subst, ◌∙◌, inl, inr, arith}
use Rattle.std.specs.Prelude.{IsSomeAnd, slice_get}
use Rattle.std.proofs.Math.Nat.{pow-suc}
use Rattle.std.proofs.lemmas.Bool.{cases_lt, cond-true, cond-false, lt-ltb, le-ltb, eq-eqb, ne_eqb, cond_both, and_parts, ltb-true, leb-true, eqb-true}
use Rattle.std.proofs.lemmas.Option.{cond_some}
use Rattle.std.proofs.lemmas.List.{length-take, length-drop, take_all, take-take, drop-take}
use Rattle.std.proofs.lemmas.List.Elements.{All-take, All-drop}
use Rattle.hex.specs.Hex.{IsBytes}
use Rattle.warg_hash.specs.ByteLaws.{sha256_is_digest}
use Rattle.warg_hash.specs.Hash.{IsDigest}
use Rattle.warg_proof.specs.Merkle.{AreBytes, AreHashes, IsClash, leaf_text, branch_text, branch_hash, next_hash, first_clash}
use Rattle.warg_proof.specs.LogTree.{root_within, root, inclusion_ranges, path_root_within, path_root, inclusion_pairs, inclusion_clash, consistency_ranges, roots_within, two_roots, consistency_pairs, consistency_clash}
use Rattle.warg_proof.proofs.Hashes.{bytes-leaf_text, bytes-branch_text, IsShort, short_hash, short-next_hash, leaf_parts, branch_of_hashes, clash_or}

-- ---- powers and places

pub below_power : (n : ℕ) → n < 2 ^ n
below_power zero = omega arith
below_power (suc n) = omega (arith, below_power n, pow-suc 2 n)

pub slice_get-take : {A : Type 0} (n : ℕ) (xs : List A) (i : ℕ) → i < n → slice_get (take n xs) i ≡ slice_get xs i
slice_get-take zero xs i lt = absurd (omega arith)
slice_get-take (suc n) [] i lt = refl
slice_get-take (suc n) (x ∷ xs) zero lt = refl
slice_get-take (suc n) (x ∷ xs) (suc i) lt = slice_get-take n xs i (omega arith)

pub slice_get-drop : {A : Type 0} (n : ℕ) (xs : List A) (i : ℕ) → slice_get (drop n xs) i ≡ slice_get xs (n + i)
slice_get-drop zero xs i = let same : i ≡ 0 + i = omega arith in ap (slice_get xs) same
slice_get-drop (suc n) [] i = refl
slice_get-drop (suc n) (x ∷ xs) i = let same : suc (n + i) ≡ suc n + i = omega arith in slice_get-drop n xs i ∙ ap (slice_get (x ∷ xs)) same

-- ---- the root

pub root-more : (level : ℕ) (entries : List (List ℕ)) → 2 ^ level < length entries → root_within (suc level) entries ≡ branch_hash (root_within level (take (2 ^ level) entries)) (root_within level (drop (2 ^ level) entries))
unfolding root_within
root-more level entries lt = cond-true (ltb (2 ^ level) (length entries)) _ _ (lt-ltb _ _ lt)

pub root-less : (level : ℕ) (entries : List (List ℕ)) → length entries ≤ 2 ^ level → root_within (suc level) entries ≡ root_within level entries
unfolding root_within
root-less level entries le = cond-false (ltb (2 ^ level) (length entries)) _ _ (le-ltb _ _ le)

-- what a level more leaves alone is the same at each level that is high enough
raised : {A : Type 0} (f : ℕ → A) (n : ℕ) → ((level : ℕ) → n ≤ 2 ^ level → f (suc level) ≡ f level) → (more level : ℕ) → n ≤ 2 ^ level → (n ≤ 2 ^ (more + level)) × (f (more + level) ≡ f level)
raised f n step zero level le =
    let same : 0 + level ≡ level = omega arith in
    (subst (λ (k : ℕ). n ≤ 2 ^ k) (sym same) le, ap f same)
raised f n step (suc more) level le =
    let before = raised f n step more level le in
    let same : suc more + level ≡ suc (more + level) = omega arith in
    let high : n ≤ 2 ^ suc (more + level) = omega (arith, before.0, pow-suc 2 (more + level)) in
    (subst (λ (k : ℕ). n ≤ 2 ^ k) (sym same) high, ap f same ∙ step (more + level) before.0 ∙ before.1)

pub at_any_level : {A : Type 0} (f : ℕ → A) (n : ℕ) → ((level : ℕ) → n ≤ 2 ^ level → f (suc level) ≡ f level) → (a b : ℕ) → n ≤ 2 ^ a → n ≤ 2 ^ b → f a ≡ f b
at_any_level f n step a b la lb =
    let turned : b + a ≡ a + b = omega arith in
    sym (raised f n step b a la).1 ∙ ap f turned ∙ (raised f n step a b lb).1

pub root-any : (a b : ℕ) (entries : List (List ℕ)) → length entries ≤ 2 ^ a → length entries ≤ 2 ^ b → root_within a entries ≡ root_within b entries
root-any a b entries la lb = at_any_level (λ level. root_within level entries) (length entries) (λ level le. root-less level entries le) a b la lb

-- the root of entries is that at each level that is high enough
pub root-at : (level : ℕ) (entries : List (List ℕ)) → length entries ≤ 2 ^ level → root entries ≡ root_within level entries
root-at level entries le = root-any (length entries) level entries (let lt = below_power (length entries) in omega arith) le

pub root-split : (entries : List (List ℕ)) (k : ℕ) → 2 ^ k < length entries → length entries ≤ 2 ^ (k + 1) → root entries ≡ branch_hash (root (take (2 ^ k) entries)) (root (drop (2 ^ k) entries))
root-split entries k lt le =
    let same : k + 1 ≡ suc k = omega arith in
    let high : length entries ≤ 2 ^ suc k = subst (λ (n : ℕ). length entries ≤ 2 ^ n) same le in
    let left : root (take (2 ^ k) entries) ≡ root_within k (take (2 ^ k) entries) = root-at k (take (2 ^ k) entries) (omega (arith, length-take (2 ^ k) entries)) in
    let right : root (drop (2 ^ k) entries) ≡ root_within k (drop (2 ^ k) entries) = root-at k (drop (2 ^ k) entries) (omega (arith, length-drop (2 ^ k) entries, pow-suc 2 k, high)) in
    root-at (suc k) entries high ∙ root-more k entries lt ∙ ap (λ (h : List ℕ). branch_hash h (root_within k (drop (2 ^ k) entries))) (sym left) ∙ ap (branch_hash (root (take (2 ^ k) entries))) (sym right)

pub root_is_hash : (level : ℕ) (entries : List (List ℕ)) → IsDigest (root_within level entries)
unfolding root_within
root_is_hash zero [] = sha256_is_digest []
root_is_hash zero (entry ∷ entries) = sha256_is_digest (leaf_text entry)
root_is_hash (suc level) entries =
    cond_both (ltb (2 ^ level) (length entries)) _ _ IsDigest (λ _. sha256_is_digest _) (λ _. root_is_hash level entries)

-- ---- inclusion

pub path-left : (level index count : ℕ) (leaf : List ℕ) (path : List (List ℕ)) → 2 ^ level < count → index < 2 ^ level
    → path_root_within (suc level) index count leaf path ≡ branch_hash (path_root_within level index (2 ^ level) leaf (drop 1 path)) (next_hash path)
unfolding path_root_within
path-left level index count leaf path lt here =
    cond-true (ltb (2 ^ level) count) _ _ (lt-ltb _ _ lt) ∙ cond-true (ltb index (2 ^ level)) _ _ (lt-ltb _ _ here)

pub path-right : (level index count : ℕ) (leaf : List ℕ) (path : List (List ℕ)) → 2 ^ level < count → 2 ^ level ≤ index
    → path_root_within (suc level) index count leaf path ≡ branch_hash (next_hash path) (path_root_within level (index - 2 ^ level) (count - 2 ^ level) leaf (drop 1 path))
unfolding path_root_within
path-right level index count leaf path lt there =
    cond-true (ltb (2 ^ level) count) _ _ (lt-ltb _ _ lt) ∙ cond-false (ltb index (2 ^ level)) _ _ (le-ltb _ _ there)

pub path-less : (level index count : ℕ) (leaf : List ℕ) (path : List (List ℕ)) → count ≤ 2 ^ level
    → path_root_within (suc level) index count leaf path ≡ path_root_within level index count leaf path
unfolding path_root_within
path-less level index count leaf path le = cond-false (ltb (2 ^ level) count) _ _ (le-ltb _ _ le)

pub path_is_hash : (level index count : ℕ) (leaf : List ℕ) (path : List (List ℕ)) → IsDigest (path_root_within level index count leaf path)
unfolding path_root_within
path_is_hash zero index count leaf path = sha256_is_digest (leaf_text leaf)
path_is_hash (suc level) index count leaf path =
    cond_both (ltb (2 ^ level) count) _ _ IsDigest
    (λ _. cond_both (ltb index (2 ^ level)) _ _ IsDigest (λ _. sha256_is_digest _) (λ _. sha256_is_digest _))
    (λ _. path_is_hash level index count leaf path)

-- the leaf is the entry at the index, or the pairs have a clash
abbrev Shows : ℕ → List (List ℕ) → ℕ → List ℕ → List (List ℕ) → Type 0
Shows level entries index leaf path = (slice_get entries index ≡ Some leaf) ⊎ IsSomeAnd (first_clash (inclusion_pairs level entries index leaf path)) IsClash

-- what the law says at one level
abbrev LawAt : ℕ → Type 0
LawAt level = (entries : List (List ℕ)) (index : ℕ) (leaf : List ℕ) (path : List (List ℕ)) → AreBytes entries → IsBytes leaf → AreHashes path
    → length entries ≤ 2 ^ level → index < length entries → path_root_within level index (length entries) leaf path ≡ root_within level entries → Shows level entries index leaf path

inclusion-left : (level : ℕ) → LawAt level → (entries : List (List ℕ)) (index : ℕ) (leaf : List ℕ) (path : List (List ℕ)) → AreBytes entries → IsBytes leaf → AreHashes path
    → 2 ^ level < length entries → index < 2 ^ level → path_root_within (suc level) index (length entries) leaf path ≡ root_within (suc level) entries → Shows (suc level) entries index leaf path
unfolding inclusion_pairs
inclusion-left level law entries index leaf path be bl hp lt here e =
    let half = take (2 ^ level) entries in
    let left = root_within level half in
    let right = root_within level (drop (2 ^ level) entries) in
    let found = path_root_within level index (2 ^ level) leaf (drop 1 path) in
    let below = inclusion_pairs level half index leaf (drop 1 path) in
    let len : length half ≡ 2 ^ level = omega (arith, length-take (2 ^ level) entries) in
    let alike : branch_hash left right ≡ branch_hash found (next_hash path) = sym (root-more level entries lt) ∙ sym e ∙ path-left level index (length entries) leaf path lt here in
    let claim : Type 0 = slice_get entries index ≡ Some leaf in
    let short = short-next_hash path hp in
    let l = root_is_hash level half in
    let r = root_is_hash level (drop (2 ^ level) entries) in
    let f = path_is_hash level index (2 ^ level) leaf (drop 1 path) in
    let shown : claim ⊎ IsSomeAnd (first_clash ((branch_text left right, branch_text found (next_hash path)) ∷ below)) IsClash =
    clash_or claim (branch_text left right) (branch_text found (next_hash path)) below (bytes-branch_text left right l.1 r.1) (bytes-branch_text found (next_hash path) f.1 short.are_bytes) alike (λ same.
    let parts = branch_of_hashes left right found (next_hash path) l r (short_hash found f) short same in
    let again : path_root_within level index (length half) leaf (drop 1 path) ≡ left = ap (λ (n : ℕ). path_root_within level index n leaf (drop 1 path)) len ∙ sym parts.0 in
    elim (law half index leaf (drop 1 path) (All-take IsBytes (2 ^ level) entries be) bl (All-drop IsDigest 1 path hp) (omega arith) (omega arith) again) [
      | inl is ↦ inl (sym (slice_get-take (2 ^ level) entries index here) ∙ is)
      | inr clash ↦ inr clash
    ]) in
    rw (lt-ltb _ _ lt, lt-ltb _ _ here) shown

inclusion-right : (level : ℕ) → LawAt level → (entries : List (List ℕ)) (index : ℕ) (leaf : List ℕ) (path : List (List ℕ)) → AreBytes entries → IsBytes leaf → AreHashes path
    → length entries ≤ 2 ^ suc level → index < length entries
    → 2 ^ level < length entries → 2 ^ level ≤ index → path_root_within (suc level) index (length entries) leaf path ≡ root_within (suc level) entries → Shows (suc level) entries index leaf path
unfolding inclusion_pairs
inclusion-right level law entries index leaf path be bl hp le inside lt there e =
    let half = drop (2 ^ level) entries in
    let left = root_within level (take (2 ^ level) entries) in
    let right = root_within level half in
    let found = path_root_within level (index - 2 ^ level) (length entries - 2 ^ level) leaf (drop 1 path) in
    let below = inclusion_pairs level half (index - 2 ^ level) leaf (drop 1 path) in
    let len : length half ≡ length entries - 2 ^ level = length-drop (2 ^ level) entries in
    let alike : branch_hash left right ≡ branch_hash (next_hash path) found = sym (root-more level entries lt) ∙ sym e ∙ path-right level index (length entries) leaf path lt there in
    let claim : Type 0 = slice_get entries index ≡ Some leaf in
    let short = short-next_hash path hp in
    let l = root_is_hash level (take (2 ^ level) entries) in
    let r = root_is_hash level half in
    let f = path_is_hash level (index - 2 ^ level) (length entries - 2 ^ level) leaf (drop 1 path) in
    let place : 2 ^ level + (index - 2 ^ level) ≡ index = omega arith in
    let shown : claim ⊎ IsSomeAnd (first_clash ((branch_text left right, branch_text (next_hash path) found) ∷ below)) IsClash =
    clash_or claim (branch_text left right) (branch_text (next_hash path) found) below (bytes-branch_text left right l.1 r.1) (bytes-branch_text (next_hash path) found short.are_bytes f.1) alike (λ same.
    let parts = branch_of_hashes left right (next_hash path) found l r short (short_hash found f) same in
    let again : path_root_within level (index - 2 ^ level) (length half) leaf (drop 1 path) ≡ right = ap (λ (n : ℕ). path_root_within level (index - 2 ^ level) n leaf (drop 1 path)) len ∙ sym parts.1 in
    elim (law half (index - 2 ^ level) leaf (drop 1 path) (All-drop IsBytes (2 ^ level) entries be) bl (All-drop IsDigest 1 path hp) (omega (arith, pow-suc 2 level)) (omega arith) again) [
      | inl is ↦ inl (ap (slice_get entries) (sym place) ∙ sym (slice_get-drop (2 ^ level) entries (index - 2 ^ level)) ∙ is)
      | inr clash ↦ inr clash
    ]) in
    rw (lt-ltb _ _ lt, le-ltb _ _ there) shown

inclusion-less : (level : ℕ) → LawAt level → (entries : List (List ℕ)) (index : ℕ) (leaf : List ℕ) (path : List (List ℕ)) → AreBytes entries → IsBytes leaf → AreHashes path
    → index < length entries → length entries ≤ 2 ^ level → path_root_within (suc level) index (length entries) leaf path ≡ root_within (suc level) entries → Shows (suc level) entries index leaf path
unfolding inclusion_pairs
inclusion-less level law entries index leaf path be bl hp inside le e =
    let same : path_root_within level index (length entries) leaf path ≡ root_within level entries = sym (path-less level index (length entries) leaf path le) ∙ e ∙ root-less level entries le in
    rw (le-ltb _ _ le) (law entries index leaf path be bl hp le inside same)

at_leaf : (entry : List ℕ) (entries : List (List ℕ)) (index : ℕ) (leaf : List ℕ) (path : List (List ℕ)) → IsBytes entry → IsBytes leaf → index ≡ 0
    → path_root_within 0 index (length (entry ∷ entries)) leaf path ≡ root_within 0 (entry ∷ entries) → Shows 0 (entry ∷ entries) index leaf path
unfolding root_within path_root_within inclusion_pairs
at_leaf entry entries index leaf path be bl first e =
    clash_or (slice_get (entry ∷ entries) index ≡ Some leaf) (leaf_text entry) (leaf_text leaf) [] (bytes-leaf_text entry be) (bytes-leaf_text leaf bl) (sym e) (λ same.
    inl (ap (slice_get (entry ∷ entries)) first ∙ ap (λ (x : List ℕ). Some x) (leaf_parts entry leaf same)))

law_at : (level : ℕ) → LawAt level
law_at zero [] index leaf path be bl hp le inside e = absurd (omega arith)
law_at zero (entry ∷ entries) index leaf path be bl hp le inside e = at_leaf entry entries index leaf path (be 0 [] (omega arith)) bl (omega arith) e
law_at (suc level) entries index leaf path be bl hp le inside e =
    elim (cases_lt (2 ^ level) (length entries)) [
      | inl lt ↦ elim (cases_lt index (2 ^ level)) [
        | inl here ↦ inclusion-left level (law_at level) entries index leaf path be bl hp lt here e
        | inr there ↦ inclusion-right level (law_at level) entries index leaf path be bl hp le inside lt there e
      ]
      | inr few ↦ inclusion-less level (law_at level) entries index leaf path be bl hp inside few e
    ]

-- a path that gives a root is of an index below the count
pub path_inside : (index count : ℕ) (leaf : List ℕ) (path : List (List ℕ)) (found : List ℕ) → path_root index count leaf path ≡ Some found
    → (index < count) × (length path ≡ length (inclusion_ranges count index)) × (path_root_within count index count leaf path ≡ found)
path_inside index count leaf path found e =
    let test = cond_some (ltb index count && eqb (length path) (length (inclusion_ranges count index))) (path_root_within count index count leaf path) found e in
    let both = and_parts (ltb index count) (eqb (length path) (length (inclusion_ranges count index))) test.0 in
    (ltb-true _ _ both.0, eqb-true _ _ both.1, test.1)

pub inclusion_law : (entries : List (List ℕ)) (index : ℕ) (leaf : List ℕ) (path : List (List ℕ)) → AreBytes entries → IsBytes leaf → AreHashes path
    → path_root index (length entries) leaf path ≡ Some (root entries) → (slice_get entries index ≡ Some leaf) ⊎ IsSomeAnd (inclusion_clash entries index leaf path) IsClash
inclusion_law entries index leaf path be bl hp e =
    let given = path_inside index (length entries) leaf path (root entries) e in
    law_at (length entries) entries index leaf path be bl hp (let lt = below_power (length entries) in omega arith) given.0 given.2

-- ---- consistency

short_roots : (level old new : ℕ) (hashes : List (List ℕ)) → AreHashes hashes → IsShort (roots_within level old new hashes).1
unfolding roots_within
short_roots zero old new hashes h = short-next_hash hashes h
short_roots (suc level) old new hashes h =
    let P : List ℕ × List ℕ → Type 0 = λ roots. IsShort roots.1 in
    cond_both (ltb (2 ^ level) new) _ _ P
    (λ _. cond_both (eqb old new) _ _ P (λ _. short-next_hash hashes h) (λ _.
    cond_both (ltb (2 ^ level) old) _ _ P (λ _. short_hash _ (sha256_is_digest _)) (λ _. short_hash _ (sha256_is_digest _))))
    (λ _. short_roots level old new hashes h)

-- the roots of a range that ends at the old length, of one that it cuts in its right or left part, and of one
-- that is low enough
pub roots-whole : (level old new : ℕ) (hashes : List (List ℕ)) → 2 ^ level < new → old ≡ new → roots_within (suc level) old new hashes ≡ (next_hash hashes, next_hash hashes)
unfolding roots_within
roots-whole level old new hashes lt same =
    cond-true (ltb (2 ^ level) new) _ _ (lt-ltb _ _ lt) ∙ cond-true (eqb old new) _ _ (eq-eqb _ _ same)

pub roots-right : (level old new : ℕ) (hashes : List (List ℕ)) → old < new → 2 ^ level < old
    → let right = roots_within level (old - 2 ^ level) (new - 2 ^ level) (drop 1 hashes) in roots_within (suc level) old new hashes ≡ (branch_hash (next_hash hashes) right.0, branch_hash (next_hash hashes) right.1)
unfolding roots_within
roots-right level old new hashes below lt =
    cond-true (ltb (2 ^ level) new) _ _ (lt-ltb _ _ (omega arith)) ∙ cond-false (eqb old new) _ _ (ne_eqb _ _ (λ e. omega arith)) ∙ cond-true (ltb (2 ^ level) old) _ _ (lt-ltb _ _ lt)

pub roots-left : (level old new : ℕ) (hashes : List (List ℕ)) → old < new → 2 ^ level < new → old ≤ 2 ^ level
    → let left = roots_within level old (2 ^ level) (drop 1 hashes) in roots_within (suc level) old new hashes ≡ (left.0, branch_hash left.1 (next_hash hashes))
unfolding roots_within
roots-left level old new hashes below lt le =
    cond-true (ltb (2 ^ level) new) _ _ (lt-ltb _ _ lt) ∙ cond-false (eqb old new) _ _ (ne_eqb _ _ (λ e. omega arith)) ∙ cond-false (ltb (2 ^ level) old) _ _ (le-ltb _ _ le)

pub roots-less : (level old new : ℕ) (hashes : List (List ℕ)) → new ≤ 2 ^ level → roots_within (suc level) old new hashes ≡ roots_within level old new hashes
unfolding roots_within
roots-less level old new hashes le = cond-false (ltb (2 ^ level) new) _ _ (le-ltb _ _ le)

-- the old root is that of the first old entries, or the pairs have a clash
abbrev Joins : ℕ → List (List ℕ) → ℕ → List (List ℕ) → Type 0
Joins level entries old hashes = ((roots_within level old (length entries) hashes).0 ≡ root_within level (take old entries)) ⊎ IsSomeAnd (first_clash (consistency_pairs level entries old hashes)) IsClash

abbrev JoinsAt : ℕ → Type 0
JoinsAt level = (entries : List (List ℕ)) (old : ℕ) (hashes : List (List ℕ)) → AreHashes hashes → length entries ≤ 2 ^ level → 0 < old → old ≤ length entries
    → (roots_within level old (length entries) hashes).1 ≡ root_within level entries → Joins level entries old hashes

joins-whole : (level : ℕ) (entries : List (List ℕ)) (old : ℕ) (hashes : List (List ℕ)) → 2 ^ level < length entries → old ≡ length entries
    → (roots_within (suc level) old (length entries) hashes).1 ≡ root_within (suc level) entries → Joins (suc level) entries old hashes
joins-whole level entries old hashes lt same e =
    let both = roots-whole level old (length entries) hashes lt same in
    let all : take old entries ≡ entries = take_all old entries (omega arith) in
    inl (ap (λ (p : List ℕ × List ℕ). p.0) both ∙ sym (ap (λ (p : List ℕ × List ℕ). p.1) both) ∙ e ∙ ap (root_within (suc level)) (sym all))

joins-one : (entries : List (List ℕ)) (old : ℕ) (hashes : List (List ℕ)) → length entries ≤ old
    → (roots_within 0 old (length entries) hashes).1 ≡ root_within 0 entries → Joins 0 entries old hashes
unfolding roots_within
joins-one entries old hashes all e = inl (e ∙ ap (root_within 0) (sym (take_all old entries all)))

-- the root of the first old entries, from the parts that the split leaves of them
pub joined : (level : ℕ) (entries : List (List ℕ)) (old : ℕ) (found hash : List ℕ) → old < length entries → 2 ^ level < old → hash ≡ root_within level (take (2 ^ level) entries)
    → found ≡ root_within level (take (old - 2 ^ level) (drop (2 ^ level) entries)) → branch_hash hash found ≡ root_within (suc level) (take old entries)
joined level entries old found hash below lt first second =
    let many : 2 ^ level < length (take old entries) = omega (arith, length-take old entries) in
    let sum : 2 ^ level + (old - 2 ^ level) ≡ old = omega arith in
    let front : take (2 ^ level) (take old entries) ≡ take (2 ^ level) entries = take-take (2 ^ level) old entries (omega arith) in
    let rest : drop (2 ^ level) (take old entries) ≡ take (old - 2 ^ level) (drop (2 ^ level) entries) =
    ap (λ (n : ℕ). drop (2 ^ level) (take n entries)) (sym sum) ∙ drop-take (2 ^ level) (old - 2 ^ level) entries in
    ap (λ (h : List ℕ). branch_hash h found) (first ∙ ap (root_within level) (sym front))
    ∙ ap (branch_hash (root_within level (take (2 ^ level) (take old entries)))) (second ∙ ap (root_within level) (sym rest))
    ∙ sym (root-more level (take old entries) many)

joins-right : (level : ℕ) → JoinsAt level → (entries : List (List ℕ)) (old : ℕ) (hashes : List (List ℕ)) → AreHashes hashes → length entries ≤ 2 ^ suc level → old < length entries → 2 ^ level < old
    → (roots_within (suc level) old (length entries) hashes).1 ≡ root_within (suc level) entries → Joins (suc level) entries old hashes
unfolding consistency_pairs
joins-right level law entries old hashes hp le below lt e =
    let half = drop (2 ^ level) entries in
    let left = root_within level (take (2 ^ level) entries) in
    let right = root_within level half in
    let found = roots_within level (old - 2 ^ level) (length entries - 2 ^ level) (drop 1 hashes) in
    let pairs = consistency_pairs level half (old - 2 ^ level) (drop 1 hashes) in
    let many : 2 ^ level < length entries = omega arith in
    let len : length half ≡ length entries - 2 ^ level = length-drop (2 ^ level) entries in
    let both = roots-right level old (length entries) hashes below lt in
    let alike : branch_hash left right ≡ branch_hash (next_hash hashes) found.1 = sym (root-more level entries many) ∙ sym e ∙ ap (λ (p : List ℕ × List ℕ). p.1) both in
    let claim : Type 0 = (roots_within (suc level) old (length entries) hashes).0 ≡ root_within (suc level) (take old entries) in
    let l = root_is_hash level (take (2 ^ level) entries) in
    let r = root_is_hash level half in
    let s = short-next_hash hashes hp in
    let f = short_roots level (old - 2 ^ level) (length entries - 2 ^ level) (drop 1 hashes) (All-drop IsDigest 1 hashes hp) in
    let shown : claim ⊎ IsSomeAnd (first_clash ((branch_text left right, branch_text (next_hash hashes) found.1) ∷ pairs)) IsClash =
    clash_or claim (branch_text left right) (branch_text (next_hash hashes) found.1) pairs (bytes-branch_text left right l.1 r.1) (bytes-branch_text (next_hash hashes) found.1 s.are_bytes f.are_bytes) alike (λ same.
    let parts = branch_of_hashes left right (next_hash hashes) found.1 l r s f same in
    let again : (roots_within level (old - 2 ^ level) (length half) (drop 1 hashes)).1 ≡ right = ap (λ (n : ℕ). (roots_within level (old - 2 ^ level) n (drop 1 hashes)).1) len ∙ sym parts.1 in
    elim (law half (old - 2 ^ level) (drop 1 hashes) (All-drop IsDigest 1 hashes hp) (omega (arith, pow-suc 2 level)) (omega arith) (omega arith) again) [
      | inl is ↦ inl (ap (λ (p : List ℕ × List ℕ). p.0) both ∙ joined level entries old found.0 (next_hash hashes) below lt (sym parts.0)
          (sym (ap (λ (n : ℕ). (roots_within level (old - 2 ^ level) n (drop 1 hashes)).0) len) ∙ is))
      | inr clash ↦ inr clash
    ]) in
    rw (lt-ltb _ _ many, ne_eqb old (length entries) (λ is. omega arith), lt-ltb _ _ lt) shown

joins-left : (level : ℕ) → JoinsAt level → (entries : List (List ℕ)) (old : ℕ) (hashes : List (List ℕ)) → AreHashes hashes → 0 < old → old < length entries → 2 ^ level < length entries → old ≤ 2 ^ level
    → (roots_within (suc level) old (length entries) hashes).1 ≡ root_within (suc level) entries → Joins (suc level) entries old hashes
unfolding consistency_pairs
joins-left level law entries old hashes hp positive below lt le e =
    let half = take (2 ^ level) entries in
    let left = root_within level half in
    let right = root_within level (drop (2 ^ level) entries) in
    let found = roots_within level old (2 ^ level) (drop 1 hashes) in
    let pairs = consistency_pairs level half old (drop 1 hashes) in
    let len : length half ≡ 2 ^ level = omega (arith, length-take (2 ^ level) entries) in
    let both = roots-left level old (length entries) hashes below lt le in
    let alike : branch_hash left right ≡ branch_hash found.1 (next_hash hashes) = sym (root-more level entries lt) ∙ sym e ∙ ap (λ (p : List ℕ × List ℕ). p.1) both in
    let claim : Type 0 = (roots_within (suc level) old (length entries) hashes).0 ≡ root_within (suc level) (take old entries) in
    let l = root_is_hash level half in
    let r = root_is_hash level (drop (2 ^ level) entries) in
    let s = short-next_hash hashes hp in
    let f = short_roots level old (2 ^ level) (drop 1 hashes) (All-drop IsDigest 1 hashes hp) in
    let shown : claim ⊎ IsSomeAnd (first_clash ((branch_text left right, branch_text found.1 (next_hash hashes)) ∷ pairs)) IsClash =
    clash_or claim (branch_text left right) (branch_text found.1 (next_hash hashes)) pairs (bytes-branch_text left right l.1 r.1) (bytes-branch_text found.1 (next_hash hashes) f.are_bytes s.are_bytes) alike (λ same.
    let parts = branch_of_hashes left right found.1 (next_hash hashes) l r f s same in
    let again : (roots_within level old (length half) (drop 1 hashes)).1 ≡ left = ap (λ (n : ℕ). (roots_within level old n (drop 1 hashes)).1) len ∙ sym parts.0 in
    let front : take old half ≡ take old entries = take-take old (2 ^ level) entries le in
    let few : length (take old entries) ≤ 2 ^ level = omega (arith, length-take old entries) in
    elim (law half old (drop 1 hashes) (All-drop IsDigest 1 hashes hp) (omega arith) positive (omega arith) again) [
      | inl is ↦ inl (ap (λ (p : List ℕ × List ℕ). p.0) both ∙ sym (ap (λ (n : ℕ). (roots_within level old n (drop 1 hashes)).0) len) ∙ is
          ∙ ap (root_within level) front ∙ sym (root-less level (take old entries) few))
      | inr clash ↦ inr clash
    ]) in
    rw (lt-ltb _ _ lt, ne_eqb old (length entries) (λ is. omega arith), le-ltb _ _ le) shown

joins-less : (level : ℕ) → JoinsAt level → (entries : List (List ℕ)) (old : ℕ) (hashes : List (List ℕ)) → AreHashes hashes → 0 < old → old ≤ length entries → length entries ≤ 2 ^ level
    → (roots_within (suc level) old (length entries) hashes).1 ≡ root_within (suc level) entries → Joins (suc level) entries old hashes
unfolding consistency_pairs
joins-less level law entries old hashes hp positive within le e =
    let both = roots-less level old (length entries) hashes le in
    let few : length (take old entries) ≤ 2 ^ level = omega (arith, length-take old entries) in
    let again : (roots_within level old (length entries) hashes).1 ≡ root_within level entries = sym (ap (λ (p : List ℕ × List ℕ). p.1) both) ∙ e ∙ root-less level entries le in
    let claim : Type 0 = (roots_within (suc level) old (length entries) hashes).0 ≡ root_within (suc level) (take old entries) in
    let shown : claim ⊎ IsSomeAnd (first_clash (consistency_pairs level entries old hashes)) IsClash =
    elim (law entries old hashes hp le positive (omega arith) again) [
      | inl is ↦ inl (ap (λ (p : List ℕ × List ℕ). p.0) both ∙ is ∙ sym (root-less level (take old entries) few))
      | inr clash ↦ inr clash
    ] in
    rw (le-ltb _ _ le) shown

joins_at : (level : ℕ) → JoinsAt level
joins_at zero entries old hashes hp le positive within e = joins-one entries old hashes (omega arith) e
joins_at (suc level) entries old hashes hp le positive within e =
    elim (cases_lt (2 ^ level) (length entries)) [
      | inl lt ↦ elim (cases_lt old (length entries)) [
        | inl below ↦ elim (cases_lt (2 ^ level) old) [
          | inl past ↦ joins-right level (joins_at level) entries old hashes hp le below past e
          | inr upto ↦ joins-left level (joins_at level) entries old hashes hp positive below lt upto e
        ]
        | inr same ↦ joins-whole level entries old hashes lt (omega arith) e
      ]
      | inr few ↦ joins-less level (joins_at level) entries old hashes hp positive within few e
    ]

-- hashes that give roots are of two lengths in order
pub roots_inside : (old new : ℕ) (hashes : List (List ℕ)) (found : List ℕ × List ℕ) → two_roots old new hashes ≡ Some found
    → (0 < old) × (old ≤ new) × (length hashes ≡ length (consistency_ranges old new)) × (roots_within new old new hashes ≡ found)
roots_inside old new hashes found e =
    let ordered = ltb 0 old && leb old new in
    let enough = eqb (length hashes) (length (consistency_ranges old new)) in
    let test = cond_some (ordered && enough) (roots_within new old new hashes) found e in
    let both = and_parts ordered enough test.0 in
    let bounds = and_parts (ltb 0 old) (leb old new) both.0 in
    (ltb-true _ _ bounds.0, leb-true _ _ bounds.1, eqb-true _ _ both.1, test.1)

pub consistency_law : (entries : List (List ℕ)) (old : ℕ) (old_root : List ℕ) (hashes : List (List ℕ)) → AreHashes hashes
    → two_roots old (length entries) hashes ≡ Some (old_root, root entries) → (old_root ≡ root (take old entries)) ⊎ IsSomeAnd (consistency_clash entries old hashes) IsClash
consistency_law entries old old_root hashes hp e =
    let given = roots_inside old (length entries) hashes (old_root, root entries) e in
    let high : length entries ≤ 2 ^ length entries = let lt = below_power (length entries) in omega arith in
    let few : length (take old entries) ≤ 2 ^ length entries = omega (arith, length-take old entries) in
    elim (joins_at (length entries) entries old hashes hp high given.0 given.1 (ap (λ (p : List ℕ × List ℕ). p.1) given.3)) [
      | inl is ↦ inl (sym (ap (λ (p : List ℕ × List ℕ). p.0) given.3) ∙ is ∙ sym (root-at (length entries) (take old entries) few))
      | inr clash ↦ inr clash
    ]
