-- What the root of a map and the siblings of a key show.
use Rattle.std.proofs.Common.{◌≡◌, ◌⊎◌, ℕ, zero, suc, ◌+◌, ◌-◌, ◌*◌, ◌/◌, ◌%◌, ◌^◌, ◌<◌, ◌≤◌, Bool, true, false, not, cond, eqb, List, [], ◌∷◌, length, get_or, replicate, below_more, Option, Some, refl, sym, ap, subst, ◌∙◌, inl, inr, arith}
use Rattle.std.specs.Prelude.{IsSomeAnd, bytes_eq}
use Rattle.std.specs.List.{All, find}
use Rattle.std.proofs.lemmas.Bool.{cases_Bool, false≢true, not-true, cond-true, cond-false, cond_both, eqb-true, eqb-false}
use Rattle.std.proofs.lemmas.Option.{cond_some}
use Rattle.std.proofs.lemmas.List.{ext_get_or}
use Rattle.std.proofs.lemmas.List.Elements.{All-head, All-tail, All-filter, filter_passes}
use Rattle.std.proofs.lemmas.Map.Entries.{lookup-filter-keys}
use Rattle.std.proofs.lemmas.Slice.Eq.{bytes_eq-Decides}
use Rattle.sha2.specs.Sha256.{sha256}
use Rattle.hex.specs.Hex.{IsBytes}
use Rattle.warg_hash.specs.ByteLaws.{sha256_is_digest}
use Rattle.warg_hash.specs.Hash.{IsDigest}
use Rattle.warg_proof.specs.Merkle.{AreHashes, leaf_text, branch_text, branch_hash}
use Rattle.warg_proof.specs.MapTree.{Entries, IsMap, value_at, empty_root, has_bit, left_of, right_of, subtree_root, map_root, subtree_path_root, map_path_root, map_pairs, is_apart, map_clash, IsMapClash}
use Rattle.warg_proof.proofs.Hashes.{bytes-leaf_text, bytes-branch_text, short_hash, leaf_parts, branch_of_hashes}

-- ---- keys and their bits

-- a byte whose bits are those of another
same_byte : (a b : ℕ) → a < 256 → b < 256 → ((k : ℕ) → k < 8 → (a / 2 ^ (7 - k) % 2 ≡ b / 2 ^ (7 - k) % 2)) → a ≡ b
same_byte a b small other same =
    omega (arith, same 0 (omega arith), same 1 (omega arith), same 2 (omega arith), same 3 (omega arith), same 4 (omega arith), same 5 (omega arith), same 6 (omega arith), same 7 (omega arith))

same_bit : (m n : ℕ) → eqb (m % 2) 1 ≡ eqb (n % 2) 1 → m % 2 ≡ n % 2
same_bit m n e =
    elim (cases_Bool (eqb (m % 2) 1)) [
      | inl t ↦ omega (arith, eqb-true _ _ t, eqb-true _ _ (sym e ∙ t))
      | inr f ↦ let x = eqb-false _ _ f in let y = eqb-false _ _ (sym e ∙ f) in omega arith
    ]

-- a key goes the way of another down to a depth
abbrev pub GoesWith : List ℕ → ℕ → List ℕ → Type 0
GoesWith key depth other = (d : ℕ) → d < depth → has_bit other d ≡ has_bit key d

has_bit-at : (key : List ℕ) (i k : ℕ) → k < 8 → has_bit key (8 * i + k) ≡ eqb (get_or key i 0 / 2 ^ (7 - k) % 2) 1
has_bit-at key i k small =
    let place : (8 * i + k) / 8 ≡ i = omega arith in
    let bit : (8 * i + k) % 8 ≡ k = omega arith in
    ap (λ (j : ℕ). eqb (get_or key j 0 / 2 ^ (7 - (8 * i + k) % 8) % 2) 1) place ∙ ap (λ (j : ℕ). eqb (get_or key i 0 / 2 ^ (7 - j) % 2) 1) bit

-- a key that goes all the way with another is that key
pub same_key : (key other : List ℕ) → IsDigest key → IsDigest other → GoesWith key 256 other → other ≡ key
same_key key other h k way =
    let len = h.0 in
    let len' = k.0 in
    ext_get_or 0 other key (omega arith) (λ i lt. same_byte (get_or other i 0) (get_or key i 0) (k.1 i) (h.1 i) (λ j small.
    same_bit (get_or other i 0 / 2 ^ (7 - j)) (get_or key i 0 / 2 ^ (7 - j)) (sym (has_bit-at other i j small) ∙ way (8 * i + j) (omega arith) ∙ has_bit-at key i j small)))

-- ---- the entries on one side of a split

-- each key goes with the given one down to a depth
abbrev pub AllGo : List ℕ → ℕ → Entries → Type 0
AllGo key depth entries = All (λ entry. GoesWith key depth entry.0) entries

pub goes_more : (key : List ℕ) (depth : ℕ) (other : List ℕ) → GoesWith key depth other → has_bit other depth ≡ has_bit key depth → GoesWith key (depth + 1) other
goes_more key depth other way here = below_more (λ (d : ℕ). has_bit other d ≡ has_bit key d) depth way here

pub go_left : (key : List ℕ) (depth : ℕ) (entries : Entries) → has_bit key depth ≡ false → AllGo key depth entries → AllGo key (depth + 1) (left_of depth entries)
go_left key depth entries left all k d lt =
    let test : List ℕ × List ℕ → Bool = λ entry. not (has_bit entry.0 depth) in
    let other = (get_or (left_of depth entries) k d).0 in
    let way : GoesWith key depth other = All-filter test (λ entry. GoesWith key depth entry.0) entries all k d lt in
    let here : has_bit other depth ≡ false = not-true (has_bit other depth) (filter_passes test entries k d lt) in
    goes_more key depth other way (here ∙ sym left)

pub go_right : (key : List ℕ) (depth : ℕ) (entries : Entries) → has_bit key depth ≡ true → AllGo key depth entries → AllGo key (depth + 1) (right_of depth entries)
go_right key depth entries right all k d lt =
    let test : List ℕ × List ℕ → Bool = λ entry. has_bit entry.0 depth in
    let other = (get_or (right_of depth entries) k d).0 in
    let way : GoesWith key depth other = All-filter test (λ entry. GoesWith key depth entry.0) entries all k d lt in
    let here : has_bit other depth ≡ true = filter_passes test entries k d lt in
    goes_more key depth other way (here ∙ sym right)

-- a key's value is on the side to which the key leads
pub value_left : (key : List ℕ) (depth : ℕ) (entries : Entries) → has_bit key depth ≡ false → value_at (left_of depth entries) key ≡ value_at entries key
value_left key depth entries left =
    lookup-filter-keys (λ known. bytes_eq known key) (λ known. not (has_bit known depth)) true
    (λ known same. ap not (ap (λ (k : List ℕ). has_bit k depth) ((bytes_eq-Decides known key).0 same) ∙ left)) entries

pub value_right : (key : List ℕ) (depth : ℕ) (entries : Entries) → has_bit key depth ≡ true → value_at (right_of depth entries) key ≡ value_at entries key
value_right key depth entries right =
    lookup-filter-keys (λ known. bytes_eq known key) (λ known. has_bit known depth) true
    (λ known same. ap (λ (k : List ℕ). has_bit k depth) ((bytes_eq-Decides known key).0 same) ∙ right) entries

-- ---- roots

bytes-zeros : (n : ℕ) → IsBytes (replicate n 0)
bytes-zeros zero i = omega arith
bytes-zeros (suc n) zero = omega arith
bytes-zeros (suc n) (suc i) = bytes-zeros n i

pub subtree-nil : (height : ℕ) → subtree_root height [] ≡ empty_root height
unfolding subtree_root
subtree-nil zero = refl
subtree-nil (suc height) = refl

-- the root of a subtree is the branch over those of its sides, empty or not
pub subtree-split : (height : ℕ) (entries : Entries) → subtree_root (suc height) entries ≡ branch_hash (subtree_root height (left_of (255 - height) entries)) (subtree_root height (right_of (255 - height) entries))
unfolding subtree_root empty_root
subtree-split height [] = ap (λ (h : List ℕ). branch_hash h h) (sym (subtree-nil height))
subtree-split height (entry ∷ entries) = refl

pub empty_is_hash : (height : ℕ) → IsDigest (empty_root height)
unfolding empty_root
empty_is_hash zero = (refl, bytes-zeros 32)
empty_is_hash (suc height) = sha256_is_digest _

one_is_hash : (entry : List ℕ × List ℕ) (entries : Entries) → IsDigest (subtree_root 0 (entry ∷ entries))
unfolding subtree_root
one_is_hash entry entries = sha256_is_digest (leaf_text entry.1)

pub subtree_is_hash : (height : ℕ) (entries : Entries) → IsDigest (subtree_root height entries)
subtree_is_hash zero [] = subst IsDigest (sym (subtree-nil 0)) (empty_is_hash 0)
subtree_is_hash zero (entry ∷ entries) = one_is_hash entry entries
subtree_is_hash (suc height) entries = subst IsDigest (sym (subtree-split height entries)) (sha256_is_digest _)

path_is_hash : (key value : List ℕ) (siblings : List (List ℕ)) → IsDigest (subtree_path_root key value siblings)
unfolding subtree_path_root
path_is_hash key value [] = sha256_is_digest (leaf_text value)
path_is_hash key value (sibling ∷ siblings) = cond_both (has_bit key (255 - length siblings)) _ _ IsDigest (λ _. sha256_is_digest _) (λ _. sha256_is_digest _)

pub path-right : (key value sibling : List ℕ) (siblings : List (List ℕ)) → has_bit key (255 - length siblings) ≡ true → subtree_path_root key value (sibling ∷ siblings) ≡ branch_hash sibling (subtree_path_root key value siblings)
unfolding subtree_path_root
path-right key value sibling siblings right = cond-true (has_bit key (255 - length siblings)) _ _ right

pub path-left : (key value sibling : List ℕ) (siblings : List (List ℕ)) → has_bit key (255 - length siblings) ≡ false → subtree_path_root key value (sibling ∷ siblings) ≡ branch_hash (subtree_path_root key value siblings) sibling
unfolding subtree_path_root
path-left key value sibling siblings left = cond-false (has_bit key (255 - length siblings)) _ _ left

-- ---- the law

-- two strings of one hash are a clash, unless they are equal and what follows shows the claim or a clash
clash_or : (Claim : Type 0) (x y : List ℕ) (pairs : List (List ℕ × Option (List ℕ))) → IsBytes x → IsBytes y → sha256 x ≡ sha256 y → (x ≡ y → Claim ⊎ IsSomeAnd (find is_apart pairs) IsMapClash) → Claim ⊎ IsSomeAnd (find is_apart ((x, Some y) ∷ pairs)) IsMapClash
clash_or Claim x y pairs bx by alike go =
    let P : Bool → Type 0 = λ b. Claim ⊎ IsSomeAnd (cond (not b) (Some (x, Some y)) (find is_apart pairs)) IsMapClash in
    elim (cases_Bool (bytes_eq x y)) [
      | inl same ↦ subst P (sym same) (go ((bytes_eq-Decides x y).0 same))
      | inr other ↦ subst P (sym other) (inr (record { first_bytes = bx; second_bytes = by; differ = λ e. false≢true (sym other ∙ (bytes_eq-Decides x y).1 e); hash_alike = alike }))
    ]

-- the value is the key's, or the pairs have a clash
abbrev Shows : List ℕ → List ℕ → List (List ℕ) → Entries → Type 0
Shows key value siblings entries = (value_at entries key ≡ Some value) ⊎ IsSomeAnd (find is_apart (map_pairs key value siblings entries)) IsMapClash

abbrev LawAt : List ℕ → List ℕ → List (List ℕ) → Type 0
LawAt key value siblings = (entries : Entries) → length siblings ≤ 256 → AreHashes siblings → IsMap entries → AllGo key (256 - length siblings) entries
    → subtree_path_root key value siblings ≡ subtree_root (length siblings) entries → Shows key value siblings entries

at_leaf : (key value : List ℕ) → IsDigest key → IsBytes value → LawAt key value []
unfolding subtree_root subtree_path_root map_pairs empty_root
at_leaf key value hk bv [] le hs im go e = inr (bytes-leaf_text value bv, e)
at_leaf key value hk bv (entry ∷ entries) le hs im go e =
    let here = im 0 entry (omega arith) in
    let same : entry.0 ≡ key = same_key key entry.0 hk here.0 (go 0 entry (omega arith)) in
    clash_or (value_at (entry ∷ entries) key ≡ Some value) (leaf_text value) (leaf_text entry.1) [] (bytes-leaf_text value bv) (bytes-leaf_text entry.1 here.1) e (λ text.
    inl (cond-true (bytes_eq entry.0 key) _ _ ((bytes_eq-Decides entry.0 key).1 same) ∙ ap (λ (x : List ℕ). Some x) (sym (leaf_parts value entry.1 text))))

at_right : (key value sibling : List ℕ) (siblings : List (List ℕ)) → LawAt key value siblings → has_bit key (255 - length siblings) ≡ true → LawAt key value (sibling ∷ siblings)
unfolding map_pairs
at_right key value sibling siblings law way entries le hs im go e =
    let height = length siblings in
    let depth = 255 - height in
    let left = subtree_root height (left_of depth entries) in
    let right = subtree_root height (right_of depth entries) in
    let found = subtree_path_root key value siblings in
    let below = map_pairs key value siblings (right_of depth entries) in
    let alike : branch_hash sibling found ≡ branch_hash left right = sym (path-right key value sibling siblings way) ∙ e ∙ subtree-split height entries in
    let claim : Type 0 = value_at entries key ≡ Some value in
    let s = All-head IsDigest sibling siblings hs in
    let f = path_is_hash key value siblings in
    let l = subtree_is_hash height (left_of depth entries) in
    let r = subtree_is_hash height (right_of depth entries) in
    let further : depth + 1 ≡ 256 - height = omega arith in
    let start : 256 - suc height ≡ depth = omega arith in
    let went : AllGo key depth entries = subst (λ (n : ℕ). AllGo key n entries) start go in
    let goes : AllGo key (256 - height) (right_of depth entries) = subst (λ (n : ℕ). AllGo key n (right_of depth entries)) further (go_right key depth entries way went) in
    let test : List ℕ × List ℕ → Bool = λ entry. has_bit entry.0 depth in
    let kept : IsMap (right_of depth entries) = All-filter test (λ entry. IsDigest entry.0 × IsBytes entry.1) entries im in
    let shown : claim ⊎ IsSomeAnd (find is_apart ((branch_text sibling found, Some (branch_text left right)) ∷ below)) IsMapClash =
    clash_or claim (branch_text sibling found) (branch_text left right) below (bytes-branch_text sibling found s.1 f.1) (bytes-branch_text left right l.1 r.1) alike (λ same.
    let parts = branch_of_hashes sibling found left right s f (short_hash left l) (short_hash right r) same in
    elim (law (right_of depth entries) (omega arith) (All-tail IsDigest sibling siblings hs) kept goes parts.1) [
      | inl is ↦ inl (sym (value_right key depth entries way) ∙ is)
      | inr clash ↦ inr clash
    ]) in
    rw way shown

at_left : (key value sibling : List ℕ) (siblings : List (List ℕ)) → LawAt key value siblings → has_bit key (255 - length siblings) ≡ false → LawAt key value (sibling ∷ siblings)
unfolding map_pairs
at_left key value sibling siblings law way entries le hs im go e =
    let height = length siblings in
    let depth = 255 - height in
    let left = subtree_root height (left_of depth entries) in
    let right = subtree_root height (right_of depth entries) in
    let found = subtree_path_root key value siblings in
    let below = map_pairs key value siblings (left_of depth entries) in
    let alike : branch_hash found sibling ≡ branch_hash left right = sym (path-left key value sibling siblings way) ∙ e ∙ subtree-split height entries in
    let claim : Type 0 = value_at entries key ≡ Some value in
    let s = All-head IsDigest sibling siblings hs in
    let f = path_is_hash key value siblings in
    let l = subtree_is_hash height (left_of depth entries) in
    let r = subtree_is_hash height (right_of depth entries) in
    let further : depth + 1 ≡ 256 - height = omega arith in
    let start : 256 - suc height ≡ depth = omega arith in
    let went : AllGo key depth entries = subst (λ (n : ℕ). AllGo key n entries) start go in
    let goes : AllGo key (256 - height) (left_of depth entries) = subst (λ (n : ℕ). AllGo key n (left_of depth entries)) further (go_left key depth entries way went) in
    let test : List ℕ × List ℕ → Bool = λ entry. not (has_bit entry.0 depth) in
    let kept : IsMap (left_of depth entries) = All-filter test (λ entry. IsDigest entry.0 × IsBytes entry.1) entries im in
    let shown : claim ⊎ IsSomeAnd (find is_apart ((branch_text found sibling, Some (branch_text left right)) ∷ below)) IsMapClash =
    clash_or claim (branch_text found sibling) (branch_text left right) below (bytes-branch_text found sibling f.1 s.1) (bytes-branch_text left right l.1 r.1) alike (λ same.
    let parts = branch_of_hashes found sibling left right f s (short_hash left l) (short_hash right r) same in
    elim (law (left_of depth entries) (omega arith) (All-tail IsDigest sibling siblings hs) kept goes parts.0) [
      | inl is ↦ inl (sym (value_left key depth entries way) ∙ is)
      | inr clash ↦ inr clash
    ]) in
    rw way shown

law_at : (key value : List ℕ) → IsDigest key → IsBytes value → (siblings : List (List ℕ)) → LawAt key value siblings
law_at key value hk bv [] = at_leaf key value hk bv
law_at key value hk bv (sibling ∷ siblings) =
    elim (cases_Bool (has_bit key (255 - length siblings))) [
      | inl right ↦ at_right key value sibling siblings (law_at key value hk bv siblings) right
      | inr left ↦ at_left key value sibling siblings (law_at key value hk bv siblings) left
    ]

pub map_law : (map : Entries) (key value : List ℕ) (siblings : List (List ℕ)) → IsMap map → IsDigest key → IsBytes value → AreHashes siblings
    → map_path_root key value siblings ≡ Some (map_root map) → (value_at map key ≡ Some value) ⊎ IsSomeAnd (map_clash map key value siblings) IsMapClash
map_law map key value siblings im hk bv hs e =
    let test = cond_some (eqb (length siblings) 256) (subtree_path_root key value siblings) (map_root map) e in
    let count : length siblings ≡ 256 = eqb-true _ _ test.0 in
    let none : 256 - length siblings ≡ 0 = omega arith in
    law_at key value hk bv siblings map (omega arith) hs im
    (subst (λ (n : ℕ). AllGo key n map) (sym none) (λ k d lt i below. absurd (omega arith)))
    (test.1 ∙ ap (λ (n : ℕ). subtree_root n map) (sym count))
