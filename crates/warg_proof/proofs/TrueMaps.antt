-- The true siblings of a key give the root of the map, and the root is that of the map alone.
use Rattle.std.proofs.Common.{◌≡◌, ℕ, zero, suc, ◌+◌, ◌-◌, ◌≤◌, Bool, true, false, not, cond, eqb, List, [], ◌∷◌, length, get_or, Option, Some, None, refl, sym, ap, subst, ◌∙◌, inl, inr, arith}
use Rattle.std.specs.Prelude.{bytes_eq}
use Rattle.std.specs.List.{All}
use Rattle.std.proofs.lemmas.Bool.{cases_Bool, cond-true, cond-false, eq-eqb}
use Rattle.std.proofs.lemmas.Option.{same_Some, none-some}
use Rattle.std.proofs.lemmas.List.Elements.{All-filter, filter_passes}
use Rattle.std.proofs.lemmas.Bool.{not-true}
use Rattle.std.proofs.lemmas.Map.Entries.{lookup-filter-keys}
use Rattle.std.proofs.lemmas.Slice.Eq.{bytes_eq-Decides}
use Rattle.hex.specs.Hex.{IsBytes}
use Rattle.warg_hash.specs.Hash.{IsDigest}
use Rattle.warg_proof.specs.Merkle.{leaf_hash, branch_hash}
use Rattle.warg_proof.specs.MapTree.{Entries, IsMap, value_at, has_bit, left_of, right_of, subtree_root, map_root, subtree_path_root, map_path_root}
use Rattle.warg_proof.specs.TrueProofs.{siblings_beside, true_siblings}
use Rattle.warg_proof.proofs.MapLaws.{GoesWith, goes_more, AllGo, same_key, go_left, go_right, value_left, value_right, subtree-split, path-right, path-left}

-- ---- the true siblings

length-beside : (height : ℕ) (key : List ℕ) (entries : Entries) → length (siblings_beside height key entries) ≡ height
unfolding siblings_beside
length-beside zero key entries = refl
length-beside (suc height) key entries =
    elim (cases_Bool (has_bit key (255 - height))) [
      | inl right ↦ ap length (cond-true (has_bit key (255 - height)) _ _ right) ∙ ap suc (length-beside height key (right_of (255 - height) entries))
      | inr left ↦ ap length (cond-false (has_bit key (255 - height)) _ _ left) ∙ ap suc (length-beside height key (left_of (255 - height) entries))
    ]

beside-right : (height : ℕ) (key : List ℕ) (entries : Entries) → has_bit key (255 - height) ≡ true
    → siblings_beside (suc height) key entries ≡ subtree_root height (left_of (255 - height) entries) ∷ siblings_beside height key (right_of (255 - height) entries)
unfolding siblings_beside
beside-right height key entries right = cond-true (has_bit key (255 - height)) _ _ right

beside-left : (height : ℕ) (key : List ℕ) (entries : Entries) → has_bit key (255 - height) ≡ false
    → siblings_beside (suc height) key entries ≡ subtree_root height (right_of (255 - height) entries) ∷ siblings_beside height key (left_of (255 - height) entries)
unfolding siblings_beside
beside-left height key entries left = cond-false (has_bit key (255 - height)) _ _ left

module _ (key value : List ℕ) (hk : IsDigest key) where
  abbrev TrueAt : ℕ → Type 0
  TrueAt height = (entries : Entries) → height ≤ 256 → IsMap entries → AllGo key (256 - height) entries → value_at entries key ≡ Some value
      → subtree_path_root key value (siblings_beside height key entries) ≡ subtree_root height entries

  true_leaf : TrueAt 0
  unfolding siblings_beside subtree_path_root subtree_root
  true_leaf [] le im go e = absurd (none-some value e)
  true_leaf (entry ∷ entries) le im go e =
      let same : entry.0 ≡ key = same_key key entry.0 hk (im 0 entry (omega arith)).0 (go 0 entry (omega arith)) in
      let first : value_at (entry ∷ entries) key ≡ Some entry.1 = cond-true (bytes_eq entry.0 key) _ _ ((bytes_eq-Decides entry.0 key).1 same) in
      ap leaf_hash (same_Some value entry.1 (sym e ∙ first))

  further : (height : ℕ) (entries : Entries) → suc height ≤ 256 → AllGo key (256 - suc height) entries → AllGo key (255 - height) entries
  further height entries le go = let same : 256 - suc height ≡ 255 - height = omega arith in subst (λ (n : ℕ). AllGo key n entries) same go

  deeper : (height : ℕ) (entries : Entries) → suc height ≤ 256 → AllGo key (255 - height + 1) entries → AllGo key (256 - height) entries
  deeper height entries le go = let same : 255 - height + 1 ≡ 256 - height = omega arith in subst (λ (n : ℕ). AllGo key n entries) same go

  true_at : (height : ℕ) → TrueAt height
  true_at zero entries le im go e = true_leaf entries le im go e
  true_at (suc height) entries le im go e =
      let depth = 255 - height in
      let left = left_of depth entries in
      let right = right_of depth entries in
      let went = further height entries le go in
      elim (cases_Bool (has_bit key depth)) [
        | inl way ↦
            let rest = siblings_beside height key right in
            let here : has_bit key (255 - length rest) ≡ true = ap (λ (n : ℕ). has_bit key (255 - n)) (length-beside height key right) ∙ way in
            let below = true_at height right (omega arith) (All-filter (λ entry. has_bit entry.0 depth) (λ entry. IsDigest entry.0 × IsBytes entry.1) entries im)
            (deeper height right le (go_right key depth entries way went)) (value_right key depth entries way ∙ e) in
            ap (subtree_path_root key value) (beside-right height key entries way)
            ∙ path-right key value (subtree_root height left) rest here
            ∙ ap (branch_hash (subtree_root height left)) below ∙ sym (subtree-split height entries)
        | inr way ↦
            let rest = siblings_beside height key left in
            let here : has_bit key (255 - length rest) ≡ false = ap (λ (n : ℕ). has_bit key (255 - n)) (length-beside height key left) ∙ way in
            let below = true_at height left (omega arith) (All-filter (λ entry. not (has_bit entry.0 depth)) (λ entry. IsDigest entry.0 × IsBytes entry.1) entries im)
            (deeper height left le (go_left key depth entries way went)) (value_left key depth entries way ∙ e) in
            ap (subtree_path_root key value) (beside-left height key entries way)
            ∙ path-left key value (subtree_root height right) rest here
            ∙ ap (λ (h : List ℕ). branch_hash h (subtree_root height right)) below ∙ sym (subtree-split height entries)
      ]

pub true_map_law : (map : Entries) (key value : List ℕ) → IsMap map → IsDigest key → value_at map key ≡ Some value → map_path_root key value (true_siblings map key) ≡ Some (map_root map)
true_map_law map key value im hk e =
    cond-true (eqb (length (true_siblings map key)) 256) _ _ (eq-eqb _ _ (length-beside 256 key map))
    ∙ ap (λ (h : List ℕ). Some h) (true_at key value hk 256 map (omega arith) im (λ k d lt i below. absurd (omega arith)) e)

-- ---- the root is that of the map alone

-- the value at a key on a side
value_on_left : (key : List ℕ) (depth : ℕ) (entries : Entries) → value_at (left_of depth entries) key ≡ cond (not (has_bit key depth)) (value_at entries key) None
value_on_left key depth entries =
    lookup-filter-keys (λ known. bytes_eq known key) (λ known. not (has_bit known depth)) (not (has_bit key depth))
    (λ known same. ap (λ (k : List ℕ). not (has_bit k depth)) ((bytes_eq-Decides known key).0 same)) entries

value_on_right : (key : List ℕ) (depth : ℕ) (entries : Entries) → value_at (right_of depth entries) key ≡ cond (has_bit key depth) (value_at entries key) None
value_on_right key depth entries =
    lookup-filter-keys (λ known. bytes_eq known key) (λ known. has_bit known depth) (has_bit key depth)
    (λ known same. ap (λ (k : List ℕ). has_bit k depth) ((bytes_eq-Decides known key).0 same)) entries

-- each key of one list goes with each of another down to a depth
abbrev GoTogether : ℕ → Entries → Entries → Type 0
GoTogether depth m n = All (λ a. All (λ b. GoesWith a.0 depth b.0) n) m

-- two lists have one value at each key
abbrev SameValues : Entries → Entries → Type 0
SameValues m n = (key : List ℕ) → IsDigest key → value_at m key ≡ value_at n key

first_value : (entry : List ℕ × List ℕ) (entries : Entries) → value_at (entry ∷ entries) entry.0 ≡ Some entry.1
first_value entry entries = cond-true (bytes_eq entry.0 entry.0) _ _ ((bytes_eq-Decides entry.0 entry.0).1 refl)

same_leaf : (m n : Entries) → IsMap m → IsMap n → GoTogether 256 m n → SameValues m n → subtree_root 0 m ≡ subtree_root 0 n
unfolding subtree_root
same_leaf [] [] im jn go same = refl
same_leaf [] (b ∷ n) im jn go same = absurd (none-some b.1 (same b.0 (jn 0 b (omega arith)).0 ∙ first_value b n))
same_leaf (a ∷ m) [] im jn go same = absurd (none-some a.1 (sym (same a.0 (im 0 a (omega arith)).0) ∙ first_value a m))
same_leaf (a ∷ m) (b ∷ n) im jn go same =
    let ha = (im 0 a (omega arith)).0 in
    let hb = (jn 0 b (omega arith)).0 in
    let key : b.0 ≡ a.0 = same_key a.0 b.0 ha hb (go 0 a (omega arith) 0 b (omega arith)) in
    let there : value_at (b ∷ n) a.0 ≡ Some b.1 = ap (value_at (b ∷ n)) (sym key) ∙ first_value b n in
    ap leaf_hash (same_Some a.1 b.1 (sym (first_value a m) ∙ same a.0 ha ∙ there))

abbrev Is : List ℕ × List ℕ → Type 0
Is entry = IsDigest entry.0 × IsBytes entry.1

-- on one side of a split they go together one depth further
together_left : (depth : ℕ) (m n : Entries) → GoTogether depth m n → GoTogether (depth + 1) (left_of depth m) (left_of depth n)
together_left depth m n go i d lt j e lt' =
    let test : List ℕ × List ℕ → Bool = λ entry. not (has_bit entry.0 depth) in
    let a = (get_or (left_of depth m) i d).0 in
    let b = (get_or (left_of depth n) j e).0 in
    let way : GoesWith a depth b = All-filter test (λ y. GoesWith a depth y.0) n (All-filter test (λ x. All (λ y. GoesWith x.0 depth y.0) n) m go i d lt) j e lt' in
    let here : has_bit a depth ≡ false = not-true (has_bit a depth) (filter_passes test m i d lt) in
    let there : has_bit b depth ≡ false = not-true (has_bit b depth) (filter_passes test n j e lt') in
    goes_more a depth b way (there ∙ sym here)

together_right : (depth : ℕ) (m n : Entries) → GoTogether depth m n → GoTogether (depth + 1) (right_of depth m) (right_of depth n)
together_right depth m n go i d lt j e lt' =
    let test : List ℕ × List ℕ → Bool = λ entry. has_bit entry.0 depth in
    let a = (get_or (right_of depth m) i d).0 in
    let b = (get_or (right_of depth n) j e).0 in
    let way : GoesWith a depth b = All-filter test (λ y. GoesWith a depth y.0) n (All-filter test (λ x. All (λ y. GoesWith x.0 depth y.0) n) m go i d lt) j e lt' in
    let here : has_bit a depth ≡ true = filter_passes test m i d lt in
    let there : has_bit b depth ≡ true = filter_passes test n j e lt' in
    goes_more a depth b way (there ∙ sym here)

same_at : (height : ℕ) (m n : Entries) → height ≤ 256 → IsMap m → IsMap n → GoTogether (256 - height) m n → SameValues m n → subtree_root height m ≡ subtree_root height n
same_at zero m n le im jn go same = same_leaf m n im jn go same
same_at (suc height) m n le im jn go same =
    let depth = 255 - height in
    let here : 256 - suc height ≡ depth = omega arith in
    let next : depth + 1 ≡ 256 - height = omega arith in
    let went : GoTogether depth m n = subst (λ (k : ℕ). GoTogether k m n) here go in
    let l = same_at height (left_of depth m) (left_of depth n) (omega arith)
    (All-filter (λ entry. not (has_bit entry.0 depth)) Is m im) (All-filter (λ entry. not (has_bit entry.0 depth)) Is n jn)
    (subst (λ (k : ℕ). GoTogether k (left_of depth m) (left_of depth n)) next (together_left depth m n went))
    (λ key hk. value_on_left key depth m ∙ ap (λ (o : Option (List ℕ)). cond (not (has_bit key depth)) o None) (same key hk) ∙ sym (value_on_left key depth n)) in
    let r = same_at height (right_of depth m) (right_of depth n) (omega arith)
    (All-filter (λ entry. has_bit entry.0 depth) Is m im) (All-filter (λ entry. has_bit entry.0 depth) Is n jn)
    (subst (λ (k : ℕ). GoTogether k (right_of depth m) (right_of depth n)) next (together_right depth m n went))
    (λ key hk. value_on_right key depth m ∙ ap (λ (o : Option (List ℕ)). cond (has_bit key depth) o None) (same key hk) ∙ sym (value_on_right key depth n)) in
    subtree-split height m ∙ ap (λ (h : List ℕ). branch_hash h (subtree_root height (right_of depth m))) l ∙ ap (branch_hash (subtree_root height (left_of depth n))) r ∙ sym (subtree-split height n)

pub same_map_law : (m n : Entries) → IsMap m → IsMap n → ((key : List ℕ) → IsDigest key → value_at m key ≡ value_at n key) → map_root m ≡ map_root n
same_map_law m n im jn same = same_at 256 m n (omega arith) im jn (λ i d lt j e lt' k below. absurd (omega arith)) same
