-- The hash of a whole node is that over its two parts.
use Rattle.std.proofs.Common.{◌≡◌, ℕ, zero, suc, ◌+◌, ◌-◌, ◌*◌, ◌/◌, ◌%◌, ◌^◌, ◌<◌, ◌≤◌, ◌&&◌, nat_eq, Bool, true, false, cond, List, map, [], ◌∷◌, ◌++◌, length, take, drop, get_or, Some, refl, sym, ap, subst, ◌∙◌, arith}
use Rattle.std.specs.List.{All}
use Rattle.std.specs.Map.{lookup}
use Rattle.std.proofs.Math.Nat.{pow-le-pow_right, pow-suc, pow-succ'}
use Rattle.std.proofs.lemmas.Bool.{and_parts, eqb-true, le-ltb, lt-ltb}
use Rattle.std.proofs.lemmas.Nat.{pow_pos}
use Rattle.std.proofs.lemmas.List.{length-append, length-drop, length-take-le, take-take, drop-drop, drop-take, take-append-le, drop-append-le, drop_more}
use Rattle.indexmap.specs.IndexMap.{insert_entry}
use Rattle.warg_proof.specs.Merkle.{branch_hash}
use Rattle.warg_proof.specs.HashedTree.{hashed_within, hashed_root}
use Rattle.warg_prover.proofs.Bounds.{start_left, start_right}
use Rattle.warg_prover.specs.Places.{IsPlaceOf, hash_at, node_at, IsHashAt, AreHashesAt}

-- ---- roots

-- more room changes no root
with_room : (d l : ℕ) (xs : List (List ℕ)) → length xs ≤ 2 ^ l → hashed_within (d + l) xs ≡ hashed_within l xs
unfolding hashed_within
with_room zero l xs le = let on : zero + l ≡ l = omega arith in ap (λ n. hashed_within n xs) on
with_room (suc d) l xs le =
    let on : suc d + l ≡ suc (d + l) = omega arith in
    let more : l ≤ d + l = omega arith in
    let short : length xs ≤ 2 ^ (d + l) = omega (arith, le, pow-le-pow_right {n = 2} (omega arith) more) in
    ap (λ n. hashed_within n xs) on ∙ ap (λ b. cond b (branch_hash (hashed_within (d + l) (take (2 ^ (d + l)) xs)) (hashed_within (d + l) (drop (2 ^ (d + l)) xs))) (hashed_within (d + l) xs)) (le-ltb (2 ^ (d + l)) (length xs) short) ∙ with_room d l xs le

-- the root of at most so many
root_is : (l : ℕ) (xs : List (List ℕ)) → l ≤ 64 → length xs ≤ 2 ^ l → hashed_root xs ≡ hashed_within l xs
root_is l xs small le = let on : 64 ≡ (64 - l) + l = omega (arith, small) in ap (λ n. hashed_within n xs) on ∙ with_room (64 - l) l xs le

-- the root of just so many is that over its halves
halves : (l : ℕ) (xs : List (List ℕ)) → length xs ≡ 2 ^ suc l → hashed_within (suc l) xs ≡ branch_hash (hashed_within l (take (2 ^ l) xs)) (hashed_within l (drop (2 ^ l) xs))
unfolding hashed_within
halves l xs is =
    let twice : 2 ^ suc l ≡ 2 * 2 ^ l = pow-succ' 2 l in
    let some = pow_pos l in
    let more : 2 ^ l < length xs = omega (arith, is, twice, some) in
    ap (λ b. cond b (branch_hash (hashed_within l (take (2 ^ l) xs)) (hashed_within l (drop (2 ^ l) xs))) (hashed_within l xs)) (lt-ltb (2 ^ l) (length xs) more)

-- the root of two leaves
pub pair_root : (a b : List ℕ) → hashed_root (a ∷ b ∷ []) ≡ branch_hash a b
unfolding hashed_within
pair_root a b = root_is 1 (a ∷ b ∷ []) (omega arith) (omega arith) ∙ refl

take_short : (k : ℕ) (xs : List (List ℕ)) → length (take k xs) ≤ k
take_short zero xs = omega arith
take_short (suc k) [] = omega arith
take_short (suc k) (x ∷ xs) = omega (arith, take_short k xs)

-- ---- nodes

module _ (hashes : List (List ℕ)) where
  -- the node over two nodes of a level
  pub over_two : (l q : ℕ) → IsPlaceOf (length hashes) (suc l, q) → hash_at hashes (suc l, q) ≡ branch_hash (hash_at hashes (l, 2 * q)) (hash_at hashes (l, 2 * q + 1))
  over_two l q at =
      let twice : 2 ^ suc l ≡ 2 * 2 ^ l = pow-succ' 2 l in
      let xs = take (2 ^ suc l) (drop (q * 2 ^ suc l) hashes) in
      let all : length xs ≡ 2 ^ suc l = length-take-le (2 ^ suc l) (drop (q * 2 ^ suc l) hashes) (omega (arith, length-drop (q * 2 ^ suc l) hashes, at.within)) in
      let left : take (2 ^ l) xs ≡ take (2 ^ l) (drop (2 * q * 2 ^ l) hashes) = take-take (2 ^ l) (2 ^ suc l) (drop (q * 2 ^ suc l) hashes) (omega (arith, twice)) ∙ ap (λ n. take (2 ^ l) (drop n hashes)) (start_left l q) in
      let both : 2 ^ suc l ≡ 2 ^ l + 2 ^ l = omega (arith, twice) in
      let behind : q * 2 ^ suc l + 2 ^ l ≡ (2 * q + 1) * 2 ^ l = start_right l q in
      let right : drop (2 ^ l) xs ≡ take (2 ^ l) (drop ((2 * q + 1) * 2 ^ l) hashes) =
      ap (λ n. drop (2 ^ l) (take n (drop (q * 2 ^ suc l) hashes))) both ∙ drop-take (2 ^ l) (2 ^ l) (drop (q * 2 ^ suc l) hashes) ∙ ap (take (2 ^ l)) (drop-drop (2 ^ l) (q * 2 ^ suc l) hashes) ∙ ap (λ n. take (2 ^ l) (drop n hashes)) behind in
      let short : (n : ℕ) → length (take (2 ^ l) (drop n hashes)) ≤ 2 ^ l = λ n. take_short (2 ^ l) (drop n hashes) in
      root_is (suc l) xs (omega (arith, at.level)) (omega (arith, all)) ∙ halves l xs all
      ∙ ap (λ ys. branch_hash (hashed_within l ys) (hashed_within l (drop (2 ^ l) xs))) left
      ∙ ap (λ ys. branch_hash (hashed_within l (take (2 ^ l) (drop (2 * q * 2 ^ l) hashes))) (hashed_within l ys)) right
      ∙ ap (λ h. branch_hash h (hashed_within l (take (2 ^ l) (drop ((2 * q + 1) * 2 ^ l) hashes)))) (sym (root_is l (take (2 ^ l) (drop (2 * q * 2 ^ l) hashes)) (omega (arith, at.level)) (short (2 * q * 2 ^ l))))
      ∙ ap (λ h. branch_hash (hash_at hashes (l, 2 * q)) h) (sym (root_is l (take (2 ^ l) (drop ((2 * q + 1) * 2 ^ l) hashes)) (omega (arith, at.level)) (short ((2 * q + 1) * 2 ^ l))))

  -- a node over two nodes whose hashes are known
  pub over_known : (l q : ℕ) (a b c : List ℕ) → IsPlaceOf (length hashes) (suc l, q) → a ≡ hash_at hashes (l, 2 * q) → b ≡ hash_at hashes (l, 2 * q + 1) → c ≡ hashed_root (a ∷ b ∷ []) → IsHashAt hashes (suc l, q) c
  over_known l q a b c at left right is = record {
    whole = at;
    is = is ∙ pair_root a b ∙ ap (λ h. branch_hash h b) left ∙ ap (branch_hash (hash_at hashes (l, 2 * q))) right ∙ sym (over_two l q at);
  }

  -- a leaf
  pub leaf_at : (i : ℕ) (h : List ℕ) → i < length hashes → h ≡ get_or hashes i h → IsHashAt hashes (0, i) h
  unfolding hashed_within
  leaf_at i h lt is =
      let one : 2 ^ 0 ≡ 1 = refl in
      let start : i * 2 ^ 0 ≡ i = omega arith in
      let cut : take (2 ^ 0) (drop (i * 2 ^ 0) hashes) ≡ h ∷ [] = ap (λ n. take 1 (drop n hashes)) start ∙ ap (take 1) (drop_more hashes i h lt ∙ ap (λ x. x ∷ drop (i + 1) hashes) (sym is)) in
      record {
        whole = record { level = omega arith; within = omega (arith, start, lt) };
        is = sym (ap hashed_root cut ∙ root_is 0 (h ∷ []) (omega arith) (omega arith));
      }

-- ---- what is known

-- a hash of a place stays that of the place where a leaf is added
still_at : (hashes : List (List ℕ)) (leaf : List ℕ) (at : ℕ × ℕ) (h : List ℕ) → IsHashAt hashes at h → IsHashAt (hashes ++ leaf ∷ []) at h
still_at hashes leaf at h k =
    let longer = length-append hashes (leaf ∷ []) in
    let room : 2 ^ at.0 ≤ length (drop (at.1 * 2 ^ at.0) hashes) = omega (arith, length-drop (at.1 * 2 ^ at.0) hashes, k.whole.within) in
    let same : take (2 ^ at.0) (drop (at.1 * 2 ^ at.0) hashes) ≡ take (2 ^ at.0) (drop (at.1 * 2 ^ at.0) (hashes ++ leaf ∷ [])) =
    sym (take-append-le (2 ^ at.0) (drop (at.1 * 2 ^ at.0) hashes) (leaf ∷ []) room) ∙ ap (take (2 ^ at.0)) (sym (drop-append-le (at.1 * 2 ^ at.0) hashes (leaf ∷ []) (omega (arith, k.whole.within)))) in
    record {
      whole = record { level = k.whole.level; within = omega (arith, k.whole.within, longer) };
      is = k.is ∙ ap hashed_root same;
    }

pub still_are : (hashes : List (List ℕ)) (leaf : List ℕ) (known : List ((ℕ × ℕ) × List ℕ)) → AreHashesAt hashes known → AreHashesAt (hashes ++ leaf ∷ []) known
still_are hashes leaf [] are = record {}
still_are hashes leaf (k ∷ known) are = (still_at hashes leaf k.0 k.1 are.0, still_are hashes leaf known are.1)

-- a test of places that only one of them passes
abbrev pub Tests : (ℕ × ℕ → Bool) → ℕ × ℕ → Type 0
Tests test at = (k : ℕ × ℕ) → test k ≡ true → at ≡ k

pub place_is : (a b : ℕ × ℕ) → (nat_eq a.0 b.0 && nat_eq a.1 b.1) ≡ true → a ≡ b
place_is a b e = let both = and_parts (nat_eq a.0 b.0) (nat_eq a.1 b.1) e in ap (λ l. (l, a.1)) (eqb-true a.0 b.0 both.0) ∙ ap (λ p. (b.0, p)) (eqb-true a.1 b.1 both.1)

-- what is found at a place is the hash of the node there
pub known_found : (hashes : List (List ℕ)) (test : ℕ × ℕ → Bool) (at : ℕ × ℕ) → Tests test at → (known : List ((ℕ × ℕ) × List ℕ)) (h : List ℕ) → Some h ≡ lookup test known → AreHashesAt hashes known → IsHashAt hashes at h
known_found hashes test at tests [] h e are = absurd cc
known_found hashes test at tests (k ∷ known) h e are = by (test k.0) refl e (known_found hashes test at tests known h)
  where
    some_is : (x y : List ℕ) → Some x ≡ Some y → x ≡ y
    some_is x y e = cc

    by : (b : Bool) → test k.0 ≡ b → Some h ≡ cond b (Some k.1) (lookup test known) → (Some h ≡ lookup test known → AreHashesAt hashes known → IsHashAt hashes at h) → IsHashAt hashes at h
    by true is e later = subst (λ at. IsHashAt hashes at h) (sym (tests k.0 is)) (subst (IsHashAt hashes k.0) (sym (some_is h k.1 e)) are.0)
    by false is e later = later e are.1

-- one more that is known
pub known_more : (hashes : List (List ℕ)) (eq : ℕ × ℕ → ℕ × ℕ → Bool) (at : ℕ × ℕ) → Tests (eq at) at → (known : List ((ℕ × ℕ) × List ℕ)) (h : List ℕ) → IsHashAt hashes at h → AreHashesAt hashes known → AreHashesAt hashes (insert_entry eq known at h)
known_more hashes eq at tests [] h is are = (is, record {})
known_more hashes eq at tests (k ∷ known) h is are = by (eq at k.0) refl (known_more hashes eq at tests known h is are.1)
  where
    by : (b : Bool) → eq at k.0 ≡ b → AreHashesAt hashes (insert_entry eq known at h) → AreHashesAt hashes (cond b ((k.0, h) ∷ known) (k ∷ insert_entry eq known at h))
    by true same later = (subst (λ at. IsHashAt hashes at h) (tests k.0 same) is, are.1)
    by false same later = (are.0, later)

-- ---- fronts of a log

module _ {P Q : ℕ × ℕ → Type 0} where
  pub all_turned : (xs : List (ℕ × ℕ)) → ((x : ℕ × ℕ) → P x → Q x) → All P xs → All Q xs
  all_turned xs f all = λ k d lt. f (get_or xs k d) (all k d lt)

-- a longer log has the whole nodes of a front
pub wider : (count n : ℕ) → count ≤ n → (at : ℕ × ℕ) → IsPlaceOf count at → IsPlaceOf n at
wider count n le at is = record { level = is.level; within = omega (arith, is.within, le) }

-- and each has the same hash
front_hash : (hashes : List (List ℕ)) (count : ℕ) (at : ℕ × ℕ) → IsPlaceOf count at → hash_at hashes at ≡ hash_at (take count hashes) at
front_hash hashes count at is =
    let start = at.1 * 2 ^ at.0 in
    let on : start + (count - start) ≡ count = omega (arith, is.within) in
    ap hashed_root (
    sym (take-take (2 ^ at.0) (count - start) (drop start hashes) (omega (arith, is.within)))
    ∙ ap (take (2 ^ at.0)) (sym (drop-take start (count - start) hashes))
    ∙ ap (λ n. take (2 ^ at.0) (drop start (take n hashes))) on
    )

pub front_nodes : (hashes : List (List ℕ)) (count : ℕ) (places : List (ℕ × ℕ)) → All (IsPlaceOf count) places → map (node_at hashes) places ≡ map (node_at (take count hashes)) places
front_nodes hashes count [] all = refl
front_nodes hashes count (at ∷ places) all =
    ap (λ h. record { level = at.0; place = at.1; hash = h } ∷ map (node_at hashes) places) (front_hash hashes count at (all 0 at (omega arith)))
    ∙ ap (λ nodes. node_at (take count hashes) at ∷ nodes) (front_nodes hashes count places (λ k d lt. all (suc k) d (omega (arith, lt))))

-- ---- halves of a count

pub half_room : (count level n : ℕ) → count % 2 ≡ 0 → count * 2 ^ level ≤ n → count / 2 * 2 ^ (level + 1) ≤ n
half_room count level n even le =
    let twice : count ≡ count / 2 * 2 = omega (arith, even) in
    let on : level + 1 ≡ suc level = omega arith in
    let same : count / 2 * (2 ^ level * 2) ≡ count / 2 * 2 * 2 ^ level = omega arith in
    let whole : count / 2 * 2 ^ (level + 1) ≡ count * 2 ^ level = ap (λ l. count / 2 * 2 ^ l) on ∙ ap (λ m. count / 2 * m) (pow-suc 2 level) ∙ same ∙ ap (λ m. m * 2 ^ level) (sym twice) in
    omega (arith, whole, le)

pub half_within : (count level n : ℕ) → 1 < count → count % 2 ≡ 0 → level < 63 → count * 2 ^ level ≤ n → IsPlaceOf n (level + 1, count / 2 - 1)
half_within count level n more even low le =
    let some : 0 < count / 2 = omega (arith, more, even) in
    let split : count / 2 ≡ suc (count / 2 - 1) = omega (arith, some) in
    let part : (count / 2 - 1) * 2 ^ (level + 1) + 2 ^ (level + 1) ≡ suc (count / 2 - 1) * 2 ^ (level + 1) = omega arith in
    record { level = omega (arith, low); within = omega (arith, part, ap (λ m. m * 2 ^ (level + 1)) split, half_room count level n even le) }
