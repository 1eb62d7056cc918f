-- True proofs give the roots that they are of.
use Rattle.std.proofs.Common.{◌≡◌, ℕ, zero, suc, ◌+◌, ◌-◌, ◌*◌, ◌^◌, ◌<◌, ◌≤◌, ltb, leb, eqb, ◌&&◌, List, [], ◌∷◌, length, take, drop, map, Some, sym, ap, ◌∙◌, inl, inr, arith}
use Rattle.std.specs.Prelude.{slice_get}
use Rattle.std.proofs.Math.Nat.{pow-suc}
use Rattle.std.proofs.lemmas.Bool.{cases_lt, cond-true, and_from, lt-ltb, le-leb, eq-eqb}
use Rattle.std.proofs.lemmas.Option.{slice_get_within, same_Some}
use Rattle.std.proofs.lemmas.List.{length-take, length-drop, length-map, take_all, take-take, drop-take, drop-drop}
use Rattle.warg_proof.specs.Merkle.{leaf_hash, branch_hash}
use Rattle.warg_proof.specs.LogTree.{Range, range, root_within, root, ranges_beside, inclusion_ranges, path_root_within, path_root, ranges_joining, consistency_ranges, roots_within, two_roots}
use Rattle.warg_proof.specs.TrueProofs.{range_root, true_path, true_hashes}
use Rattle.warg_proof.proofs.LogLaws.{below_power, slice_get-take, slice_get-drop, root-more, root-less, root-at, path-left, path-right, path-less, roots-whole, roots-right, roots-left, roots-less, joined}
use Rattle.warg_proof.proofs.Climbing.{beside-ranges-less, beside-ranges-left, beside-ranges-right, joining-ranges-less, joining-ranges-whole, joining-ranges-left, joining-ranges-right}

-- ---- parts of a log

-- the first count entries from place * 2 ^ level on
abbrev pub part : List (List ℕ) → ℕ → ℕ → ℕ → List (List ℕ)
part all level place count = take count (drop (place * 2 ^ level) all)

pub start_left : (level place : ℕ) → place * 2 ^ suc level ≡ 2 * place * 2 ^ level
start_left level place = let same : place * (2 ^ level * 2) ≡ 2 * place * 2 ^ level = omega arith in ap (λ (n : ℕ). place * n) (pow-suc 2 level) ∙ same

pub start_right : (level place : ℕ) → place * 2 ^ suc level + 2 ^ level ≡ (2 * place + 1) * 2 ^ level
start_right level place = omega (arith, start_left level place)

pub part_low : (all : List (List ℕ)) (level place count : ℕ) → part all (suc level) place count ≡ part all level (2 * place) count
part_low all level place count = ap (λ (n : ℕ). take count (drop n all)) (start_left level place)

pub part_left : (all : List (List ℕ)) (level place count : ℕ) → 2 ^ level < count → take (2 ^ level) (part all (suc level) place count) ≡ part all level (2 * place) (2 ^ level)
part_left all level place count lt =
    take-take (2 ^ level) count (drop (place * 2 ^ suc level) all) (omega arith) ∙ ap (λ (n : ℕ). take (2 ^ level) (drop n all)) (start_left level place)

pub part_right : (all : List (List ℕ)) (level place count : ℕ) → 2 ^ level < count → drop (2 ^ level) (part all (suc level) place count) ≡ part all level (2 * place + 1) (count - 2 ^ level)
part_right all level place count lt =
    let sum : count ≡ 2 ^ level + (count - 2 ^ level) = omega arith in
    ap (λ (n : ℕ). drop (2 ^ level) (take n (drop (place * 2 ^ suc level) all))) sum
    ∙ drop-take (2 ^ level) (count - 2 ^ level) (drop (place * 2 ^ suc level) all)
    ∙ ap (take (count - 2 ^ level)) (drop-drop (2 ^ level) (place * 2 ^ suc level) all ∙ ap (λ (n : ℕ). drop n all) (start_right level place))

pub length-part : (all : List (List ℕ)) (level place count : ℕ) → place * 2 ^ level + count ≤ length all → length (part all level place count) ≡ count
length-part all level place count le = omega (arith, length-take count (drop (place * 2 ^ level) all), length-drop (place * 2 ^ level) all)

-- the root of a part is that within its level
pub root-part : (all : List (List ℕ)) (level place count : ℕ) → count ≤ 2 ^ level → range_root all (range level place count) ≡ root_within level (part all level place count)
root-part all level place count le = root-at level (part all level place count) (omega (arith, length-take count (drop (place * 2 ^ level) all)))

-- a part of a range is within the log
pub within_left : (level place count total : ℕ) → place * 2 ^ suc level + count ≤ total → 2 ^ level ≤ count → 2 * place * 2 ^ level + 2 ^ level ≤ total
within_left level place count total le lt = omega (arith, start_left level place)

pub within_right : (level place count total : ℕ) → place * 2 ^ suc level + count ≤ total → 2 ^ level ≤ count → (2 * place + 1) * 2 ^ level + (count - 2 ^ level) ≤ total
within_right level place count total le lt = omega (arith, start_right level place)

pub within_low : (level place count total : ℕ) → place * 2 ^ suc level + count ≤ total → 2 * place * 2 ^ level + count ≤ total
within_low level place count total le = omega (arith, start_left level place)

-- ---- inclusion

root_of_one : (xs : List (List ℕ)) (i : ℕ) (leaf : List ℕ) → i ≡ 0 → slice_get xs i ≡ Some leaf → leaf_hash leaf ≡ root_within 0 xs
unfolding root_within
root_of_one [] i leaf first e = absurd (let h = slice_get_within [] i leaf e in omega arith)
root_of_one (x ∷ xs) i leaf first e = ap leaf_hash (sym (same_Some x leaf (ap (slice_get (x ∷ xs)) (sym first) ∙ e)))

module _ (all : List (List ℕ)) where
  abbrev hashes : List Range → List (List ℕ)
  hashes ranges = map (range_root all) ranges

  -- what is claimed of each range of a level
  abbrev TrueAt : ℕ → Type 0
  TrueAt level = (place count index : ℕ) (leaf : List ℕ) → count ≤ 2 ^ level → place * 2 ^ level + count ≤ length all → index < count → slice_get (part all level place count) index ≡ Some leaf
      → path_root_within level index count leaf (hashes (ranges_beside level place count index)) ≡ root_within level (part all level place count)

  true_left : (level : ℕ) → TrueAt level → (place count index : ℕ) (leaf : List ℕ) → count ≤ 2 ^ suc level → place * 2 ^ suc level + count ≤ length all → slice_get (part all (suc level) place count) index ≡ Some leaf
      → 2 ^ level < count → index < 2 ^ level → path_root_within (suc level) index count leaf (hashes (ranges_beside (suc level) place count index)) ≡ root_within (suc level) (part all (suc level) place count)
  true_left level law place count index leaf few within e lt here =
      let whole = part all (suc level) place count in
      let beside : Range = range level (2 * place + 1) (count - 2 ^ level) in
      let rest = ranges_beside level (2 * place) (2 ^ level) index in
      let left = part_left all level place count lt in
      let right = part_right all level place count lt in
      let there : slice_get (part all level (2 * place) (2 ^ level)) index ≡ Some leaf = ap (λ (xs : List (List ℕ)). slice_get xs index) (sym left) ∙ slice_get-take (2 ^ level) whole index here ∙ e in
      let below = law (2 * place) (2 ^ level) index leaf (omega arith) (within_left level place count (length all) within (omega arith)) here there in
      ap (λ (rs : List Range). path_root_within (suc level) index count leaf (hashes rs)) (beside-ranges-left level place count index lt here)
      ∙ path-left level index count leaf (hashes (beside ∷ rest)) lt here
      ∙ ap (λ (h : List ℕ). branch_hash h (range_root all beside)) (below ∙ ap (root_within level) (sym left))
      ∙ ap (branch_hash (root_within level (take (2 ^ level) whole))) (root-part all level (2 * place + 1) (count - 2 ^ level) (omega (arith, pow-suc 2 level)) ∙ ap (root_within level) (sym right))
      ∙ sym (root-more level whole (omega (arith, length-part all (suc level) place count within)))

  true_right : (level : ℕ) → TrueAt level → (place count index : ℕ) (leaf : List ℕ) → count ≤ 2 ^ suc level → place * 2 ^ suc level + count ≤ length all → index < count → slice_get (part all (suc level) place count) index ≡ Some leaf
      → 2 ^ level < count → 2 ^ level ≤ index → path_root_within (suc level) index count leaf (hashes (ranges_beside (suc level) place count index)) ≡ root_within (suc level) (part all (suc level) place count)
  true_right level law place count index leaf few within inside e lt there =
      let whole = part all (suc level) place count in
      let beside : Range = range level (2 * place) (2 ^ level) in
      let rest = ranges_beside level (2 * place + 1) (count - 2 ^ level) (index - 2 ^ level) in
      let left = part_left all level place count lt in
      let right = part_right all level place count lt in
      let sum : 2 ^ level + (index - 2 ^ level) ≡ index = omega arith in
      let found : slice_get (part all level (2 * place + 1) (count - 2 ^ level)) (index - 2 ^ level) ≡ Some leaf =
      ap (λ (xs : List (List ℕ)). slice_get xs (index - 2 ^ level)) (sym right) ∙ slice_get-drop (2 ^ level) whole (index - 2 ^ level) ∙ ap (slice_get whole) sum ∙ e in
      let below = law (2 * place + 1) (count - 2 ^ level) (index - 2 ^ level) leaf (omega (arith, pow-suc 2 level)) (within_right level place count (length all) within (omega arith)) (omega arith) found in
      ap (λ (rs : List Range). path_root_within (suc level) index count leaf (hashes rs)) (beside-ranges-right level place count index lt there)
      ∙ path-right level index count leaf (hashes (beside ∷ rest)) lt there
      ∙ ap (λ (h : List ℕ). branch_hash h (path_root_within level (index - 2 ^ level) (count - 2 ^ level) leaf (hashes rest))) (root-part all level (2 * place) (2 ^ level) (omega arith) ∙ ap (root_within level) (sym left))
      ∙ ap (branch_hash (root_within level (take (2 ^ level) whole))) (below ∙ ap (root_within level) (sym right))
      ∙ sym (root-more level whole (omega (arith, length-part all (suc level) place count within)))

  true_low : (level : ℕ) → TrueAt level → (place count index : ℕ) (leaf : List ℕ) → place * 2 ^ suc level + count ≤ length all → index < count → slice_get (part all (suc level) place count) index ≡ Some leaf
      → count ≤ 2 ^ level → path_root_within (suc level) index count leaf (hashes (ranges_beside (suc level) place count index)) ≡ root_within (suc level) (part all (suc level) place count)
  true_low level law place count index leaf within inside e few =
      let low = part_low all level place count in
      ap (λ (rs : List Range). path_root_within (suc level) index count leaf (hashes rs)) (beside-ranges-less level place count index few)
      ∙ path-less level index count leaf (hashes (ranges_beside level (2 * place) count index)) few
      ∙ law (2 * place) count index leaf few (within_low level place count (length all) within) inside (ap (λ (xs : List (List ℕ)). slice_get xs index) (sym low) ∙ e)
      ∙ ap (root_within level) (sym low)
      ∙ sym (root-less level (part all (suc level) place count) (omega (arith, length-part all (suc level) place count within)))

  true_none : TrueAt 0
  unfolding path_root_within
  true_none place count index leaf few within inside e = root_of_one (part all 0 place count) index leaf (omega arith) e

  true_at : (level : ℕ) → TrueAt level
  true_at zero place count index leaf few within inside e = true_none place count index leaf few within inside e
  true_at (suc level) place count index leaf few within inside e =
      elim (cases_lt (2 ^ level) count) [
        | inl lt ↦ elim (cases_lt index (2 ^ level)) [
          | inl here ↦ true_left level (true_at level) place count index leaf few within e lt here
          | inr there ↦ true_right level (true_at level) place count index leaf few within inside e lt there
        ]
        | inr low ↦ true_low level (true_at level) place count index leaf within inside e low
      ]

  -- ---- consistency

  abbrev JoinsAt : ℕ → Type 0
  JoinsAt level = (place old count : ℕ) → count ≤ 2 ^ level → place * 2 ^ level + count ≤ length all → 0 < old → old ≤ count
      → roots_within level old count (hashes (ranges_joining level place old count)) ≡ (root_within level (take old (part all level place count)), root_within level (part all level place count))

  both_roots : (a b c d : List ℕ) → a ≡ c → b ≡ d → ◌≡◌ {A = List ℕ × List ℕ} (a, b) (c, d)
  both_roots a b c d p q = λ i. (p i, q i)

  joins_none : JoinsAt 0
  unfolding ranges_joining roots_within
  joins_none place old count few within positive ordered =
      let whole = part all 0 place count in
      let front : take old whole ≡ whole = take_all old whole (omega (arith, length-part all 0 place count within)) in
      let is = root-part all 0 place count few in
      both_roots _ _ _ _ (is ∙ ap (root_within 0) (sym front)) is

  joins_whole : (level place old count : ℕ) → count ≤ 2 ^ suc level → place * 2 ^ suc level + count ≤ length all → 2 ^ level < count → old ≡ count
      → roots_within (suc level) old count (hashes (ranges_joining (suc level) place old count)) ≡ (root_within (suc level) (take old (part all (suc level) place count)), root_within (suc level) (part all (suc level) place count))
  joins_whole level place old count few within lt same =
      let whole = part all (suc level) place count in
      let front : take old whole ≡ whole = take_all old whole (omega (arith, length-part all (suc level) place count within)) in
      let is = root-part all (suc level) place count few in
      let hash = range_root all (range (suc level) place count) in
      ap (λ (rs : List Range). roots_within (suc level) old count (hashes rs)) (joining-ranges-whole level place old count lt same)
      ∙ roots-whole level old count (hash ∷ []) lt same
      ∙ both_roots hash hash _ _ (is ∙ ap (root_within (suc level)) (sym front)) is

  joins_right : (level : ℕ) → JoinsAt level → (place old count : ℕ) → count ≤ 2 ^ suc level → place * 2 ^ suc level + count ≤ length all → old < count → 2 ^ level < old
      → roots_within (suc level) old count (hashes (ranges_joining (suc level) place old count)) ≡ (root_within (suc level) (take old (part all (suc level) place count)), root_within (suc level) (part all (suc level) place count))
  joins_right level law place old count few within less past =
      let whole = part all (suc level) place count in
      let len = length-part all (suc level) place count within in
      let beside : Range = range level (2 * place) (2 ^ level) in
      let rest = ranges_joining level (2 * place + 1) (old - 2 ^ level) (count - 2 ^ level) in
      let hash = range_root all beside in
      let found = roots_within level (old - 2 ^ level) (count - 2 ^ level) (hashes rest) in
      let left = root-part all level (2 * place) (2 ^ level) (omega arith) ∙ ap (root_within level) (sym (part_left all level place count (omega arith))) in
      let right = part_right all level place count (omega arith) in
      let below = law (2 * place + 1) (old - 2 ^ level) (count - 2 ^ level) (omega (arith, pow-suc 2 level)) (within_right level place count (length all) within (omega arith)) (omega arith) (omega arith) in
      let first : found.0 ≡ root_within level (take (old - 2 ^ level) (drop (2 ^ level) whole)) =
      ap (λ (p : List ℕ × List ℕ). p.0) below ∙ ap (λ (xs : List (List ℕ)). root_within level (take (old - 2 ^ level) xs)) (sym right) in
      let second : found.1 ≡ root_within level (drop (2 ^ level) whole) = ap (λ (p : List ℕ × List ℕ). p.1) below ∙ ap (root_within level) (sym right) in
      ap (λ (rs : List Range). roots_within (suc level) old count (hashes rs)) (joining-ranges-right level place old count less past)
      ∙ roots-right level old count (hash ∷ hashes rest) less past
      ∙ both_roots (branch_hash hash found.0) (branch_hash hash found.1) _ _
      (joined level whole old found.0 hash (omega arith) past left first)
      (ap (λ (h : List ℕ). branch_hash h found.1) left ∙ ap (branch_hash (root_within level (take (2 ^ level) whole))) second ∙ sym (root-more level whole (omega arith)))

  joins_left : (level : ℕ) → JoinsAt level → (place old count : ℕ) → count ≤ 2 ^ suc level → place * 2 ^ suc level + count ≤ length all → 0 < old → old < count → 2 ^ level < count → old ≤ 2 ^ level
      → roots_within (suc level) old count (hashes (ranges_joining (suc level) place old count)) ≡ (root_within (suc level) (take old (part all (suc level) place count)), root_within (suc level) (part all (suc level) place count))
  joins_left level law place old count few within positive less lt upto =
      let whole = part all (suc level) place count in
      let len = length-part all (suc level) place count within in
      let beside : Range = range level (2 * place + 1) (count - 2 ^ level) in
      let rest = ranges_joining level (2 * place) old (2 ^ level) in
      let hash = range_root all beside in
      let found = roots_within level old (2 ^ level) (hashes rest) in
      let left = part_left all level place count lt in
      let right = root-part all level (2 * place + 1) (count - 2 ^ level) (omega (arith, pow-suc 2 level)) ∙ ap (root_within level) (sym (part_right all level place count lt)) in
      let below = law (2 * place) old (2 ^ level) (omega arith) (within_left level place count (length all) within (omega arith)) positive upto in
      let front : take old (take (2 ^ level) whole) ≡ take old whole = take-take old (2 ^ level) whole upto in
      let first : found.0 ≡ root_within (suc level) (take old whole) =
      ap (λ (p : List ℕ × List ℕ). p.0) below ∙ ap (λ (xs : List (List ℕ)). root_within level (take old xs)) (sym left) ∙ ap (root_within level) front
      ∙ sym (root-less level (take old whole) (omega (arith, length-take old whole))) in
      let second : found.1 ≡ root_within level (take (2 ^ level) whole) = ap (λ (p : List ℕ × List ℕ). p.1) below ∙ ap (root_within level) (sym left) in
      ap (λ (rs : List Range). roots_within (suc level) old count (hashes rs)) (joining-ranges-left level place old count less lt upto)
      ∙ roots-left level old count (hash ∷ hashes rest) less lt upto
      ∙ both_roots found.0 (branch_hash found.1 hash) _ _ first
      (ap (λ (h : List ℕ). branch_hash h hash) second ∙ ap (branch_hash (root_within level (take (2 ^ level) whole))) right ∙ sym (root-more level whole (omega arith)))

  joins_low : (level : ℕ) → JoinsAt level → (place old count : ℕ) → place * 2 ^ suc level + count ≤ length all → 0 < old → old ≤ count → count ≤ 2 ^ level
      → roots_within (suc level) old count (hashes (ranges_joining (suc level) place old count)) ≡ (root_within (suc level) (take old (part all (suc level) place count)), root_within (suc level) (part all (suc level) place count))
  joins_low level law place old count within positive ordered few =
      let whole = part all (suc level) place count in
      let len = length-part all (suc level) place count within in
      let low = part_low all level place count in
      ap (λ (rs : List Range). roots_within (suc level) old count (hashes rs)) (joining-ranges-less level place old count few)
      ∙ roots-less level old count (hashes (ranges_joining level (2 * place) old count)) few
      ∙ law (2 * place) old count few (within_low level place count (length all) within) positive ordered
      ∙ both_roots _ _ _ _
      (ap (λ (xs : List (List ℕ)). root_within level (take old xs)) (sym low) ∙ sym (root-less level (take old whole) (omega (arith, length-take old whole))))
      (ap (root_within level) (sym low) ∙ sym (root-less level whole (omega arith)))

  joins_at : (level : ℕ) → JoinsAt level
  joins_at zero place old count few within positive ordered = joins_none place old count few within positive ordered
  joins_at (suc level) place old count few within positive ordered =
      elim (cases_lt (2 ^ level) count) [
        | inl lt ↦ elim (cases_lt old count) [
          | inl less ↦ elim (cases_lt (2 ^ level) old) [
            | inl past ↦ joins_right level (joins_at level) place old count few within less past
            | inr upto ↦ joins_left level (joins_at level) place old count few within positive less lt upto
          ]
          | inr all_of ↦ joins_whole level place old count few within lt (omega arith)
        ]
        | inr low ↦ joins_low level (joins_at level) place old count within positive ordered low
      ]

-- ---- the laws

whole_log : (entries : List (List ℕ)) → part entries (length entries) 0 (length entries) ≡ entries
whole_log entries =
    let start : 0 * 2 ^ length entries ≡ 0 = omega arith in
    ap (λ (n : ℕ). take (length entries) (drop n entries)) start ∙ take_all (length entries) entries (omega arith)

pub true_inclusion_law : (entries : List (List ℕ)) (index : ℕ) (leaf : List ℕ) → slice_get entries index ≡ Some leaf → path_root index (length entries) leaf (true_path entries index) ≡ Some (root entries)
true_inclusion_law entries index leaf e =
    let count = length entries in
    let inside = slice_get_within entries index leaf e in
    let enough : length (true_path entries index) ≡ length (inclusion_ranges count index) = length-map (inclusion_ranges count index) (range_root entries) in
    let found = true_at entries count 0 count index leaf (let lt = below_power count in omega arith) (omega arith) inside (ap (λ (xs : List (List ℕ)). slice_get xs index) (whole_log entries) ∙ e) in
    cond-true (ltb index count && eqb (length (true_path entries index)) (length (inclusion_ranges count index))) _ _
    (and_from (ltb index count) (eqb (length (true_path entries index)) (length (inclusion_ranges count index))) (lt-ltb _ _ inside) (eq-eqb _ _ enough))
    ∙ ap (λ (h : List ℕ). Some h) (found ∙ ap (root_within count) (whole_log entries))

pub true_consistency_law : (entries : List (List ℕ)) (old : ℕ) → 0 < old → old ≤ length entries → two_roots old (length entries) (true_hashes entries old) ≡ Some (root (take old entries), root entries)
true_consistency_law entries old positive ordered =
    let count = length entries in
    let high : count ≤ 2 ^ count = let lt = below_power count in omega arith in
    let enough = eqb (length (true_hashes entries old)) (length (consistency_ranges old count)) in
    let same : length (true_hashes entries old) ≡ length (consistency_ranges old count) = length-map (consistency_ranges old count) (range_root entries) in
    let found = joins_at entries count 0 old count high (omega arith) positive ordered in
    let whole = whole_log entries in
    let roots : ◌≡◌ {A = List ℕ × List ℕ} (root_within count (take old (part entries count 0 count)), root_within count (part entries count 0 count)) (root (take old entries), root entries) =
    λ i. ((ap (λ (xs : List (List ℕ)). root_within count (take old xs)) whole ∙ sym (root-at count (take old entries) (omega (arith, length-take old entries)))) i, root_within count (whole i)) in
    cond-true (ltb 0 old && leb old count && enough) _ _
    (and_from (ltb 0 old && leb old count) enough (and_from (ltb 0 old) (leb old count) (lt-ltb _ _ positive) (le-leb _ _ ordered)) (eq-eqb _ _ same))
    ∙ ap (λ (p : List ℕ × List ℕ). Some p) (found ∙ roots)
