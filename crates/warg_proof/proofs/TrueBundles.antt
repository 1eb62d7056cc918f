-- A bundle that lists the true hashes that its proofs need proves what is true.
use Rattle.std.proofs.Common.{◌≡◌, ℕ, zero, suc, ◌+◌, ◌-◌, ◌*◌, ◌^◌, ◌<◌, ◌≤◌, ltb, eqb, List, [], ◌∷◌, ◌++◌, length, take, map, Option, Some, refl, sym, ap, subst, ◌∙◌, inl, inr, arith}
use Rattle.std.specs.Prelude.{slice_get}
use Rattle.std.specs.List.{AllByRecursion, flat_map}
use Rattle.std.specs.Option.{option_map, option_and_then}
use Rattle.std.proofs.Math.Nat.{pow-suc}
use Rattle.std.proofs.lemmas.Bool.{cases_lt, cases_eq, cond-true, cond-false, lt-ltb, le-ltb, eq-eqb, ne_eqb}
use Rattle.std.proofs.lemmas.Option.{slice_get_within}
use Rattle.std.proofs.lemmas.List.Elements.{All-from_recursion}
use Rattle.warg_hash.specs.ByteLaws.{sha256_is_digest}
use Rattle.warg_hash.specs.Hash.{IsDigest}
use Rattle.warg_proof.specs.declared.node.Node.{Node}
use Rattle.warg_proof.specs.Merkle.{branch_hash}
use Rattle.warg_proof.specs.LogTree.{Range, range, root_within, root, ranges_beside, inclusion_ranges, ranges_joining, consistency_ranges}
use Rattle.warg_proof.specs.LogProofs.{LogProofs, hash_within, range_hash, each_or_none, asked_inclusion, asked_consistency, ProvesInclusion, ProvesConsistency}
use Rattle.warg_proof.specs.MapTree.{Entries, IsMap, value_at, map_root, map_path_root}
use Rattle.warg_proof.specs.MapProofs.{MapPath, siblings, log_key, IsMapPath, ProvesValue}
use Rattle.warg_proof.specs.TrueProofs.{range_root, true_path, true_hashes, true_siblings, needed_within, needed, IsTrueNode, ListsTruly}
use Rattle.warg_proof.proofs.LogLaws.{below_power, root-more, root-less, root_is_hash}
use Rattle.warg_proof.proofs.Climbing.{beside-ranges-less, beside-ranges-left, beside-ranges-right, joining-ranges-less, joining-ranges-whole, joining-ranges-left, joining-ranges-right, hash-less, hash-whole, hash-split, both_are}
use Rattle.warg_proof.proofs.Siblings.{siblings_are_hashes}
use Rattle.warg_proof.proofs.TrueLaws.{part, part_low, part_left, part_right, length-part, root-part, within_left, within_right, within_low, true_inclusion_law, true_consistency_law}
use Rattle.warg_proof.proofs.TrueMaps.{true_map_law}

all_left : {A : Type 0} (P : A → Type 0) (xs ys : List A) → AllByRecursion P (xs ++ ys) → AllByRecursion P xs
all_left P [] ys h = tt
all_left P (x ∷ xs) ys h = (h.0, all_left P xs ys h.1)

all_right : {A : Type 0} (P : A → Type 0) (xs ys : List A) → AllByRecursion P (xs ++ ys) → AllByRecursion P ys
all_right P [] ys h = h
all_right P (x ∷ xs) ys h = all_right P xs ys h.1

-- ---- the nodes of a range

needed-less : (level place count : ℕ) → count ≤ 2 ^ level → needed_within (suc level) place count ≡ needed_within level (2 * place) count
unfolding needed_within
needed-less level place count le = cond-false (ltb (2 ^ level) count) _ _ (le-ltb _ _ le)

needed-whole : (level place count : ℕ) → 2 ^ level < count → count ≡ 2 ^ suc level → needed_within (suc level) place count ≡ (suc level, place) ∷ []
unfolding needed_within
needed-whole level place count lt whole = cond-true (ltb (2 ^ level) count) _ _ (lt-ltb _ _ lt) ∙ cond-true (eqb count (2 ^ suc level)) _ _ (eq-eqb _ _ whole)

needed-split : (level place count : ℕ) → 2 ^ level < count → (count ≡ 2 ^ suc level → ⊥)
    → needed_within (suc level) place count ≡ needed_within level (2 * place) (2 ^ level) ++ needed_within level (2 * place + 1) (count - 2 ^ level)
unfolding needed_within
needed-split level place count lt other = cond-true (ltb (2 ^ level) count) _ _ (lt-ltb _ _ lt) ∙ cond-false (eqb count (2 ^ suc level)) _ _ (ne_eqb _ _ other)

module _ (nodes : List Node) (all : List (List ℕ)) where
  abbrev True : ℕ × ℕ → Type 0
  True at = IsTrueNode nodes all at

  abbrev TrueHash : ℕ → Type 0
  TrueHash level = (place count : ℕ) → 0 < count → count ≤ 2 ^ level → place * 2 ^ level + count ≤ length all → AllByRecursion True (needed_within level place count)
      → hash_within nodes level place count ≡ Some (root_within level (part all level place count))

  hash_none : TrueHash 0
  unfolding hash_within needed_within
  hash_none place count positive few within h =
      let one : 1 ≡ count = omega arith in
      h.0 ∙ ap (λ (n : ℕ). Some (range_root all (range 0 place n))) one ∙ ap (λ (x : List ℕ). Some x) (root-part all 0 place count few)

  hash_low : (level : ℕ) → TrueHash level → (place count : ℕ) → 0 < count → place * 2 ^ suc level + count ≤ length all → AllByRecursion True (needed_within (suc level) place count) → count ≤ 2 ^ level
      → hash_within nodes (suc level) place count ≡ Some (root_within (suc level) (part all (suc level) place count))
  hash_low level law place count positive within h few =
      let whole = part all (suc level) place count in
      let low = part_low all level place count in
      hash-less nodes (suc level) level place count refl few
      ∙ law (2 * place) count positive few (within_low level place count (length all) within) (subst (AllByRecursion True) (needed-less level place count few) h)
      ∙ ap (λ (x : List ℕ). Some x) (ap (root_within level) (sym low) ∙ sym (root-less level whole (omega (arith, length-part all (suc level) place count within))))

  hash_all : (level place count : ℕ) → place * 2 ^ suc level + count ≤ length all → AllByRecursion True (needed_within (suc level) place count) → 2 ^ level < count → count ≡ 2 ^ suc level
      → hash_within nodes (suc level) place count ≡ Some (root_within (suc level) (part all (suc level) place count))
  hash_all level place count within h lt whole =
      let node = subst (AllByRecursion True) (needed-whole level place count lt whole) h in
      hash-whole nodes (suc level) level place count refl lt (omega (arith, pow-suc 2 level))
      ∙ node.0 ∙ ap (λ (n : ℕ). Some (range_root all (range (suc level) place n))) (sym whole)
      ∙ ap (λ (x : List ℕ). Some x) (root-part all (suc level) place count (omega arith))

  hash_parts : (level : ℕ) → TrueHash level → (place count : ℕ) → count ≤ 2 ^ suc level → place * 2 ^ suc level + count ≤ length all → AllByRecursion True (needed_within (suc level) place count) → 2 ^ level < count → (count ≡ 2 ^ suc level → ⊥)
      → hash_within nodes (suc level) place count ≡ Some (root_within (suc level) (part all (suc level) place count))
  hash_parts level law place count few within h lt other =
      let whole = part all (suc level) place count in
      let both = subst (AllByRecursion True) (needed-split level place count lt other) h in
      let l = law (2 * place) (2 ^ level) (omega (arith, below_power level)) (omega arith) (within_left level place count (length all) within (omega arith)) (all_left True (needed_within level (2 * place) (2 ^ level)) _ both) in
      let r = law (2 * place + 1) (count - 2 ^ level) (omega arith) (omega (arith, pow-suc 2 level)) (within_right level place count (length all) within (omega arith)) (all_right True (needed_within level (2 * place) (2 ^ level)) _ both) in
      hash-split nodes (suc level) level place count refl lt (λ e. other (omega (arith, e, pow-suc 2 level)))
      ∙ both_are _ _ _ _ l r
      ∙ ap (λ (x : List ℕ). Some x)
      (ap (λ (xs : List (List ℕ)). branch_hash (root_within level xs) (root_within level (part all level (2 * place + 1) (count - 2 ^ level)))) (sym (part_left all level place count lt))
      ∙ ap (λ (xs : List (List ℕ)). branch_hash (root_within level (take (2 ^ level) whole)) (root_within level xs)) (sym (part_right all level place count lt))
      ∙ sym (root-more level whole (omega (arith, length-part all (suc level) place count within))))

  hash_at : (level : ℕ) → TrueHash level
  hash_at zero place count positive few within h = hash_none place count positive few within h
  hash_at (suc level) place count positive few within h =
      elim (cases_lt (2 ^ level) count) [
        | inl lt ↦ elim (cases_eq count (2 ^ suc level)) [
          | inl whole ↦ hash_all level place count within h lt whole
          | inr other ↦ hash_parts level (hash_at level) place count few within h lt other
        ]
        | inr low ↦ hash_low level (hash_at level) place count positive within h low
      ]

  -- ---- ranges within the log

  record InLog (r : Range) : Type 0 where
    positive : 0 < r.count
    few : r.count ≤ 2 ^ r.level
    within : r.place * 2 ^ r.level + r.count ≤ length all

  true_hash : (r : Range) → InLog r → AllByRecursion True (needed r) → range_hash nodes r ≡ Some (range_root all r)
  true_hash r is h =
      hash_at r.level r.place r.count is.positive is.few is.within h ∙ ap (λ (x : List ℕ). Some x) (sym (root-part all r.level r.place r.count is.few))

  each_true : (ranges : List Range) → AllByRecursion InLog ranges → AllByRecursion True (flat_map needed ranges) → each_or_none (range_hash nodes) ranges ≡ Some (map (range_root all) ranges)
  each_true [] is h = refl
  each_true (r ∷ ranges) is h =
      let first = true_hash r is.0 (all_left True (needed r) (flat_map needed ranges) h) in
      let others = each_true ranges is.1 (all_right True (needed r) (flat_map needed ranges) h) in
      ap (λ (o : Option (List ℕ)). option_and_then (λ y. option_map (λ ys. y ∷ ys) (each_or_none (range_hash nodes) ranges)) o) first
      ∙ ap (λ (o : Option (List (List ℕ))). option_map (λ ys. range_root all r ∷ ys) o) others

  beside_in_log : (level place count index : ℕ) → count ≤ 2 ^ level → place * 2 ^ level + count ≤ length all → index < count → AllByRecursion InLog (ranges_beside level place count index)
  unfolding ranges_beside
  beside_in_log zero place count index few within inside = tt
  beside_in_log (suc level) place count index few within inside =
      elim (cases_lt (2 ^ level) count) [
        | inl lt ↦ elim (cases_lt index (2 ^ level)) [
          | inl here ↦ subst (AllByRecursion InLog) (sym (beside-ranges-left level place count index lt here)) (
            record { positive = omega arith; few = omega (arith, pow-suc 2 level); within = within_right level place count (length all) within (omega arith) },
            beside_in_log level (2 * place) (2 ^ level) index (omega arith) (within_left level place count (length all) within (omega arith)) here,
          )
          | inr there ↦ subst (AllByRecursion InLog) (sym (beside-ranges-right level place count index lt there)) (
            record { positive = omega (arith, below_power level); few = omega arith; within = within_left level place count (length all) within (omega arith) },
            beside_in_log level (2 * place + 1) (count - 2 ^ level) (index - 2 ^ level) (omega (arith, pow-suc 2 level)) (within_right level place count (length all) within (omega arith)) (omega arith),
          )
        ]
        | inr low ↦ subst (AllByRecursion InLog) (sym (beside-ranges-less level place count index low)) (beside_in_log level (2 * place) count index low (within_low level place count (length all) within) inside)
      ]

  joining_in_log : (level place old count : ℕ) → count ≤ 2 ^ level → place * 2 ^ level + count ≤ length all → 0 < old → old ≤ count → AllByRecursion InLog (ranges_joining level place old count)
  unfolding ranges_joining
  joining_in_log zero place old count few within positive ordered = (record { positive = omega arith; few = few; within = within }, tt)
  joining_in_log (suc level) place old count few within positive ordered =
      elim (cases_lt (2 ^ level) count) [
        | inl lt ↦ elim (cases_lt old count) [
          | inl less ↦ elim (cases_lt (2 ^ level) old) [
            | inl past ↦ subst (AllByRecursion InLog) (sym (joining-ranges-right level place old count less past)) (
              record { positive = omega (arith, below_power level); few = omega arith; within = within_left level place count (length all) within (omega arith) },
              joining_in_log level (2 * place + 1) (old - 2 ^ level) (count - 2 ^ level) (omega (arith, pow-suc 2 level)) (within_right level place count (length all) within (omega arith)) (omega arith) (omega arith),
            )
            | inr upto ↦ subst (AllByRecursion InLog) (sym (joining-ranges-left level place old count less lt upto)) (
              record { positive = omega arith; few = omega (arith, pow-suc 2 level); within = within_right level place count (length all) within (omega arith) },
              joining_in_log level (2 * place) old (2 ^ level) (omega arith) (within_left level place count (length all) within (omega arith)) positive upto,
            )
          ]
          | inr same ↦ subst (AllByRecursion InLog) (sym (joining-ranges-whole level place old count lt (omega arith))) (record { positive = omega arith; few = few; within = within }, tt)
        ]
        | inr low ↦ subst (AllByRecursion InLog) (sym (joining-ranges-less level place old count low)) (joining_in_log level (2 * place) old count low (within_low level place count (length all) within) positive ordered)
      ]

  roots_are_hashes : (ranges : List Range) → AllByRecursion IsDigest (map (range_root all) ranges)
  roots_are_hashes [] = tt
  roots_are_hashes (r ∷ ranges) = (root_is_hash _ _, roots_are_hashes ranges)

-- ---- the laws

pub listed_inclusion_law : (proofs : LogProofs) (at : ℕ) (entries : List (List ℕ)) (index : ℕ) (leaf : List ℕ) → asked_inclusion proofs at ≡ Some (record { log_length = length entries; index = index }) → slice_get entries index ≡ Some leaf
    → ListsTruly proofs.nodes entries (inclusion_ranges (length entries) index) → ProvesInclusion proofs at (length entries) index leaf (root entries)
listed_inclusion_law proofs at entries index leaf asked e h =
    let count = length entries in
    let inside = slice_get_within entries index leaf e in
    let ranges = inclusion_ranges count index in
    record {
      asks = record { asked = asked; below = inside };
      path = true_path entries index;
      gives_path = each_true proofs.nodes entries ranges (beside_in_log proofs.nodes entries count 0 count index (let lt = below_power count in omega arith) (omega arith) inside) h;
      are_hashes = All-from_recursion IsDigest (true_path entries index) (roots_are_hashes proofs.nodes entries ranges);
      gives_root = true_inclusion_law entries index leaf e;
    }

pub listed_consistency_law : (proofs : LogProofs) (entries : List (List ℕ)) (old : ℕ) → 0 < old → old ≤ length entries → asked_consistency proofs ≡ Some (record { old_length = old; new_length = length entries })
    → ListsTruly proofs.nodes entries (consistency_ranges old (length entries)) → ProvesConsistency proofs old (length entries) (root (take old entries)) (root entries)
listed_consistency_law proofs entries old positive ordered asked h =
    let count = length entries in
    let ranges = consistency_ranges old count in
    record {
      asks = record { asked = asked; positive = positive; ordered = ordered };
      hashes = true_hashes entries old;
      gives_hashes = each_true proofs.nodes entries ranges (joining_in_log proofs.nodes entries count 0 old count (let lt = below_power count in omega arith) (omega arith) positive ordered) h;
      are_hashes = All-from_recursion IsDigest (true_hashes entries old) (roots_are_hashes proofs.nodes entries ranges);
      gives_roots = true_consistency_law entries old positive ordered;
    }

pub listed_value_law : (paths : List MapPath) (at : ℕ) (path : MapPath) (map : Entries) (log_id value : List ℕ) → slice_get paths at ≡ Some path → IsMapPath path → siblings path ≡ true_siblings map (log_key log_id)
    → IsMap map → value_at map (log_key log_id) ≡ Some value → ProvesValue paths at log_id value (map_root map)
listed_value_law paths at path map log_id value asked is same im e = record {
  path = path;
  asked = asked;
  are_hashes = siblings_are_hashes path is;
  gives_root = ap (map_path_root (log_key log_id) value) same ∙ true_map_law map (log_key log_id) value im (sha256_is_digest log_id) e;
}
