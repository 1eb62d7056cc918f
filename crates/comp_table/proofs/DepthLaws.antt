-- Laws of depths: those of value types are those of their trees of heads, and the greatest of some as a number of the
-- machine.
use Rattle.std.specs.Prelude.{◌≡◌, ℕ, ◌+◌, ◌<◌, ◌≤◌, List, [], ◌∷◌, ◌++◌, map, length, max, refl, slice_index_or}
use Rattle.std.proofs.Common.{ap, sym, ◌∙◌, arith, inl, inr, take}
use Rattle.std.proofs.Math.Nat.{max-zero, zero-max, le-max_left, le-max_right, max-le, max-eq_left, max-eq_right}
use Rattle.std.proofs.lemmas.Bool.{cases_lt}
use Rattle.std.proofs.lemmas.List.{take_more}
use Rattle.comp_entity.specs.Entity.{ValueTree, Primitive, TupleOf, RecordOf, VariantOf, ListOf, FlagsOf, EnumOf, OptionOf, ResultOf, Own, Borrow, ValueTrees, Cases, no_case, labelled, Payload, absent, present}
use Rattle.comp_entity.specs.Entity as entity
use Rattle.comp_entity.specs.Bounds.{value_depth, parts_depth as values_depth_of, cases_depth as cases_depth_of, payload_depth as payload_depth_of}
use Rattle.comp_table.specs.Trees.{PlainTree, trees_of, tree_at}
use Rattle.comp_table.specs.Plain.{plain_labels, plain_value, plain_values, plain_cases, plain_payload}
use Rattle.comp_table.specs.Facts.{capped, tree_depth, trees_depth}
use Rattle.comp_table.proofs.SizeLaws.{capped_is}

max_assoc : (a b c : ℕ) → max a (max b c) ≡ max (max a b) c
max_assoc a b c =
    let p = le-max_left a b in
    let q = le-max_right a b in
    let r = le-max_left (max a b) c in
    let s = le-max_right (max a b) c in
    let t = le-max_left b c in
    let u = le-max_right b c in
    let v = le-max_left a (max b c) in
    let w = le-max_right a (max b c) in
    let one : max a (max b c) ≤ max (max a b) c = max-le (omega (arith, p, r)) (max-le (omega (arith, q, r)) s) in
    let two : max (max a b) c ≤ max a (max b c) = max-le (max-le v (omega (arith, t, w))) (omega (arith, u, w)) in
    omega (arith, one, two)

capped_max : (a b : ℕ) → max (capped a) (capped b) ≡ capped (max a b)
capped_max a b =
    let h = capped_is a in
    let k = capped_is b in
    elim (cases_lt a b) [
      | inl lt ↦ max-eq_right (omega (arith, lt, h, k)) ∙ ap capped (sym (max-eq_right (omega (arith, lt))))
      | inr le ↦ max-eq_left (omega (arith, le, h, k)) ∙ ap capped (sym (max-eq_left le))
    ]

-- the depth of parts that stand under numbers
abbrev pub parts_depth : List PlainTree → List ℕ → ℕ
parts_depth ts ps = trees_depth (trees_of (map (tree_at ts) ps))

parts_depth_more : (ts : List PlainTree) (ps : List ℕ) (p : ℕ) → parts_depth ts (ps ++ p ∷ []) ≡ max (parts_depth ts ps) (tree_depth (tree_at ts p))
parts_depth_more ts [] p = max-zero (tree_depth (tree_at ts p)) ∙ sym (zero-max (tree_depth (tree_at ts p)))
parts_depth_more ts (q ∷ ps) p =
    ap (max (tree_depth (tree_at ts q))) (parts_depth_more ts ps p) ∙ max_assoc (tree_depth (tree_at ts q)) (parts_depth ts ps) (tree_depth (tree_at ts p))

-- one part more
pub depth_step : (ts : List PlainTree) (ps : List ℕ) (i n s m : ℕ) → i < length ps → n ≡ capped (parts_depth ts (take i ps)) → s ≡ capped (tree_depth (tree_at ts (slice_index_or ps i 0))) → m ≡ max n s → m ≡ capped (parts_depth ts (take (i + 1) ps))
depth_step ts ps i n s m lt n_is s_is m_is =
    let p = slice_index_or ps i 0 in
    m_is ∙ (λ x. max (n_is x) (s_is x)) ∙ capped_max (parts_depth ts (take i ps)) (tree_depth (tree_at ts p))
    ∙ ap capped (sym (ap (parts_depth ts) (take_more ps i 0 lt) ∙ parts_depth_more ts (take i ps) p))

-- depths of value types
labels_depth : (ls : List (List ℕ)) → trees_depth (plain_labels ls) ≡ 0
labels_depth [] = refl
labels_depth (l ∷ ls) = ap (max 0) (labels_depth ls)

mutual
  pub value_is_as_deep : (v : ValueTree) → tree_depth (plain_value v) ≡ value_depth v
  value_is_as_deep (Primitive p) = refl
  value_is_as_deep (TupleOf ts) = ap (λ n. 1 + n) (values_are ts)
  value_is_as_deep (RecordOf place ts) = ap (λ n. 1 + n) (cases_are ts)
  value_is_as_deep (VariantOf place ts) = ap (λ n. 1 + n) (cases_are ts)
  value_is_as_deep (ListOf t) = ap (λ n. 1 + n) (max-zero (tree_depth (plain_value t)) ∙ value_is_as_deep t)
  value_is_as_deep (FlagsOf place ls) = ap (λ n. 1 + n) (labels_depth ls)
  value_is_as_deep (EnumOf place ls) = ap (λ n. 1 + n) (labels_depth ls)
  value_is_as_deep (OptionOf t) = ap (λ n. 1 + n) (max-zero (tree_depth (plain_value t)) ∙ value_is_as_deep t)
  value_is_as_deep (ResultOf ok err) =
      ap (λ n. 1 + n) (ap (max (tree_depth (plain_payload ok))) (max-zero (tree_depth (plain_payload err))) ∙ (λ i. max (payload_is ok i) (payload_is err i)))
  value_is_as_deep (Own r) = refl
  value_is_as_deep (Borrow r) = refl

  values_are : (ts : ValueTrees) → trees_depth (plain_values ts) ≡ values_depth_of ts
  values_are entity.none = refl
  values_are (entity.more t ts) = λ i. max (value_is_as_deep t i) (values_are ts i)

  cases_are : (cs : Cases) → trees_depth (plain_cases cs) ≡ cases_depth_of cs
  cases_are no_case = refl
  cases_are (labelled l p cs) =
      let under : 0 + max (tree_depth (plain_payload p)) 0 ≡ tree_depth (plain_payload p) = let h = max-zero (tree_depth (plain_payload p)) in omega (arith, h) in
      λ i. max ((under ∙ payload_is p) i) (cases_are cs i)

  payload_is : (p : Payload) → tree_depth (plain_payload p) ≡ payload_depth_of p
  payload_is absent = refl
  payload_is (present t) = value_is_as_deep t
