-- Laws of imports and exports in other names, and of what is mentioned in them.
use Rattle.std.specs.Prelude.{◌≡◌, ℕ, ◌+◌, ◌-◌, Bool, true, false, cond, ◌==◌, nat_lt, List, [], ◌∷◌, ◌++◌, map, flat_map, Some, None, refl}
use Rattle.std.proofs.Common.{sym, ◌∙◌, ap, arith}
use Rattle.std.proofs.lemmas.Bool.{eq-eqb}
use Rattle.std.proofs.lemmas.Bool.Decides.{nat_tests}
use Rattle.std.proofs.lemmas.List.{map-append}
use Rattle.comp_entity.specs.Entity.{Name, made, EntityTree, IsInstance, Entries}
use Rattle.comp_entity.specs.Names.{Change, Mention, OfResource, OfPlace, changing, deeper, entity_by, entries_by, in_entity, in_entries, numbers_at, outside, place_at, resource_at}
use Rattle.comp_entity.specs.Views.{Sides}
use Rattle.comp_define.specs.OtherNumbers.{numbered_by, with_other_numbers}
use Rattle.comp_mention.specs.Mentions.{func_mentions, head_mentions, is_func_type, tree_mentions, trees_mentions}
use Rattle.comp_scope.specs.Closing.{mentions_in}
use Rattle.comp_table.specs.Changes.{head_by, scopes_in, tree_by, trees_by}
use Rattle.comp_table.specs.declared.head.Head.{Head}
use Rattle.comp_table.specs.declared.head.Head.TheVariants as head
use Rattle.comp_table.specs.Plain.{plain_entity}
use Rattle.comp_table.specs.Trees.{PlainTree, tree, PlainTrees, none, more}

-- ---- what is mentioned so deep

module _ (f : ℕ → ℕ) where
  -- the number of what is mentioned so deep
  pub at_other : (d : ℕ) (n : Name) → numbers_at 0 d (outside (numbered_by f) d n) ≡ map f (numbers_at 0 d n)
  at_other d n = by (nat_lt n.out d) refl (n.out - d == 0) refl
    where
      by : (a : Bool) → nat_lt n.out d ≡ a → (b : Bool) → (n.out - d == 0) ≡ b → numbers_at 0 d (cond a n (deeper d (cond b (made (f n.number)) (record n { out = n.out - d })))) ≡ map f (numbers_at 0 d n)
      by true a b e =
          let far : (n.out == 0 + d) ≡ false = grind (arith, nat_tests) in
          ap (λ c. cond c (n.number ∷ []) []) far ∙ sym (ap (λ c. map f (cond c (n.number ∷ []) [])) far)
      by false a true e =
          let here : (0 + d == 0 + d) ≡ true = eq-eqb (0 + d) (0 + d) refl in
          let is : (n.out == 0 + d) ≡ true = grind (arith, nat_tests) in
          ap (λ c. cond c (f n.number ∷ []) []) here ∙ sym (ap (λ c. map f (cond c (n.number ∷ []) [])) is)
      by false a false e =
          let far : (n.out - d + d == 0 + d) ≡ false = grind (arith, nat_tests) in
          let is : (n.out == 0 + d) ≡ false = grind (arith, nat_tests) in
          ap (λ c. cond c (n.number ∷ []) []) far ∙ sym (ap (λ c. map f (cond c (n.number ∷ []) [])) is)

-- ---- a change after another

module _ (a b : Name → Name) where
  twice : (d : ℕ) (n : Name) → outside a d (outside b d n) ≡ outside (λ m. a (b m)) d n
  twice d n = by (nat_lt n.out d) refl
    where
      by : (c : Bool) → nat_lt n.out d ≡ c → outside a d (cond c n (deeper d (b (record n { out = n.out - d })))) ≡ cond c n (deeper d (a (b (record n { out = n.out - d }))))
      by true is = ap (λ c. cond c n (deeper d (a (record n { out = n.out - d })))) is
      by false is =
          let m = b (record n { out = n.out - d }) in
          let past : nat_lt (m.out + d) d ≡ false = grind (arith, nat_tests) in
          let back : m.out + d - d ≡ m.out = omega arith in
          ap (λ c. cond c (deeper d m) (deeper d (a (record m { out = m.out + d - d })))) past ∙ ap (λ o. deeper d (a (record m { out = o }))) back

scopes_same : (c : Change) (d e : ℕ) (h : Head) → scopes_in (head_by c d h) e ≡ scopes_in h e
scopes_same c d e (head.RecordOf place) = refl
scopes_same c d e _ = refl

func_same : (c : Change) (d : ℕ) (h : Head) → is_func_type (head_by c d h) ≡ is_func_type h
func_same c d (head.RecordOf place) = refl
func_same c d _ = refl

module _ (a b p q : Name → Name) where
  head_twice : (d : ℕ) (h : Head) → head_by (changing a b) d (head_by (changing p q) d h) ≡ head_by (changing (λ n. a (p n)) (λ n. b (q n))) d h
  head_twice d (head.RecordOf None) = refl
  head_twice d (head.RecordOf (Some n)) = ap (λ m. head.RecordOf (Some m)) (twice b q d n)
  head_twice d (head.VariantOf None) = refl
  head_twice d (head.VariantOf (Some n)) = ap (λ m. head.VariantOf (Some m)) (twice b q d n)
  head_twice d (head.FlagsOf None) = refl
  head_twice d (head.FlagsOf (Some n)) = ap (λ m. head.FlagsOf (Some m)) (twice b q d n)
  head_twice d (head.EnumOf None) = refl
  head_twice d (head.EnumOf (Some n)) = ap (λ m. head.EnumOf (Some m)) (twice b q d n)
  head_twice d (head.Own r) = ap head.Own (twice a p d r)
  head_twice d (head.Borrow r) = ap head.Borrow (twice a p d r)
  head_twice d (head.Resource r) = ap head.Resource (twice a p d r)
  head_twice d _ = refl

  mutual
    pub tree_twice : (d : ℕ) (t : PlainTree) → tree_by (changing a b) d (tree_by (changing p q) d t) ≡ tree_by (changing (λ n. a (p n)) (λ n. b (q n))) d t
    tree_twice d (tree h parts) =
        (λ i. tree (head_twice d h i) (trees_by (changing a b) (scopes_same (changing p q) d d h i) (trees_by (changing p q) (scopes_in h d) parts)))
        ∙ ap (tree (head_by (changing (λ n. a (p n)) (λ n. b (q n))) d h)) (trees_twice (scopes_in h d) parts)

    trees_twice : (d : ℕ) (ts : PlainTrees) → trees_by (changing a b) d (trees_by (changing p q) d ts) ≡ trees_by (changing (λ n. a (p n)) (λ n. b (q n))) d ts
    trees_twice d none = refl
    trees_twice d (more t ts) = λ i. more (tree_twice d t i) (trees_twice d ts i)

-- ---- mentions in other numbers

module _ (f g : ℕ → ℕ) where
  abbrev pub change : Change
  change = changing (numbered_by f) (numbered_by g)

  abbrev pub other : ℕ × Mention → ℕ × Mention
  other (d, OfResource n) = (d, OfResource (outside (numbered_by f) d n))
  other (d, OfPlace n) = (d, OfPlace (outside (numbered_by g) d n))

  head_other : (d : ℕ) (h : Head) → head_mentions d (head_by change d h) ≡ map other (head_mentions d h)
  head_other d (head.RecordOf None) = refl
  head_other d (head.RecordOf (Some n)) = refl
  head_other d (head.VariantOf None) = refl
  head_other d (head.VariantOf (Some n)) = refl
  head_other d (head.FlagsOf None) = refl
  head_other d (head.FlagsOf (Some n)) = refl
  head_other d (head.EnumOf None) = refl
  head_other d (head.EnumOf (Some n)) = refl
  head_other d _ = refl

  either : (b : Bool) (x y v w : List (ℕ × Mention)) → x ≡ map other v → y ≡ map other w → cond b x y ≡ map other (cond b v w)
  either true x y v w p q = p
  either false x y v w p q = q

  mutual
    pub tree_other : (d : ℕ) (t : PlainTree) → tree_mentions d (tree_by change d t) ≡ map other (tree_mentions d t)
    tree_other d (tree h parts) =
        (λ i. head_other d h i ++ cond (func_same change d h i) (func_mentions (scopes_same change d d h i) (trees_by change (scopes_in h d) parts)) (trees_mentions (scopes_same change d d h i) (trees_by change (scopes_in h d) parts)))
        ∙ ap (λ ms. map other (head_mentions d h) ++ ms) (either (is_func_type h) _ _ _ _ (func_other (scopes_in h d) parts) (trees_other (scopes_in h d) parts))
        ∙ sym (map-append other (head_mentions d h) (cond (is_func_type h) (func_mentions (scopes_in h d) parts) (trees_mentions (scopes_in h d) parts)))

    trees_other : (d : ℕ) (ts : PlainTrees) → trees_mentions d (trees_by change d ts) ≡ map other (trees_mentions d ts)
    trees_other d none = refl
    trees_other d (more t ts) = (λ i. tree_other d t i ++ trees_other d ts i) ∙ sym (map-append other (tree_mentions d t) (trees_mentions d ts))

    func_other : (d : ℕ) (ts : PlainTrees) → func_mentions d (trees_by change d ts) ≡ map other (func_mentions d ts)
    func_other d none = refl
    func_other d (more t ts) = (λ i. trees_other d ts i ++ tree_other d t i) ∙ sym (map-append other (trees_mentions d ts) (tree_mentions d t))

  pub resource_other : (m : ℕ × Mention) → resource_at 0 (other m) ≡ map f (resource_at 0 m)
  resource_other (d, OfResource n) = at_other f d n
  resource_other (d, OfPlace n) = refl

  pub place_other : (m : ℕ × Mention) → place_at 0 (other m) ≡ map g (place_at 0 m)
  place_other (d, OfResource n) = refl
  place_other (d, OfPlace n) = at_other g d n

  pub picked_other : (h : ℕ → ℕ) (pick : ℕ × Mention → List ℕ) → ((m : ℕ × Mention) → pick (other m) ≡ map h (pick m)) → (ms : List (ℕ × Mention)) → flat_map pick (map other ms) ≡ map h (flat_map pick ms)
  picked_other h pick each [] = refl
  picked_other h pick each (m ∷ ms) = (λ i. each m i ++ picked_other h pick each ms i) ∙ sym (map-append h (pick m) (flat_map pick ms))

-- ---- imports and exports

same_entries : (a b : Entries) → IsInstance a ≡ IsInstance b → a ≡ b
same_entries a b e = cc

module _ (changed : (c : Change) (d : ℕ) (e : EntityTree) → plain_entity (entity_by c d e) ≡ tree_by c d (plain_entity e))
    (mention : (d : ℕ) (e : EntityTree) → tree_mentions d (plain_entity e) ≡ in_entity d e)
    (single : (a b : EntityTree) → plain_entity a ≡ plain_entity b → a ≡ b) where
  pub side_twice : (a b p q : Name → Name) (es : Entries) → entries_by (changing a b) 0 (entries_by (changing p q) 0 es) ≡ entries_by (changing (λ n. a (p n)) (λ n. b (q n))) 0 es
  side_twice a b p q es =
      same_entries _ _ (single (IsInstance (entries_by (changing a b) 0 (entries_by (changing p q) 0 es))) (IsInstance (entries_by (changing (λ n. a (p n)) (λ n. b (q n))) 0 es))
      (changed (changing a b) 0 (IsInstance (entries_by (changing p q) 0 es))
      ∙ ap (tree_by (changing a b) 0) (changed (changing p q) 0 (IsInstance es))
      ∙ tree_twice a b p q 0 (plain_entity (IsInstance es))
      ∙ sym (changed (changing (λ n. a (p n)) (λ n. b (q n))) 0 (IsInstance es))))

  module _ (f g : ℕ → ℕ) where
    side_mentions : (es : Entries) → in_entries 0 (entries_by (change f g) 0 es) ≡ map (other f g) (in_entries 0 es)
    side_mentions es =
        sym (mention 0 (IsInstance (entries_by (change f g) 0 es))) ∙ ap (tree_mentions 0) (changed (change f g) 0 (IsInstance es))
        ∙ tree_other f g 0 (plain_entity (IsInstance es)) ∙ ap (map (other f g)) (mention 0 (IsInstance es))

    all_mentions : (s : Sides) → mentions_in (with_other_numbers f g s) ≡ map (other f g) (mentions_in s)
    all_mentions s = (λ i. side_mentions s.exports i ++ side_mentions s.imports i) ∙ sym (map-append (other f g) (in_entries 0 s.exports) (in_entries 0 s.imports))

    -- the numbers that are mentioned
    pub resources_other : (s : Sides) → flat_map (resource_at 0) (mentions_in (with_other_numbers f g s)) ≡ map f (flat_map (resource_at 0) (mentions_in s))
    resources_other s = ap (flat_map (resource_at 0)) (all_mentions s) ∙ picked_other f g f (resource_at 0) (resource_other f g) (mentions_in s)

    pub places_other : (s : Sides) → flat_map (place_at 0) (mentions_in (with_other_numbers f g s)) ≡ map g (flat_map (place_at 0) (mentions_in s))
    places_other s = ap (flat_map (place_at 0)) (all_mentions s) ∙ picked_other f g g (place_at 0) (place_other f g) (mentions_in s)
