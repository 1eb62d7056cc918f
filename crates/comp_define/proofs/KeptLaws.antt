-- Laws of imports and exports that are closed already.
use Rattle.std.specs.Prelude.{◌≡◌, ℕ, ◌+◌, ◌-◌, ◌≤◌, Bool, true, false, cond, ◌||◌, ◌==◌, nat_lt, List, [], ◌∷◌, ◌++◌, flat_map, length, Some, None, refl}
use Rattle.std.specs.List.{AllByRecursion, fold}
use Rattle.std.proofs.Common.{sym, ◌∙◌, ap, subst, arith}
use Rattle.std.proofs.lemmas.Bool.{eqb-true}
use Rattle.std.proofs.lemmas.Bool.Decides.{nat_tests}
use Rattle.comp_entity.specs.Entity.{Name, made, EntityTree, IsInstance, Entries}
use Rattle.comp_entity.specs.Names.{Change, Mention, OfResource, OfPlace, changing, deeper, entity_by, entries_by, in_entity, in_entries, numbers_at, outside, place_at, resource_at}
use Rattle.comp_entity.specs.Views.{Sides}
use Rattle.comp_define.specs.Orders.{AreInOrder}
use Rattle.comp_define.proofs.PlaceLaws.{any_append, grows, has, has_below, now_there, place, place_in_below, place_is, place_of, with_one}
use Rattle.comp_mention.specs.Mentions.{func_mentions, head_mentions, is_func_type, tree_mentions, trees_mentions}
use Rattle.comp_scope.specs.Closing.{first_mentions, mentions_in, numbered, renumbered}
use Rattle.comp_table.specs.Changes.{head_by, scopes_in, tree_by, trees_by}
use Rattle.comp_table.specs.declared.head.Head.{Head}
use Rattle.comp_table.specs.declared.head.Head.TheVariants as head
use Rattle.comp_table.specs.Plain.{plain_entity}
use Rattle.comp_table.specs.Trees.{PlainTree, tree, PlainTrees, none, more}

both : {X : Type 0} (P : X → Type 0) (xs ys : List X) → AllByRecursion P (xs ++ ys) → AllByRecursion P xs × AllByRecursion P ys
both P [] ys all = (tt, all)
both P (x ∷ xs) ys all = let rest = both P xs ys all.1 in ((all.0, rest.0), rest.1)

-- ---- trees whose names stay

module _ (a b : Name → Name) where
  abbrev Stays : ℕ × Mention → Type 0
  Stays (d, OfResource n) = outside a d n ≡ n
  Stays (d, OfPlace n) = outside b d n ≡ n

  head_stays : (d : ℕ) (h : Head) → AllByRecursion Stays (head_mentions d h) → head_by (changing a b) d h ≡ h
  head_stays d (head.RecordOf None) all = refl
  head_stays d (head.RecordOf (Some n)) all = ap (λ m. head.RecordOf (Some m)) all.0
  head_stays d (head.VariantOf None) all = refl
  head_stays d (head.VariantOf (Some n)) all = ap (λ m. head.VariantOf (Some m)) all.0
  head_stays d (head.FlagsOf None) all = refl
  head_stays d (head.FlagsOf (Some n)) all = ap (λ m. head.FlagsOf (Some m)) all.0
  head_stays d (head.EnumOf None) all = refl
  head_stays d (head.EnumOf (Some n)) all = ap (λ m. head.EnumOf (Some m)) all.0
  head_stays d (head.Own r) all = ap head.Own all.0
  head_stays d (head.Borrow r) all = ap head.Borrow all.0
  head_stays d (head.Resource r) all = ap head.Resource all.0
  head_stays d _ all = refl

  either : (c : Bool) (xs ys : List (ℕ × Mention)) (us vs : PlainTrees) → (AllByRecursion Stays xs → us ≡ vs) → (AllByRecursion Stays ys → us ≡ vs) → AllByRecursion Stays (cond c xs ys) → us ≡ vs
  either true xs ys us vs p q all = p all
  either false xs ys us vs p q all = q all

  mutual
    tree_stays : (d : ℕ) (t : PlainTree) → AllByRecursion Stays (tree_mentions d t) → tree_by (changing a b) d t ≡ t
    tree_stays d (tree h parts) all =
        let split = both Stays (head_mentions d h) (cond (is_func_type h) (func_mentions (scopes_in h d) parts) (trees_mentions (scopes_in h d) parts)) all in
        let inner : trees_by (changing a b) (scopes_in h d) parts ≡ parts =
        either (is_func_type h) (func_mentions (scopes_in h d) parts) (trees_mentions (scopes_in h d) parts) _ _ (func_stays (scopes_in h d) parts) (trees_stays (scopes_in h d) parts) split.1 in
        λ i. tree (head_stays d h split.0 i) (inner i)

    trees_stays : (d : ℕ) (ts : PlainTrees) → AllByRecursion Stays (trees_mentions d ts) → trees_by (changing a b) d ts ≡ ts
    trees_stays d none all = refl
    trees_stays d (more t ts) all = let split = both Stays (tree_mentions d t) (trees_mentions d ts) all in λ i. more (tree_stays d t split.0 i) (trees_stays d ts split.1 i)

    func_stays : (d : ℕ) (ts : PlainTrees) → AllByRecursion Stays (func_mentions d ts) → trees_by (changing a b) d ts ≡ ts
    func_stays d none all = refl
    func_stays d (more t ts) all = let split = both Stays (trees_mentions d ts) (tree_mentions d t) all in λ i. more (tree_stays d t split.1 i) (trees_stays d ts split.0 i)

-- ---- what is numbered in order

abbrev AreThere : List ℕ → List ℕ → Type 0
AreThere order ns = AllByRecursion (λ n. has order n ≡ true) ns

there_still : (n : ℕ) (seen rest : List ℕ) → has seen n ≡ true → has (seen ++ rest) n ≡ true
there_still n seen rest there = any_append n seen rest ∙ ap (λ b. b || has rest n) there

one_there : (n : ℕ) (seen : List ℕ) → has (with_one seen n) n ≡ true
one_there n seen = by (has seen n) refl
  where
    by : (b : Bool) → has seen n ≡ b → has (cond b seen (seen ++ n ∷ [])) n ≡ true
    by true e = e
    by false e = now_there n seen

all_there : (seen ns : List ℕ) → AreThere (fold with_one seen ns) ns
all_there seen [] = tt
all_there seen (n ∷ ns) =
    let g = grows (with_one seen n) ns in
    (ap (λ (xs : List ℕ). has xs n) g.1 ∙ there_still n (with_one seen n) g.0 (one_there n seen), all_there (with_one seen n) ns)

-- a number that is mentioned stays, where each stands at its own place
name_stays : (order : List ℕ) (d : ℕ) (n : Name) → AreInOrder order → AreThere order (numbers_at 0 d n) → outside (renumbered order) d n ≡ n
name_stays order d n in_order there = by (nat_lt n.out d) refl (n.out - d == 0) refl
  where
    by : (b : Bool) → nat_lt n.out d ≡ b → (c : Bool) → (n.out - d == 0) ≡ c → cond b n (deeper d (cond c (made (place_of (place order n.number) (length order))) (record n { out = n.out - d }))) ≡ n
    by true e c f = refl
    by false e true f =
        let is : (n.out == 0 + d) ≡ true = grind (arith, nat_tests) in
        let out : 0 + d ≡ n.out = sym (eqb-true n.out (0 + d) is) in
        let here : has order n.number ≡ true = (subst (λ b. AreThere order (cond b (n.number ∷ []) [])) is there).0 in
        let small : nat_lt n.number (length order) ≡ true = sym (has_below (length order) n.number) ∙ ap (λ (xs : List ℕ). has xs n.number) (sym in_order) ∙ here in
        let within : n.number ≤ length order = grind (arith, nat_tests) in
        let same : place_of (place order n.number) (length order) ≡ n.number = place_is order n.number ∙ ap (λ (xs : List ℕ). place xs n.number) in_order ∙ place_in_below (length order) n.number within in
        λ i. record { out = out i; number = same i }
    by false e false f =
        let out : n.out - d + d ≡ n.out = grind (arith, nat_tests) in
        λ i. record { out = out i; number = n.number }

module _ (resources places : List ℕ) (first : AreInOrder resources) (second : AreInOrder places) where
  all_stay : (ms : List (ℕ × Mention)) → AreThere resources (flat_map (resource_at 0) ms) → AreThere places (flat_map (place_at 0) ms) → AllByRecursion (Stays (renumbered resources) (renumbered places)) ms
  all_stay [] there here = tt
  all_stay ((d, OfResource n) ∷ ms) there here =
      let split = both (λ n. has resources n ≡ true) (numbers_at 0 d n) (flat_map (resource_at 0) ms) there in
      (name_stays resources d n first split.0, all_stay ms split.1 here)
  all_stay ((d, OfPlace n) ∷ ms) there here =
      let split = both (λ n. has places n ≡ true) (numbers_at 0 d n) (flat_map (place_at 0) ms) here in
      (name_stays places d n second split.0, all_stay ms there split.1)

same_entries : (a b : Entries) → IsInstance a ≡ IsInstance b → a ≡ b
same_entries a b e = cc

module _ (changed : (c : Change) (d : ℕ) (e : EntityTree) → plain_entity (entity_by c d e) ≡ tree_by c d (plain_entity e))
    (mention : (d : ℕ) (e : EntityTree) → tree_mentions d (plain_entity e) ≡ in_entity d e)
    (single : (a b : EntityTree) → plain_entity a ≡ plain_entity b → a ≡ b) where
  side_stays : (a b : Name → Name) (es : Entries) → AllByRecursion (Stays a b) (in_entries 0 es) → entries_by (changing a b) 0 es ≡ es
  side_stays a b es all =
      same_entries _ _ (single (IsInstance (entries_by (changing a b) 0 es)) (IsInstance es)
      (changed (changing a b) 0 (IsInstance es) ∙ tree_stays a b 0 (plain_entity (IsInstance es)) (subst (AllByRecursion (Stays a b)) (sym (mention 0 (IsInstance es))) all)))

  pub stays : (s : Sides) → AreInOrder (first_mentions (flat_map (resource_at 0) (mentions_in s))) → AreInOrder (first_mentions (flat_map (place_at 0) (mentions_in s))) → numbered s ≡ s
  stays s first second =
      let resources = first_mentions (flat_map (resource_at 0) (mentions_in s)) in
      let places = first_mentions (flat_map (place_at 0) (mentions_in s)) in
      let all : AllByRecursion (Stays (renumbered resources) (renumbered places)) (mentions_in s) =
      all_stay resources places first second (mentions_in s) (all_there [] (flat_map (resource_at 0) (mentions_in s))) (all_there [] (flat_map (place_at 0) (mentions_in s))) in
      let split = both (Stays (renumbered resources) (renumbered places)) (in_entries 0 s.exports) (in_entries 0 s.imports) all in
      λ i. record { imports = side_stays (renumbered resources) (renumbered places) s.imports split.1 i; exports = side_stays (renumbered resources) (renumbered places) s.exports split.0 i }
