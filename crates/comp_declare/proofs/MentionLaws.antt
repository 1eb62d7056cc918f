-- Laws of trees that mention resources.
use Rattle.std.specs.Prelude.{◌≡◌, ℕ, zero, suc, ◌+◌, ◌<◌, Bool, true, false, cond, ◌||◌, nat_eq, List, [], ◌∷◌, ◌++◌, map, length, take, slice_index_or, Option, Some, None, refl}
use Rattle.std.specs.List.{list_any}
use Rattle.std.proofs.Common.{ap, sym, subst, ◌∙◌, arith}
use Rattle.std.proofs.lemmas.Bool.{eqb-true}
use Rattle.std.proofs.lemmas.List.{map-append, take_more}
use Rattle.indexmap.specs.IndexSet.{insert_key}
use Rattle.comp_entity.specs.Entity.{Name, TypeShapeTree, EntityTree, IsType}
use Rattle.comp_entity.specs.Names.{Mention, at_place, in_entity, is_resource, mentions_resource}
use Rattle.comp_mention.specs.Mentions.{head_mentions, is_func_type, tree_mentions, trees_mentions, func_mentions}
use Rattle.comp_declare.specs.Mentioned.{names_resource, has_resource, any_has_resource, AreWithout}
use Rattle.comp_table.specs.declared.head.Head.{Head}
use Rattle.comp_table.specs.declared.head.Head.TheVariants as head
use Rattle.comp_table.specs.Changes.{scopes_in}
use Rattle.comp_table.specs.Plain.{plain_type, plain_entity}
use Rattle.comp_table.specs.Trees.{PlainTree, tree, PlainTrees, none, more, IsBelow, Stands, trees_of, tree_at, root, below_root}

any_append : (xs ys : List (ℕ × Mention)) → list_any is_resource (xs ++ ys) ≡ (list_any is_resource xs || list_any is_resource ys)
any_append [] ys = refl
any_append (x ∷ xs) ys = ap (λ b. is_resource x || b) (any_append xs ys) ∙ by (is_resource x) (list_any is_resource xs) (list_any is_resource ys)
  where
    by : (a b c : Bool) → (a || (b || c)) ≡ ((a || b) || c)
    by true b c = refl
    by false b c = refl

or_swapped : (a b : Bool) → (a || b) ≡ (b || a)
or_swapped true true = refl
or_swapped true false = refl
or_swapped false true = refl
or_swapped false false = refl

place_silent : (d : ℕ) (place : Option Name) → list_any is_resource (at_place d place) ≡ false
place_silent d None = refl
place_silent d (Some n) = refl

head_is : (d : ℕ) (h : Head) → list_any is_resource (head_mentions d h) ≡ names_resource h
head_is d (head.RecordOf place) = place_silent d place
head_is d (head.VariantOf place) = place_silent d place
head_is d (head.FlagsOf place) = place_silent d place
head_is d (head.EnumOf place) = place_silent d place
head_is d (head.Own r) = refl
head_is d (head.Borrow r) = refl
head_is d (head.Resource r) = refl
head_is d (head.Primitive p) = refl
head_is d head.ListOf = refl
head_is d head.TupleOf = refl
head_is d head.OptionOf = refl
head_is d head.ResultOf = refl
head_is d head.Absent = refl
head_is d (head.Label label) = refl
head_is d head.FuncType = refl
head_is d head.InstanceType = refl
head_is d head.ComponentType = refl
head_is d head.Entries = refl
head_is d (head.Entry mark name) = refl
head_is d head.Func = refl
head_is d head.Instance = refl
head_is d head.Component = refl
head_is d head.Module = refl
head_is d head.OwnModule = refl
head_is d head.CoreFunc = refl
head_is d (head.CoreTable element limits) = refl
head_is d (head.CoreMemory limits) = refl
head_is d (head.CoreGlobal v is_mutable) = refl
head_is d (head.CoreValue v) = refl

pick : (b : Bool) (f g : List (ℕ × Mention)) (x : Bool) → list_any is_resource f ≡ x → list_any is_resource g ≡ x → list_any is_resource (cond b f g) ≡ x
pick true f g x e k = e
pick false f g x e k = k

mutual
  pub mentions_are : (d : ℕ) (t : PlainTree) → list_any is_resource (tree_mentions d t) ≡ has_resource t
  mentions_are d (tree h parts) =
      any_append (head_mentions d h) (cond (is_func_type h) (func_mentions (scopes_in h d) parts) (trees_mentions (scopes_in h d) parts))
      ∙ (λ i. head_is d h i || pick (is_func_type h) (func_mentions (scopes_in h d) parts) (trees_mentions (scopes_in h d) parts) (any_has_resource parts) (func_mentions_are (scopes_in h d) parts) (all_mentions_are (scopes_in h d) parts) i)

  all_mentions_are : (d : ℕ) (ts : PlainTrees) → list_any is_resource (trees_mentions d ts) ≡ any_has_resource ts
  all_mentions_are d none = refl
  all_mentions_are d (more t ts) = any_append (tree_mentions d t) (trees_mentions d ts) ∙ (λ i. mentions_are d t i || all_mentions_are d ts i)

  func_mentions_are : (d : ℕ) (ts : PlainTrees) → list_any is_resource (func_mentions d ts) ≡ any_has_resource ts
  func_mentions_are d none = refl
  func_mentions_are d (more t ts) =
      any_append (trees_mentions d ts) (tree_mentions d t) ∙ (λ i. all_mentions_are d ts i || mentions_are d t i)
      ∙ or_swapped (any_has_resource ts) (has_resource t)

-- of a type
pub type_mentions_are : (ts : List PlainTree) (n : ℕ) (t : TypeShapeTree) → ((d : ℕ) (e : EntityTree) → tree_mentions d (plain_entity e) ≡ in_entity d e) → Stands ts n (plain_type t) → has_resource (tree_at ts n) ≡ mentions_resource t
type_mentions_are ts n t law s = ap has_resource s.tree_is ∙ sym (mentions_are 0 (plain_type t)) ∙ ap (list_any is_resource) (law 0 (IsType t))

no_truth : {A : Type 0} → true ≡ false → A
no_truth h = absurd cc

-- what is among those without
pub none_there : (ts : List PlainTree) (keys : List ℕ) (n : ℕ) → AreWithout ts keys → list_any (nat_eq n) keys ≡ true → has_resource (tree_at ts n) ≡ false
none_there ts [] n all there = no_truth (sym there)
none_there ts (k ∷ keys) n all there = by (nat_eq n k) refl (λ later. none_there ts keys n all.1 later)
  where
    by : (b : Bool) → nat_eq n k ≡ b → (list_any (nat_eq n) keys ≡ true → has_resource (tree_at ts n) ≡ false) → has_resource (tree_at ts n) ≡ false
    by true is further = subst (λ m. has_resource (tree_at ts m) ≡ false) (sym (eqb-true n k is)) all.0
    by false is further = further (sym (ap (λ b. b || list_any (nat_eq n) keys) is) ∙ there)

push : (ts : List PlainTree) (keys : List ℕ) (n : ℕ) → AreWithout ts keys → has_resource (tree_at ts n) ≡ false → AreWithout ts (keys ++ n ∷ [])
push ts [] n all here = (here, tt)
push ts (k ∷ keys) n all here = (all.0, push ts keys n all.1 here)

pub one_without : (ts : List PlainTree) (keys new : List ℕ) (n : ℕ) → new ≡ insert_key nat_eq keys n → AreWithout ts keys → has_resource (tree_at ts n) ≡ false → AreWithout ts new
one_without ts keys new n is all here = subst (AreWithout ts) (sym is) (by (list_any (nat_eq n) keys))
  where
    by : (b : Bool) → AreWithout ts (cond b keys (keys ++ n ∷ []))
    by true = all
    by false = push ts keys n all here

-- a tree by its head and its parts
pub has_here : (t : PlainTree) (h : Head) (b : Bool) → h ≡ root t → names_resource h ≡ true → true ≡ has_resource t
has_here (tree g parts) h b is here = sym (ap (λ x. x || any_has_resource parts) (ap names_resource (sym is) ∙ here))

pub has_below : (t : PlainTree) (h : Head) (parts : PlainTrees) (b : Bool) → h ≡ root t → parts ≡ below_root t → names_resource h ≡ false → b ≡ any_has_resource parts → b ≡ has_resource t
has_below (tree g ts) h parts b is below here found =
    found ∙ ap any_has_resource below ∙ sym (ap (λ x. x || any_has_resource ts) (ap names_resource (sym is) ∙ here))

any_more : (ts us : List PlainTree) → any_has_resource (trees_of (ts ++ us)) ≡ (any_has_resource (trees_of ts) || any_has_resource (trees_of us))
any_more [] us = refl
any_more (t ∷ ts) us = ap (λ b. has_resource t || b) (any_more ts us) ∙ by (has_resource t) (any_has_resource (trees_of ts)) (any_has_resource (trees_of us))
  where
    by : (a b c : Bool) → (a || (b || c)) ≡ ((a || b) || c)
    by true b c = refl
    by false b c = refl

or_false : (a : Bool) → (a || false) ≡ a
or_false true = refl
or_false false = refl

-- one part more, and one that mentions a resource
pub part_more : (ts : List PlainTree) (parts : List ℕ) (i d : ℕ) → i < length parts → any_has_resource (trees_of (map (tree_at ts) (take (i + 1) parts))) ≡ (any_has_resource (trees_of (map (tree_at ts) (take i parts))) || has_resource (tree_at ts (slice_index_or parts i d)))
part_more ts parts i d lt =
    ap (λ ns. any_has_resource (trees_of (map (tree_at ts) ns))) (take_more parts i d lt)
    ∙ ap (λ us. any_has_resource (trees_of us)) (map-append (tree_at ts) (take i parts) (slice_index_or parts i d ∷ []))
    ∙ any_more (map (tree_at ts) (take i parts)) (tree_at ts (slice_index_or parts i d) ∷ [])
    ∙ ap (λ b. any_has_resource (trees_of (map (tree_at ts) (take i parts))) || b) (or_false (has_resource (tree_at ts (slice_index_or parts i d))))

pub part_has : (ts : List PlainTree) (parts : List ℕ) (i d : ℕ) → i < length parts → has_resource (tree_at ts (slice_index_or parts i d)) ≡ true → true ≡ any_has_resource (trees_of (map (tree_at ts) parts))
part_has ts (p ∷ parts) zero d lt here = sym (ap (λ b. b || any_has_resource (trees_of (map (tree_at ts) parts))) here)
part_has ts (p ∷ parts) (suc i) d lt here = by (has_resource (tree_at ts p)) (part_has ts parts i d (omega (arith, lt)) here)
  where
    by : (b : Bool) → true ≡ any_has_resource (trees_of (map (tree_at ts) parts)) → true ≡ (b || any_has_resource (trees_of (map (tree_at ts) parts)))
    by true later = refl
    by false later = later
part_has ts [] i d lt here = absurd (omega (arith, lt))

-- parts of a number below others are below them too
pub below_wider : (n k : ℕ) (ns : List ℕ) → n < k → IsBelow n ns → IsBelow k ns
below_wider n k [] lt b = tt
below_wider n k (m ∷ ns) lt b = let h = b.0 in (omega (arith, h, lt), below_wider n k ns lt b.1)
