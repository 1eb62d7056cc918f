-- Laws of core modules of a component's own in entities.
use Rattle.std.specs.Prelude.{◌≡◌, ℕ, zero, suc, ◌+◌, ◌<◌, Bool, true, false, cond, not, ◌&&◌, ◌||◌, nat_eq, List, [], ◌∷◌, ◌++◌, map, length, take, slice_index_or, Option, Some, None, bytes_eq, refl}
use Rattle.std.specs.List.{list_any}
use Rattle.std.specs.Option.{option_map_or}
use Rattle.std.proofs.Common.{ap, sym, subst, ◌∙◌, arith}
use Rattle.std.proofs.lemmas.Bool.{eqb-true}
use Rattle.std.proofs.lemmas.List.{map-append, take_more}
use Rattle.indexmap.specs.IndexSet.{insert_key}
use Rattle.comp_entity.specs.Entity.{Name, ValueTree, Primitive, TupleOf, RecordOf, VariantOf, ListOf, FlagsOf, EnumOf, OptionOf, ResultOf, Own, Borrow, TypeShapeTree, Value, Resource, Func, Instance, Component, EntityTree, IsType, IsFunc, IsInstance, IsComponent, IsModule, IsOwnModule, Entries, no_entry, entry}
use Rattle.comp_entity.specs.Fits.{all_fit, entities_equal, entries_equal, fits_with, types_equal, under}
use Rattle.comp_instance.specs.declared.own_modules.Within.{Within}
use Rattle.comp_instance.specs.declared.own_modules.Within.TheVariants as within
use Rattle.comp_instance.specs.OwnModules.{AreWithout, any_holds, goes_into, holds, is_own}
use Rattle.comp_scope.specs.Exports.{are_typed, is_typed}
use Rattle.comp_table.specs.declared.head.Head.{Head}
use Rattle.comp_table.specs.Plain.{plain_value, plain_type, plain_entity, plain_entries}
use Rattle.comp_table.specs.Shown.{AreShown, IsShown, IsShownType}
use Rattle.comp_table.specs.Trees.{PlainTree, tree, PlainTrees, trees_of, tree_at, root, below_root}

no_truth : {A : Type 0} → true ≡ false → A
no_truth h = absurd cc

-- what is among those without
pub none_there : (w : Within) (ts : List PlainTree) (keys : List ℕ) (n : ℕ) → AreWithout w ts keys → list_any (nat_eq n) keys ≡ true → holds w (tree_at ts n) ≡ false
none_there w ts [] n all there = no_truth (sym there)
none_there w ts (k ∷ keys) n all there = by (nat_eq n k) refl (λ later. none_there w ts keys n all.1 later)
  where
    by : (b : Bool) → nat_eq n k ≡ b → (list_any (nat_eq n) keys ≡ true → holds w (tree_at ts n) ≡ false) → holds w (tree_at ts n) ≡ false
    by true is further = subst (λ m. holds w (tree_at ts m) ≡ false) (sym (eqb-true n k is)) all.0
    by false is further = further (sym (ap (λ b. b || list_any (nat_eq n) keys) is) ∙ there)

push : (w : Within) (ts : List PlainTree) (keys : List ℕ) (n : ℕ) → AreWithout w ts keys → holds w (tree_at ts n) ≡ false → AreWithout w ts (keys ++ n ∷ [])
push w ts [] n all here = (here, tt)
push w ts (k ∷ keys) n all here = (all.0, push w ts keys n all.1 here)

pub one_without : (w : Within) (ts : List PlainTree) (keys new : List ℕ) (n : ℕ) → new ≡ insert_key nat_eq keys n → AreWithout w ts keys → holds w (tree_at ts n) ≡ false → AreWithout w ts new
one_without w ts keys new n is all here = subst (AreWithout w ts) (sym is) (by (list_any (nat_eq n) keys))
  where
    by : (b : Bool) → AreWithout w ts (cond b keys (keys ++ n ∷ []))
    by true = all
    by false = push w ts keys n all here

-- a tree by its head and its parts
module _ (w : Within) (t : PlainTree) (h : Head) (is : h ≡ root t) where
  pub holds_here : is_own h ≡ true → true ≡ holds w t
  holds_here here = at t is
    where
      at : (t : PlainTree) → h ≡ root t → true ≡ holds w t
      at (tree g parts) is = sym (ap (λ x. x || (goes_into g w && any_holds w parts)) (ap is_own (sym is) ∙ here))

  pub holds_nothing : is_own h ≡ false → goes_into h w ≡ false → false ≡ holds w t
  holds_nothing here into = at t is
    where
      at : (t : PlainTree) → h ≡ root t → false ≡ holds w t
      at (tree g parts) is = sym (λ i. (ap is_own (sym is) ∙ here) i || ((ap (λ k. goes_into k w) (sym is) ∙ into) i && any_holds w parts))

  pub holds_below : (parts : PlainTrees) (b : Bool) → parts ≡ below_root t → is_own h ≡ false → goes_into h w ≡ true → b ≡ any_holds w parts → b ≡ holds w t
  holds_below parts b below here into found = at t is below
    where
      at : (t : PlainTree) → h ≡ root t → parts ≡ below_root t → b ≡ holds w t
      at (tree g us) is below = found ∙ ap (any_holds w) below ∙ sym (λ i. (ap is_own (sym is) ∙ here) i || ((ap (λ k. goes_into k w) (sym is) ∙ into) i && any_holds w us))

any_more : (w : Within) (ts us : List PlainTree) → any_holds w (trees_of (ts ++ us)) ≡ (any_holds w (trees_of ts) || any_holds w (trees_of us))
any_more w [] us = refl
any_more w (t ∷ ts) us = ap (λ b. holds w t || b) (any_more w ts us) ∙ by (holds w t) (any_holds w (trees_of ts)) (any_holds w (trees_of us))
  where
    by : (a b c : Bool) → (a || (b || c)) ≡ ((a || b) || c)
    by true b c = refl
    by false b c = refl

or_nothing : (a : Bool) → (a || false) ≡ a
or_nothing true = refl
or_nothing false = refl

-- one part more, and one that holds one
pub part_more : (w : Within) (ts : List PlainTree) (parts : List ℕ) (i d : ℕ) → i < length parts → any_holds w (trees_of (map (tree_at ts) (take (i + 1) parts))) ≡ (any_holds w (trees_of (map (tree_at ts) (take i parts))) || holds w (tree_at ts (slice_index_or parts i d)))
part_more w ts parts i d lt =
    ap (λ ns. any_holds w (trees_of (map (tree_at ts) ns))) (take_more parts i d lt)
    ∙ ap (λ us. any_holds w (trees_of us)) (map-append (tree_at ts) (take i parts) (slice_index_or parts i d ∷ []))
    ∙ any_more w (map (tree_at ts) (take i parts)) (tree_at ts (slice_index_or parts i d) ∷ [])
    ∙ ap (λ b. any_holds w (trees_of (map (tree_at ts) (take i parts))) || b) (or_nothing (holds w (tree_at ts (slice_index_or parts i d))))

pub part_holds : (w : Within) (ts : List PlainTree) (parts : List ℕ) (i d : ℕ) → i < length parts → holds w (tree_at ts (slice_index_or parts i d)) ≡ true → true ≡ any_holds w (trees_of (map (tree_at ts) parts))
part_holds w ts (p ∷ parts) zero d lt here = sym (ap (λ b. b || any_holds w (trees_of (map (tree_at ts) parts))) here)
part_holds w ts (p ∷ parts) (suc i) d lt here = by (holds w (tree_at ts p)) (part_holds w ts parts i d (omega (arith, lt)) here)
  where
    by : (b : Bool) → true ≡ any_holds w (trees_of (map (tree_at ts) parts)) → true ≡ (b || any_holds w (trees_of (map (tree_at ts) parts)))
    by true later = refl
    by false later = later
part_holds w ts [] i d lt here = absurd (omega (arith, lt))

-- value types hold none
value_holds_none : (w : Within) (v : ValueTree) → holds w (plain_value v) ≡ false
value_holds_none w (Primitive p) = refl
value_holds_none w (TupleOf ts) = refl
value_holds_none w (RecordOf place fields) = refl
value_holds_none w (VariantOf place cases) = refl
value_holds_none w (ListOf t) = refl
value_holds_none w (FlagsOf place labels) = refl
value_holds_none w (EnumOf place labels) = refl
value_holds_none w (OptionOf t) = refl
value_holds_none w (ResultOf ok err) = refl
value_holds_none w (Own r) = refl
value_holds_none w (Borrow r) = refl

-- an entity is typed where no instance in it holds one
mutual
  pub typed_is : (e : EntityTree) → is_typed e ≡ not (holds within.Instances (plain_entity e))
  typed_is (IsType (Value v)) = ap not (sym (value_holds_none within.Instances v))
  typed_is (IsType (Resource r)) = refl
  typed_is (IsType (Func f)) = refl
  typed_is (IsType (Instance es)) = refl
  typed_is (IsType (Component is es)) = refl
  typed_is (IsFunc f) = refl
  typed_is (IsInstance es) = all_typed es
  typed_is (IsComponent is es) = refl
  typed_is (IsModule m) = refl
  typed_is IsOwnModule = refl

  all_typed : (es : Entries) → are_typed es ≡ not (any_holds within.Instances (plain_entries es))
  all_typed no_entry = refl
  all_typed (entry name e mark es) = (λ i. typed_is e i && all_typed es i) ∙ by (holds within.Instances (plain_entity e)) (any_holds within.Instances (plain_entries es))
    where
      by : (a b : Bool) → (not a && not b) ≡ not ((a || false) || b)
      by true b = refl
      by false b = refl

-- an entity that holds none has only such parts
neither : (a b : Bool) → (a || b) ≡ false → (a ≡ false) × (b ≡ false)
neither true b e = absurd cc
neither false b e = (refl, e)

mutual
  type_shown : (t : TypeShapeTree) → holds within.Everything (plain_type t) ≡ false → IsShownType t
  type_shown (Value v) h = tt
  type_shown (Resource r) h = tt
  type_shown (Func f) h = tt
  type_shown (Instance es) h = all_shown es h
  type_shown (Component is es) h =
      let a = neither (any_holds within.Everything (plain_entries is)) (any_holds within.Everything (plain_entries es) || false) h in
      (all_shown is a.0, all_shown es (sym (or_nothing (any_holds within.Everything (plain_entries es))) ∙ a.1))

  pub shown_is : (e : EntityTree) → holds within.Everything (plain_entity e) ≡ false → IsShown e
  shown_is (IsType t) h = type_shown t h
  shown_is (IsFunc f) h = tt
  shown_is (IsInstance es) h = all_shown es h
  shown_is (IsComponent is es) h =
      let a = neither (any_holds within.Everything (plain_entries is)) (any_holds within.Everything (plain_entries es) || false) h in
      (all_shown is a.0, all_shown es (sym (or_nothing (any_holds within.Everything (plain_entries es))) ∙ a.1))
  shown_is (IsModule m) h = tt
  shown_is IsOwnModule h = absurd cc

  all_shown : (es : Entries) → any_holds within.Everything (plain_entries es) ≡ false → AreShown es
  all_shown no_entry h = tt
  all_shown (entry name e mark es) h =
      let a = neither (holds within.Everything (plain_entity e) || false) (any_holds within.Everything (plain_entries es)) h in
      (shown_is e (sym (or_nothing (holds within.Everything (plain_entity e))) ∙ a.0), all_shown es a.1)

-- nothing equals and nothing fits an entity that holds one
either_holds : {P : Type 0} (a b : Bool) → (a || b) ≡ true → (a ≡ true → P) → (b ≡ true → P) → P
either_holds true b e here there = here refl
either_holds false b e here there = there e

first_false : (a b : Bool) → a ≡ false → (a && b) ≡ false
first_false a b e = ap (λ c. c && b) e

second_false : (a b : Bool) → b ≡ false → (a && b) ≡ false
second_false true b e = e
second_false false b e = refl

module _ (same : Name → Name → Bool) where
  abbrev has_own : PlainTrees → Bool
  has_own ts = any_holds within.Everything ts

  mutual
    types_unequal : (t u : TypeShapeTree) → holds within.Everything (plain_type u) ≡ true → types_equal same t u ≡ false
    types_unequal t (Value v) h = no_truth (sym h ∙ value_holds_none within.Everything v)
    types_unequal t (Resource r) h = absurd cc
    types_unequal t (Func f) h = absurd cc
    types_unequal (Instance ds) (Instance es) h = entries_unequal ds es h
    types_unequal (Value v) (Instance es) h = refl
    types_unequal (Resource r) (Instance es) h = refl
    types_unequal (Func f) (Instance es) h = refl
    types_unequal (Component is ds) (Instance es) h = refl
    types_unequal (Component js ds) (Component is es) h =
        either_holds (has_own (plain_entries is)) (has_own (plain_entries es) || false) h
        (λ here. first_false (entries_equal same js is) (entries_equal same ds es) (entries_unequal js is here))
        (λ there. second_false (entries_equal same js is) (entries_equal same ds es) (entries_unequal ds es (sym (or_nothing (has_own (plain_entries es))) ∙ there)))
    types_unequal (Value v) (Component is es) h = refl
    types_unequal (Resource r) (Component is es) h = refl
    types_unequal (Func f) (Component is es) h = refl
    types_unequal (Instance ds) (Component is es) h = refl

    entities_unequal : (x y : EntityTree) → holds within.Everything (plain_entity y) ≡ true → entities_equal same x y ≡ false
    entities_unequal x (IsFunc f) h = absurd cc
    entities_unequal x (IsModule m) h = absurd cc
    entities_unequal (IsType t) (IsType u) h = types_unequal t u h
    entities_unequal (IsFunc f) (IsType u) h = refl
    entities_unequal (IsInstance ds) (IsType u) h = refl
    entities_unequal (IsComponent js ds) (IsType u) h = refl
    entities_unequal (IsModule m) (IsType u) h = refl
    entities_unequal IsOwnModule (IsType u) h = refl
    entities_unequal (IsType t) (IsInstance es) h = refl
    entities_unequal (IsFunc f) (IsInstance es) h = refl
    entities_unequal (IsInstance ds) (IsInstance es) h = entries_unequal ds es h
    entities_unequal (IsComponent js ds) (IsInstance es) h = refl
    entities_unequal (IsModule m) (IsInstance es) h = refl
    entities_unequal IsOwnModule (IsInstance es) h = refl
    entities_unequal (IsType t) (IsComponent is es) h = refl
    entities_unequal (IsFunc f) (IsComponent is es) h = refl
    entities_unequal (IsInstance ds) (IsComponent is es) h = refl
    entities_unequal (IsComponent js ds) (IsComponent is es) h =
        either_holds (has_own (plain_entries is)) (has_own (plain_entries es) || false) h
        (λ here. first_false (entries_equal same js is) (entries_equal same ds es) (entries_unequal js is here))
        (λ there. second_false (entries_equal same js is) (entries_equal same ds es) (entries_unequal ds es (sym (or_nothing (has_own (plain_entries es))) ∙ there)))
    entities_unequal (IsModule m) (IsComponent is es) h = refl
    entities_unequal IsOwnModule (IsComponent is es) h = refl
    entities_unequal (IsType t) IsOwnModule h = refl
    entities_unequal (IsFunc f) IsOwnModule h = refl
    entities_unequal (IsInstance ds) IsOwnModule h = refl
    entities_unequal (IsComponent js ds) IsOwnModule h = refl
    entities_unequal (IsModule m) IsOwnModule h = refl
    entities_unequal IsOwnModule IsOwnModule h = refl

    entries_unequal : (ds es : Entries) → has_own (plain_entries es) ≡ true → entries_equal same ds es ≡ false
    entries_unequal ds no_entry h = absurd cc
    entries_unequal no_entry (entry n b q fs) h = refl
    entries_unequal (entry m a p es) (entry n b q fs) h =
        either_holds (holds within.Everything (plain_entity b) || false) (has_own (plain_entries fs)) h
        (λ here. three (bytes_eq m n) (entities_equal same a b) (entries_equal same es fs) (λ both. first_false (entities_equal same a b) (entries_equal same es fs) (entities_unequal a b (sym (or_nothing (holds within.Everything (plain_entity b))) ∙ here))))
        (λ there. three (bytes_eq m n) (entities_equal same a b) (entries_equal same es fs) (λ both. second_false (entities_equal same a b) (entries_equal same es fs) (entries_unequal es fs there)))
      where
        three : (x y z : Bool) → (Unit {0} → (y && z) ≡ false) → (x && y && z) ≡ false
        three true y z e = e tt
        three false y z e = refl

  one_unfit : (o : Option (EntityTree × Bool)) (asked : EntityTree) → ((e : EntityTree) → fits_with same e asked ≡ false) → option_map_or (λ (e : EntityTree × Bool). fits_with same e.0 asked) o false ≡ false
  one_unfit None asked h = refl
  one_unfit (Some e) asked h = h e.0

  mutual
    pub unfit : (x y : EntityTree) → holds within.Everything (plain_entity y) ≡ true → fits_with same x y ≡ false
    unfit (IsInstance es) (IsInstance asked) h = all_unfit es asked h
    unfit (IsModule m) (IsModule n) h = absurd cc
    unfit x y h = entities_unequal x y h

    all_unfit : (es asked : Entries) → has_own (plain_entries asked) ≡ true → all_fit same es asked ≡ false
    all_unfit es no_entry h = absurd cc
    all_unfit es (entry name asked mark rest) h =
        either_holds (holds within.Everything (plain_entity asked) || false) (has_own (plain_entries rest)) h
        (λ here. first_false (option_map_or (λ (e : EntityTree × Bool). fits_with same e.0 asked) (under name es) false) (all_fit same es rest) (one_unfit (under name es) asked (λ e. unfit e asked (sym (or_nothing (holds within.Everything (plain_entity asked))) ∙ here))))
        (λ there. second_false (option_map_or (λ (e : EntityTree × Bool). fits_with same e.0 asked) (under name es) false) (all_fit same es rest) (all_unfit es rest there))
