-- What merges keeps the types of both, at each path.
use Rattle.std.proofs.Common.{◌≡◌, ℕ, zero, suc, ◌+◌, Bool, true, false, cond, List, [], ◌∷◌, Option, Some, None, refl, sym, ap, subst, ◌∙◌, arith}
use Rattle.std.specs.Prelude.{bytes_eq, find, is_none, not, is_some, option_and_then, option_map, slice_get}
use Rattle.std.specs.List.{AllByRecursion, fold}
use Rattle.std.specs.Option.{option_map_or}
use Rattle.comp_entity.specs.Entity.{ValueTree, EntityTree, IsType, IsInstance, Entries, no_entry, entry, ShapeTree}
use Rattle.comp_entity.specs.Fits.{same_name, entities_equal, under}
use Rattle.comp_entity.specs.Places.{Path}
use Rattle.comp_coherence.specs.Coherence.{Names, bare_value, Coheres, AllCohere}
use Rattle.compose_left.specs.Merging.{is_absent, followed_by, new_in, union, equal_or_absent, equal_on_both, agree}
use Rattle.compose_left.specs.Origins.{placed}
use Rattle.compose_left.specs.Wiring.{Wiring, wire_into}
use Rattle.compose_order.specs.Needs.{LeftTree}
use Rattle.compose_check.specs.Open.{Asked, agrees, all_agree, asked_by, asked_from, asked_by_all, is_named, left_alone, left_open, lefts, merged_with, with_asked}
use Rattle.comp_coherence.specs.TypeLaws.{left_of, right_of, value_is}
use Rattle.compose_origins.specs.Placed.{PlacedCohere}
use Rattle.compose_origins.proofs.Paths.{at_path, back, both, equal_at, front, front_or_rest, itself, some_is, then_some}

-- ---- what coheres

followed_coheres : (names : Names) (es fs : Entries) → AllCohere names es → AllCohere names fs → AllCohere names (followed_by es fs)
followed_coheres names no_entry fs h k = k
followed_coheres names (entry name e mark es) fs h k = (h.0, followed_coheres names es fs h.1 k)

new_coheres : (names : Names) (es fs : Entries) → AllCohere names fs → AllCohere names (new_in es fs)
new_coheres names es no_entry k = tt
new_coheres names es (entry name f mark fs) k = by (is_absent name es) (new_coheres names es fs k.1)
  where
    by : (b : Bool) → AllCohere names (new_in es fs) → AllCohere names (cond b (entry name f mark (new_in es fs)) (new_in es fs))
    by true rest = (k.0, rest)
    by false rest = rest

pub union_coheres : (names : Names) (e f : EntityTree) → Coheres names e → Coheres names f → Coheres names (union e f)
union_coheres names (IsInstance es) (IsInstance fs) h k = followed_coheres names es (new_in es fs) h (new_coheres names es fs k)
union_coheres names _ _ h k = h

-- ---- types at paths

under_front : (name : List ℕ) (es rest : Entries) (x : EntityTree × Bool) → under name es ≡ Some x → under name (followed_by es rest) ≡ Some x
under_front name no_entry rest x is = absurd cc
under_front name (entry n e mark es) rest x is = by (bytes_eq name n) is (under_front name es rest x)
  where
    by : (b : Bool) → cond b (Some (e, mark)) (under name es) ≡ Some x → (under name es ≡ Some x → under name (followed_by es rest) ≡ Some x) → cond b (Some (e, mark)) (under name (followed_by es rest)) ≡ Some x
    by true is further = is
    by false is further = further is

pub under_behind : (name : List ℕ) (es rest : Entries) → under name es ≡ None → under name (followed_by es rest) ≡ under name rest
under_behind name no_entry rest is = refl
under_behind name (entry n e mark es) rest is = by (bytes_eq name n) is (under_behind name es rest)
  where
    by : (b : Bool) → cond b (Some (e, mark)) (under name es) ≡ None → (under name es ≡ None → under name (followed_by es rest) ≡ under name rest) → cond b (Some (e, mark)) (under name (followed_by es rest)) ≡ under name rest
    by true is further = absurd cc
    by false is further = further is

absent_is : (name n : List ℕ) (es : Entries) → name ≡ n → under name es ≡ None → is_absent n es ≡ true
absent_is name n es same is = ap (λ (o : Option (EntityTree × Bool)). not (is_some o)) (ap (λ k. under k es) (sym same) ∙ is)

under_new : (name : List ℕ) (es fs : Entries) (x : EntityTree × Bool) → under name es ≡ None → under name fs ≡ Some x → under name (new_in es fs) ≡ Some x
under_new name es no_entry x none is = is
under_new name es (entry n f mark fs) x none is =
    front_or_rest name n f mark fs x is
    (λ same whole. (
    ap (λ b. under name (cond b (entry n f mark (new_in es fs)) (new_in es fs))) (absent_is name n es same none)
    ∙ ap (λ b. cond b (Some (f, mark)) (under name (new_in es fs))) (ap (bytes_eq name) (sym same) ∙ itself name)
    ∙ ap Some whole))
    (λ other later. by other (is_absent n es) (under_new name es fs x none later))
  where
    by : bytes_eq name n ≡ false → (b : Bool) → under name (new_in es fs) ≡ Some x → under name (cond b (entry n f mark (new_in es fs)) (new_in es fs)) ≡ Some x
    by other true rest = ap (λ b. cond b (Some (f, mark)) (under name (new_in es fs))) other ∙ rest
    by other false rest = rest

agree_under : (name : List ℕ) (es fs : Entries) → equal_on_both es fs ≡ true → (x y : EntityTree × Bool) → under name fs ≡ Some x → under name es ≡ Some y → entities_equal same_name y.0 x.0 ≡ true
agree_under name es no_entry h x y is there = absurd cc
agree_under name es (entry n f mark fs) h x y is there =
    front_or_rest name n f mark fs x is
    (λ same whole. (
    ap (λ (x : EntityTree × Bool). entities_equal same_name y.0 x.0) (sym whole)
    ∙ sym (ap (equal_or_absent f) (ap (λ k. under k es) (sym same) ∙ there))
    ∙ left_of (equal_or_absent f (under n es)) (equal_on_both es fs) h))
    (λ other later. agree_under name es fs (right_of (equal_or_absent f (under n es)) (equal_on_both es fs) h) x y later there)

pub union_left : (path : Path) (e f : EntityTree) (t : ValueTree) → at_path path e ≡ Some t → at_path path (union e f) ≡ Some t
union_left (name ∷ path) (IsInstance es) (IsInstance fs) t is =
    let x = then_some (λ (e : EntityTree × Bool). at_path path e.0) (under name es) t is in
    ap (option_and_then (λ (e : EntityTree × Bool). at_path path e.0)) (under_front name es (new_in es fs) x.0 x.1) ∙ x.2
union_left (name ∷ path) (IsInstance es) _ t is = is
union_left [] (IsType x) f t is = is
union_left _ _ _ t is = absurd cc

abbrev pub TypeAt : Path → EntityTree → ValueTree → Type 0
TypeAt path e t = (u : ValueTree) × (at_path path e ≡ Some u) × (bare_value u ≡ bare_value t)

equal_type : (path : Path) (e f : EntityTree) → entities_equal same_name e f ≡ true → (t : ValueTree) → at_path path f ≡ Some t → TypeAt path e t
equal_type path e f h t is = let u = equal_at path e f h t is in (u.0, u.1, value_is u.0 t u.2)

pub union_right : (path : Path) (e f : EntityTree) → agree e f ≡ true → (t : ValueTree) → at_path path f ≡ Some t → TypeAt path (union e f) t
union_right [] (IsInstance es) (IsInstance fs) h t is = absurd cc
union_right (name ∷ path) (IsInstance es) (IsInstance fs) h t is =
    let x = then_some (λ (e : EntityTree × Bool). at_path path e.0) (under name fs) t is in
    by (under name es) refl x.0 x.1 x.2
  where
    by : (o : Option (EntityTree × Bool)) → under name es ≡ o → (x : EntityTree × Bool) → under name fs ≡ Some x → at_path path x.0 ≡ Some t → TypeAt (name ∷ path) (IsInstance (followed_by es (new_in es fs))) t
    by None none x there at =
        (t, ap (option_and_then (λ (e : EntityTree × Bool). at_path path e.0)) (under_behind name es (new_in es fs) none ∙ under_new name es fs x none there) ∙ at, refl)
    by (Some y) found x there at =
        let u = equal_type path y.0 x.0 (agree_under name es fs h x y there found) t at in
        (u.0, ap (option_and_then (λ (e : EntityTree × Bool). at_path path e.0)) (under_front name es (new_in es fs) y found) ∙ u.1, u.2)
union_right path e f h t is = equal_type path e f h t is

-- ---- left imports

-- the type at a path of the left import of a name
abbrev pub type_in : Path → LeftTree → Option ValueTree
type_in path l = option_map bare_value (at_path path l.entity)

abbrev pub left_type : List ℕ → Path → List LeftTree → Option ValueTree
left_type name path ls = option_and_then (type_in path) (find (is_named name) ls)

merged_keeps : (path : Path) (l : LeftTree) (e : EntityTree) (u : ValueTree) → type_in path l ≡ Some u → type_in path (merged_with l e) ≡ Some u
merged_keeps path l e u is = by (at_path path l.entity) refl is
  where
    by : (o : Option ValueTree) → at_path path l.entity ≡ o → option_map bare_value o ≡ Some u → type_in path (merged_with l e) ≡ Some u
    by None none is = absurd cc
    by (Some t) there is = ap (option_map bare_value) (union_left path l.entity e t there) ∙ is

kept : (name : List ℕ) (path : Path) (ls : List LeftTree) (x : Asked) (u : ValueTree) → left_type name path ls ≡ Some u → left_type name path (with_asked ls x) ≡ Some u
kept name path [] x u is = absurd cc
kept name path (l ∷ ls) x u is = by (bytes_eq x.0 l.name) (bytes_eq name l.name) refl is (kept name path ls x u)
  where
    by : (b d : Bool) → bytes_eq name l.name ≡ d → option_and_then (type_in path) (cond d (Some l) (find (is_named name) ls)) ≡ Some u
        → (left_type name path ls ≡ Some u → left_type name path (with_asked ls x) ≡ Some u)
        → left_type name path (cond b (merged_with l x.1 ∷ ls) (l ∷ with_asked ls x)) ≡ Some u
    by true true same is rest = ap (λ d. option_and_then (type_in path) (cond d (Some (merged_with l x.1)) (find (is_named name) ls))) same ∙ merged_keeps path l x.1 u is
    by true false same is rest = ap (λ d. option_and_then (type_in path) (cond d (Some (merged_with l x.1)) (find (is_named name) ls))) same ∙ is
    by false true same is rest = ap (λ d. option_and_then (type_in path) (cond d (Some l) (find (is_named name) (with_asked ls x)))) same ∙ is
    by false false same is rest = ap (λ d. option_and_then (type_in path) (cond d (Some l) (find (is_named name) (with_asked ls x)))) same ∙ rest is

added : (path : Path) (ls : List LeftTree) (x : Asked) (t : ValueTree) → agrees ls x ≡ true → at_path path x.1 ≡ Some t → left_type x.0 path (with_asked ls x) ≡ Some (bare_value t)
added path [] x t agreed is = ap (λ d. option_and_then (type_in path) (cond d (Some (left_alone x)) None)) (itself x.0) ∙ ap (option_map bare_value) is
added path (l ∷ ls) x t agreed is = by (bytes_eq x.0 l.name) refl agreed (λ h. added path ls x t h is)
  where
    by : (b : Bool) → bytes_eq x.0 l.name ≡ b → option_map_or (λ (l : LeftTree). agree l.entity x.1) (cond b (Some l) (find (is_named x.0) ls)) true ≡ true
        → (agrees ls x ≡ true → left_type x.0 path (with_asked ls x) ≡ Some (bare_value t))
        → left_type x.0 path (cond b (merged_with l x.1 ∷ ls) (l ∷ with_asked ls x)) ≡ Some (bare_value t)
    by true same agreed rest =
        let u = union_right path l.entity x.1 agreed t is in
        ap (λ d. option_and_then (type_in path) (cond d (Some (merged_with l x.1)) (find (is_named x.0) ls))) same ∙ ap (option_map bare_value) u.1 ∙ ap Some u.2
    by false same agreed rest = ap (λ d. option_and_then (type_in path) (cond d (Some l) (find (is_named x.0) (with_asked ls x)))) same ∙ rest agreed

all_kept : (name : List ℕ) (path : Path) (xs : List Asked) (ls : List LeftTree) (u : ValueTree) → left_type name path ls ≡ Some u → left_type name path (fold with_asked ls xs) ≡ Some u
all_kept name path [] ls u is = is
all_kept name path (x ∷ xs) ls u is = all_kept name path xs (with_asked ls x) u (kept name path ls x u is)

-- what is asked stands in these left imports
abbrev pub StandsIn : List LeftTree → Asked → Type 0
StandsIn ls x = (path : Path) (t : ValueTree) → at_path path x.1 ≡ Some t → left_type x.0 path ls ≡ Some (bare_value t)

all_stand : (xs : List Asked) (ls : List LeftTree) → all_agree ls xs ≡ true → AllByRecursion (StandsIn (fold with_asked ls xs)) xs
all_stand [] ls h = tt
all_stand (x ∷ xs) ls h = (
  λ path t is. all_kept x.0 path xs (with_asked ls x) (bare_value t) (added path ls x t (left_of (agrees ls x) (all_agree (with_asked ls x) xs) h) is),
  all_stand xs (with_asked ls x) (right_of (agrees ls x) (all_agree (with_asked ls x) xs) h),
)

-- ---- what instances ask

module _ (w : Wiring) (P : Asked → Type 0) where
  of_import : (i j : ℕ) (e : Asked) → wire_into w.wires i j ≡ None → AllByRecursion P (asked_by w i j e) → P (e.0, placed w i e.1)
  of_import i j e none h = (let all : AllByRecursion P (cond true ((e.0, placed w i e.1) ∷ []) []) = subst (λ b. AllByRecursion P (cond b ((e.0, placed w i e.1) ∷ []) [])) (ap is_none none) h in all.0)

  of_instance : (i j : ℕ) (es : List Asked) (k m : ℕ) (e : Asked) → m ≡ j + k → slice_get es k ≡ Some e → wire_into w.wires i m ≡ None → AllByRecursion P (asked_from w i j es) → P (e.0, placed w i e.1)
  of_instance i j [] k m e at there none h = absurd cc
  of_instance i j (f ∷ es) zero m e at there none h =
      let first : j ≡ m = omega (arith, at) in
      subst (λ (e : Asked). P (e.0, placed w i e.1)) (some_is f e there)
      (of_import i j f (ap (wire_into w.wires i) first ∙ none) (front P (asked_by w i j f) (asked_from w i (suc j) es) h))
  of_instance i j (f ∷ es) (suc k) m e at there none h = of_instance i (suc j) es k m e (omega (arith, at)) there none (back P (asked_by w i j f) (asked_from w i (suc j) es) h)

  of_all : (i : ℕ) (ss : List ShapeTree) (k m : ℕ) (s : ShapeTree) → m ≡ i + k → slice_get ss k ≡ Some s → (j : ℕ) (e : Asked) → slice_get s.imports j ≡ Some e → wire_into w.wires m j ≡ None → AllByRecursion P (asked_by_all w i ss) → P (e.0, placed w m e.1)
  of_all i [] k m s at there j e import none h = absurd cc
  of_all i (r ∷ ss) zero m s at there j e import none h =
      let first : m ≡ i = omega (arith, at) in
      let same : r ≡ s = some_is r s there in
      of_instance m 0 s.imports j j e (omega arith) import none
      (subst (λ i. AllByRecursion P (asked_from w i 0 s.imports)) (sym first)
      (subst (λ (s : ShapeTree). AllByRecursion P (asked_from w i 0 s.imports)) same (front P (asked_from w i 0 r.imports) (asked_by_all w (suc i) ss) h)))
  of_all i (r ∷ ss) (suc k) m s at there j e import none h = of_all (suc i) ss k m s (omega (arith, at)) there j e import none (back P (asked_from w i 0 r.imports) (asked_by_all w (suc i) ss) h)

  pub of_open : (i : ℕ) (s : ShapeTree) → slice_get w.shapes i ≡ Some s → (j : ℕ) (e : Asked) → slice_get s.imports j ≡ Some e → wire_into w.wires i j ≡ None → AllByRecursion P (left_open w) → P (e.0, placed w i e.1)
  of_open i s there j e import none h = of_all 0 w.shapes i i s (omega arith) there j e import none h

pub open_stands : (w : Wiring) → all_agree [] (left_open w) ≡ true → (i : ℕ) (s : ShapeTree) → slice_get w.shapes i ≡ Some s → (j : ℕ) (e : Asked) → slice_get s.imports j ≡ Some e → wire_into w.wires i j ≡ None → StandsIn (lefts w) (e.0, placed w i e.1)
open_stands w h i s there j e import none = of_open w (StandsIn (lefts w)) i s there j e import none (all_stand (left_open w) [] h)

-- ---- left imports cohere

asked_coheres : (names : Names) (ls : List LeftTree) (x : Asked) → AllByRecursion (λ (l : LeftTree). Coheres names l.entity) ls → Coheres names x.1 → AllByRecursion (λ (l : LeftTree). Coheres names l.entity) (with_asked ls x)
asked_coheres names [] x h k = (k, tt)
asked_coheres names (l ∷ ls) x h k = by (bytes_eq x.0 l.name) (asked_coheres names ls x h.1 k)
  where
    by : (b : Bool) → AllByRecursion (λ (l : LeftTree). Coheres names l.entity) (with_asked ls x) → AllByRecursion (λ (l : LeftTree). Coheres names l.entity) (cond b (merged_with l x.1 ∷ ls) (l ∷ with_asked ls x))
    by true rest = (union_coheres names l.entity x.1 h.0 k, h.1)
    by false rest = (h.0, rest)

pub merged_coheres : (names : Names) (xs : List Asked) (ls : List LeftTree) → AllByRecursion (λ (l : LeftTree). Coheres names l.entity) ls → AllByRecursion (λ (x : Asked). Coheres names x.1) xs → AllByRecursion (λ (l : LeftTree). Coheres names l.entity) (fold with_asked ls xs)
merged_coheres names [] ls h k = h
merged_coheres names (x ∷ xs) ls h k = merged_coheres names xs (with_asked ls x) (asked_coheres names ls x h k.0) k.1

module _ (P : Asked → Type 0) (w : Wiring) where
  abbrev AllPlaced : ℕ → List (List ℕ × EntityTree) → Type 0
  AllPlaced i es = AllByRecursion (λ (e : List ℕ × EntityTree). P (e.0, placed w i e.1)) es

  import_asks : (i j : ℕ) (e : Asked) → P (e.0, placed w i e.1) → AllByRecursion P (asked_by w i j e)
  import_asks i j e h = by (is_none (wire_into w.wires i j))
    where
      by : (b : Bool) → AllByRecursion P (cond b ((e.0, placed w i e.1) ∷ []) [])
      by true = (h, tt)
      by false = tt

  instance_asks : (i j : ℕ) (es : List Asked) → AllPlaced i es → AllByRecursion P (asked_from w i j es)
  instance_asks i j [] h = tt
  instance_asks i j (e ∷ es) h = both P (asked_by w i j e) (asked_from w i (suc j) es) (import_asks i j e h.0) (instance_asks i (suc j) es h.1)

  all_ask : (i : ℕ) (ss : List ShapeTree) → ((k m : ℕ) (s : ShapeTree) → m ≡ i + k → slice_get ss k ≡ Some s → AllPlaced m s.imports) → AllByRecursion P (asked_by_all w i ss)
  all_ask i [] h = tt
  all_ask i (s ∷ ss) h =
      both P (asked_from w i 0 s.imports) (asked_by_all w (suc i) ss)
      (instance_asks i 0 s.imports (h 0 i s (omega arith) refl))
      (all_ask (suc i) ss (λ k m r at there. h (suc k) m r (omega (arith, at)) there))

  -- what each import of an instance is, all that is left open is
  pub open_asks : ((i : ℕ) (s : ShapeTree) → slice_get w.shapes i ≡ Some s → AllPlaced i s.imports) → AllByRecursion P (left_open w)
  open_asks h = all_ask 0 w.shapes (λ k m s at there. (let same : k ≡ m = omega (arith, at) in h m s (ap (slice_get w.shapes) (sym same) ∙ there)))

pub lefts_cohere : (names : Names) (w : Wiring) → ((i : ℕ) (s : ShapeTree) → slice_get w.shapes i ≡ Some s → PlacedCohere names w i s.imports) → AllByRecursion (λ (l : LeftTree). Coheres names l.entity) (lefts w)
lefts_cohere names w h = merged_coheres names (left_open w) [] tt (open_asks (λ (x : Asked). Coheres names x.1) w h)
