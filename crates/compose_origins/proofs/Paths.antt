-- The type at a path of names in an entity.
use Rattle.std.proofs.Common.{◌≡◌, ℕ, zero, suc, Bool, true, false, cond, ◌&&◌, List, [], ◌∷◌, ◌++◌, Option, Some, None, refl, sym, ap, subst, ◌<◌, ◌∙◌, arith}
use Rattle.std.proofs.lemmas.Bool.{eq-eqb}
use Rattle.std.specs.Prelude.{nat_eq, nat_lt, bytes_eq, option_and_then, option_map, slice_get}
use Rattle.std.specs.List.{AllByRecursion}
use Rattle.std.specs.Option.{option_map_or}
use Rattle.comp_entity.specs.Entity.{Name, ValueTree, Value, EntityTree, IsType, IsInstance, Entries, no_entry, entry}
use Rattle.comp_entity.specs.Names.{Change, value_by, entity_by, entries_by}
use Rattle.comp_entity.specs.Fits.{same_name, values_equal, entities_equal, entries_equal, under, fits_with, all_fit}
use Rattle.comp_entity.specs.Places.{Path}
use Rattle.comp_coherence.specs.Coherence.{Names, OneTree, Coheres, AllCohere, inside_component, nowhere}
use Rattle.compose_origins.specs.Placed.{value_at}
use Rattle.comp_coherence.specs.TypeLaws.{left_of, right_of, label_is}

-- ---- lists

module _ {X : Type 0} (P : X → Type 0) where
  pub both : (xs ys : List X) → AllByRecursion P xs → AllByRecursion P ys → AllByRecursion P (xs ++ ys)
  both [] ys h k = k
  both (x ∷ xs) ys h k = (h.0, both xs ys h.1 k)

  pub front : (xs ys : List X) → AllByRecursion P (xs ++ ys) → AllByRecursion P xs
  front [] ys h = tt
  front (x ∷ xs) ys h = (h.0, front xs ys h.1)

  pub back : (xs ys : List X) → AllByRecursion P (xs ++ ys) → AllByRecursion P ys
  back [] ys h = h
  back (x ∷ xs) ys h = back xs ys h.1

  pub each : (xs : List X) → AllByRecursion P xs → (k : ℕ) (x : X) → slice_get xs k ≡ Some x → P x
  each [] h k x is = absurd cc
  each (y ∷ xs) h zero x is = subst P (let same : y ≡ x = cc in same) h.0
  each (y ∷ xs) h (suc k) x is = each xs h.1 k x is

-- ---- paths

abbrev pub at_path : Path → EntityTree → Option ValueTree
at_path = value_at

pub then_some : {X Y : Type 0} (f : X → Option Y) (o : Option X) (y : Y) → option_and_then f o ≡ Some y → (x : X) × (o ≡ Some x) × (f x ≡ Some y)
then_some f None y h = absurd cc
then_some f (Some x) y h = (x, refl, h)

pub map_some : {X Y : Type 0} (f : X → Y) (o : Option X) (y : Y) → option_map f o ≡ Some y → (x : X) × (o ≡ Some x) × (f x ≡ y)
map_some f None y h = absurd cc
map_some f (Some x) y h = (x, refl, cc)

pub some_is : {X : Type 0} (x y : X) → Some x ≡ Some y → x ≡ y
some_is x y h = cc

pub itself : (name : List ℕ) → bytes_eq name name ≡ true
itself [] = refl
itself (n ∷ name) = let first : nat_eq n n ≡ true = eq-eqb n n refl in let rest = itself name in λ i. first i && rest i

-- ---- equal and fitting entities

-- what is found under a name in an entry in front of others
pub front_or_rest : {P : Type 0} (name n : List ℕ) (e : EntityTree) (mark : Bool) (es : Entries) (x : EntityTree × Bool) → under name (entry n e mark es) ≡ Some x
    → (name ≡ n → (e, mark) ≡ x → P) → (bytes_eq name n ≡ false → under name es ≡ Some x → P) → P
front_or_rest {P = P} name n e mark es x is here later = by (bytes_eq name n) refl is
  where
    by : (b : Bool) → bytes_eq name n ≡ b → cond b (Some (e, mark)) (under name es) ≡ Some x → P
    by true same is = here (label_is name n same) (some_is (e, mark) x is)
    by false same is = later same is

abbrev pub FitsUnder : List ℕ → Entries → EntityTree → Type 0
FitsUnder name es f = (y : EntityTree × Bool) × (under name es ≡ Some y) × (fits_with same_name y.0 f ≡ true)

pub fit_found : (f : EntityTree) (fit : EntityTree → Bool) (o : Option (EntityTree × Bool)) → option_map_or (λ (e : EntityTree × Bool). fit e.0) o false ≡ true → (y : EntityTree × Bool) × (o ≡ Some y) × (fit y.0 ≡ true)
fit_found f fit None h = absurd cc
fit_found f fit (Some y) h = (y, refl, h)

fit_under : (name : List ℕ) (es fs : Entries) → all_fit same_name es fs ≡ true → (x : EntityTree × Bool) → under name fs ≡ Some x → FitsUnder name es x.0
fit_under name es no_entry h x is = absurd cc
fit_under name es (entry n f mark fs) h x is =
    let found = fit_found f (λ e. fits_with same_name e f) (under n es) (left_of _ _ h) in
    front_or_rest name n f mark fs x is
    (λ same whole. (found.0, ap (λ n. under n es) same ∙ found.1, ap (λ (x : EntityTree × Bool). fits_with same_name found.0.0 x.0) (sym whole) ∙ found.2))
    (λ other later. fit_under name es fs (right_of (option_map_or (λ (e : EntityTree × Bool). fits_with same_name e.0 f) (under n es) false) _ h) x later)

abbrev pub EqualAt : Path → EntityTree → ValueTree → Type 0
EqualAt path a t = (u : ValueTree) × (at_path path a ≡ Some u) × (values_equal same_name u t ≡ true)

-- at the end of a path stands a type of values, and further on an instance
leaf_is : (e : EntityTree) (t : ValueTree) → at_path [] e ≡ Some t → e ≡ IsType (Value t)
leaf_is (IsType (Value u)) t is = ap (λ t. IsType (Value t)) (some_is u t is)
leaf_is _ t is = absurd cc

abbrev IsOfInstance : EntityTree → Type 0
IsOfInstance e = (es : Entries) × (e ≡ IsInstance es)

instance_is : (name : List ℕ) (path : Path) (e : EntityTree) (t : ValueTree) → at_path (name ∷ path) e ≡ Some t → IsOfInstance e
instance_is name path (IsInstance es) t is = (es, refl)
instance_is name path _ t is = absurd cc

-- one name further on in an instance
further_at : (name : List ℕ) (path : Path) (a : EntityTree) (es : Entries) (y : EntityTree × Bool) (u : ValueTree) → a ≡ IsInstance es → under name es ≡ Some y → at_path path y.0 ≡ Some u → at_path (name ∷ path) a ≡ Some u
further_at name path a es y u is there at = ap (at_path (name ∷ path)) is ∙ ap (option_and_then (λ (e : EntityTree × Bool). at_path path e.0)) there ∙ at

fit_leaf : (a : EntityTree) (t : ValueTree) → fits_with same_name a (IsType (Value t)) ≡ true → EqualAt [] a t
fit_leaf (IsType (Value u)) t h = (u, refl, h)
fit_leaf _ t h = absurd cc

fit_instance : (a : EntityTree) (fs : Entries) → fits_with same_name a (IsInstance fs) ≡ true → IsOfInstance a
fit_instance (IsInstance es) fs h = (es, refl)
fit_instance _ fs h = absurd cc

-- where an entity fits, the type at a path is equal to what is asked there
pub fit_at : (path : Path) (a b : EntityTree) → fits_with same_name a b ≡ true → (t : ValueTree) → at_path path b ≡ Some t → EqualAt path a t
fit_at [] a b h t is = fit_leaf a t (subst (λ b. fits_with same_name a b ≡ true) (leaf_is b t is) h)
fit_at (name ∷ path) a b h t is =
    let fs = instance_is name path b t is in
    let k : fits_with same_name a (IsInstance fs.0) ≡ true = subst (λ b. fits_with same_name a b ≡ true) fs.1 h in
    let es = fit_instance a fs.0 k in
    let asked : at_path (name ∷ path) (IsInstance fs.0) ≡ Some t = ap (at_path (name ∷ path)) (sym fs.1) ∙ is in
    let x = then_some (λ (e : EntityTree × Bool). at_path path e.0) (under name fs.0) t asked in
    let y = fit_under name es.0 fs.0 (subst (λ a. fits_with same_name a (IsInstance fs.0) ≡ true) es.1 k) x.0 x.1 in
    let u = fit_at path y.0.0 x.0.0 y.2 t x.2 in
    (u.0, further_at name path a es.0 y.0 u.0 es.1 y.1 u.1, u.2)

equal_under : (name : List ℕ) (es fs : Entries) → entries_equal same_name es fs ≡ true → (x : EntityTree × Bool) → under name fs ≡ Some x → (y : EntityTree × Bool) × (under name es ≡ Some y) × (entities_equal same_name y.0 x.0 ≡ true)
equal_under name es no_entry h x is = absurd cc
equal_under name no_entry (entry n f q fs) h x is = absurd cc
equal_under name (entry m e p es) (entry n f q fs) h x is =
    let both = left_of (bytes_eq m n && entities_equal same_name e f) (entries_equal same_name es fs) h in
    let names = label_is m n (left_of (bytes_eq m n) (entities_equal same_name e f) both) in
    front_or_rest name n f q fs x is
    (λ same whole. (
      (e, p),
      ap (λ b. cond b (Some (e, p)) (under name es)) (ap (λ k. bytes_eq k m) (same ∙ sym names) ∙ itself m),
      ap (λ (x : EntityTree × Bool). entities_equal same_name e x.0) (sym whole) ∙ right_of (bytes_eq m n) (entities_equal same_name e f) both,
    ))
    (λ other later.
    (let y = equal_under name es fs (right_of (bytes_eq m n && entities_equal same_name e f) (entries_equal same_name es fs) h) x later in
    (y.0, ap (λ b. cond b (Some (e, p)) (under name es)) (ap (bytes_eq name) names ∙ other) ∙ y.1, y.2)))

equal_leaf : (a : EntityTree) (t : ValueTree) → entities_equal same_name a (IsType (Value t)) ≡ true → EqualAt [] a t
equal_leaf (IsType (Value u)) t h = (u, refl, h)
equal_leaf _ t h = absurd cc

equal_instance : (a : EntityTree) (fs : Entries) → entities_equal same_name a (IsInstance fs) ≡ true → IsOfInstance a
equal_instance (IsInstance es) fs h = (es, refl)
equal_instance _ fs h = absurd cc

-- the same where an entity is equal
pub equal_at : (path : Path) (a b : EntityTree) → entities_equal same_name a b ≡ true → (t : ValueTree) → at_path path b ≡ Some t → EqualAt path a t
equal_at [] a b h t is = equal_leaf a t (subst (λ b. entities_equal same_name a b ≡ true) (leaf_is b t is) h)
equal_at (name ∷ path) a b h t is =
    let fs = instance_is name path b t is in
    let k : entities_equal same_name a (IsInstance fs.0) ≡ true = subst (λ b. entities_equal same_name a b ≡ true) fs.1 h in
    let es = equal_instance a fs.0 k in
    let asked : at_path (name ∷ path) (IsInstance fs.0) ≡ Some t = ap (at_path (name ∷ path)) (sym fs.1) ∙ is in
    let x = then_some (λ (e : EntityTree × Bool). at_path path e.0) (under name fs.0) t asked in
    let y = equal_under name es.0 fs.0 (subst (λ a. entities_equal same_name a (IsInstance fs.0) ≡ true) es.1 k) x.0 x.1 in
    let u = equal_at path y.0.0 x.0.0 y.2 t x.2 in
    (u.0, further_at name path a es.0 y.0 u.0 es.1 y.1 u.1, u.2)

-- ---- changed names

module _ (c : Change) where
  entry_by : EntityTree × Bool → EntityTree × Bool
  entry_by e = (entity_by c 0 e.0, c.mark e.1)

  choose_by : {X Y : Type 0} (f : X → Y) (b : Bool) (x : X) (y : Option X) → cond b (Some (f x)) (option_map f y) ≡ option_map f (cond b (Some x) y)
  choose_by f true x y = refl
  choose_by f false x y = refl

  under_by : (name : List ℕ) (es : Entries) → under name (entries_by c 0 es) ≡ option_map entry_by (under name es)
  unfolding entry_by
  under_by name no_entry = refl
  under_by name (entry n e mark es) = ap (cond (bytes_eq name n) (Some (entry_by (e, mark)))) (under_by name es) ∙ choose_by entry_by (bytes_eq name n) (e, mark) (under name es)

  pub at_by : (path : Path) (e : EntityTree) → at_path path (entity_by c 0 e) ≡ option_map (value_by c 0) (at_path path e)
  unfolding entry_by
  at_by [] (IsType (Value t)) = refl
  at_by (name ∷ path) (IsInstance es) = ap (option_and_then (λ (e : EntityTree × Bool). at_path path e.0)) (under_by name es) ∙ inner (under name es) (λ e. at_by path e)
    where
      inner : (o : Option (EntityTree × Bool)) → ((e : EntityTree) → at_path path (entity_by c 0 e) ≡ option_map (value_by c 0) (at_path path e))
          → option_and_then (λ (e : EntityTree × Bool). at_path path e.0) (option_map entry_by o) ≡ option_map (value_by c 0) (option_and_then (λ (e : EntityTree × Bool). at_path path e.0) o)
      inner None further = refl
      inner (Some x) further = further x.0
  at_by _ _ = refl

-- ---- what coheres

under_coheres : (names : Names) (name : List ℕ) (es : Entries) → AllCohere names es → (x : EntityTree × Bool) → under name es ≡ Some x → Coheres names x.0
under_coheres names name no_entry h x is = absurd cc
under_coheres names name (entry n e mark es) h x is =
    front_or_rest name n e mark es x is
    (λ same whole. subst (λ (x : EntityTree × Bool). Coheres names x.0) whole h.0)
    (λ other later. under_coheres names name es h.1 x later)

pub at_coheres : (names : Names) (path : Path) (e : EntityTree) → Coheres names e → (t : ValueTree) → at_path path e ≡ Some t → OneTree names t
at_coheres names [] (IsType (Value u)) h t is = subst (OneTree names) (some_is u t is) h
at_coheres names (name ∷ path) (IsInstance es) h t is =
    let x = then_some (λ (e : EntityTree × Bool). at_path path e.0) (under name es) t is in
    at_coheres names path x.0.0 (under_coheres names name es h x.0 x.1) t x.2
at_coheres _ _ _ h t is = absurd cc

-- what stands for something around nothing is of the component
pub near : (own : Name → Option ValueTree) (n : Name) (t : ValueTree) → (inside_component own nowhere).tree n ≡ Some t → (n.out < 2) × (own n ≡ Some t)
near own n t is = by (nat_lt n.out 2) refl is
  where
    by : (b : Bool) → nat_lt n.out 2 ≡ b → cond b (own n) None ≡ Some t → (n.out < 2) × (own n ≡ Some t)
    by true lt is = ((let less : n.out < 2 = grind arith in less), is)
    by false ge is = absurd cc
