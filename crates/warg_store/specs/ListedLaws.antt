-- Packages that were gathered one by one are all packages. These are proofs: the definitions stand in `Listed`.
use Rattle.std.proofs.Common.{◌≡◌, ◌≢◌, ◌&&◌, ℕ, zero, suc, Bool, true, false, true≢false, cond, List, [], ◌∷◌, ◌++◌, map, All, Contains, bytes_eq, Some, None, refl, sym, ap, ap₂, subst, ◌∙◌, arith, inl, inr}
use Rattle.std.specs.Cmp.{IsEquivalence}
use Rattle.std.specs.Cmp.Lexicographic.{nat_list_eq_equiv}
use Rattle.std.specs.List.{AllByRecursion, IsDistinct}
use Rattle.std.proofs.lemmas.Bool.{and_parts, cases_Bool}
use Rattle.std.proofs.lemmas.List.{map-append}
use Rattle.std.proofs.lemmas.List.Elements.{All-append, All-from_recursion, All-nil, Contains-append_right, recursion_from_All}
use Rattle.std.proofs.lemmas.Map.Keys.{IsDistinct-cons, IsDistinct-head, IsDistinct-tail}
use Rattle.std.proofs.lemmas.Slice.Eq.{bytes_eq-Decides}
use Rattle.warg_hash.specs.Hash.{package_log_id}
use Rattle.warg_info.specs.declared.package.PackageInfo.{PackageInfo}
use Rattle.warg_info.specs.Info.{IsSoundPackage}
use Rattle.warg_store.specs.Entry.{Entry, Whole, Unreadable}
use Rattle.warg_store.specs.Held.{NamedInfo, Package, Registry, is_package, is_registry, named_info, package_key}
use Rattle.warg_store.specs.Listed.{AreAllPackages, entry_under}

-- what is kept of a package, with the registry that has it
abbrev pub Gathered : Type 0
Gathered = Registry × NamedInfo

abbrev pub gathered_key : Gathered → Package
gathered_key g = package_key g.0 g.1.name

-- what was gathered of a registry
abbrev pub gathered_of : List Gathered → Registry → List NamedInfo
gathered_of [] r = []
gathered_of (g ∷ gs) r = cond (is_registry g.0 r) (g.1 ∷ gathered_of gs r) (gathered_of gs r)

-- each of all packages was gathered once
pub record AreGathered (held : Package → Entry NamedInfo) (gs : List Gathered) : Type 0 where
  pub whole : All (λ g. held (gathered_key g) ≡ Whole g.1) gs
  pub all : (p : Package) (found : NamedInfo) → held p ≡ Whole found → Contains gs (p.0, found)
  pub readable : (p : Package) → entry_under p.1 (held p) ≢ Unreadable
  pub distinct : IsDistinct is_package (map gathered_key gs)

-- ---- one more

added : {X : Type 0} (a b : Bool) (x y : X) (all more : List X) → all ≡ more ++ cond b (y ∷ []) [] → cond a (x ∷ all) all ≡ cond a (x ∷ more) more ++ cond b (y ∷ []) []
added true b x y all more is = ap (λ l. x ∷ l) is
added false b x y all more is = is

pub gathered_more : (gs : List Gathered) (g : Gathered) (r : Registry) → gathered_of (gs ++ g ∷ []) r ≡ gathered_of gs r ++ cond (is_registry g.0 r) (g.1 ∷ []) []
gathered_more [] g r = refl
gathered_more (x ∷ gs) g r = added (is_registry x.0 r) (is_registry g.0 r) x.1 g.1 (gathered_of (gs ++ g ∷ []) r) (gathered_of gs r) (gathered_more gs g r)

-- ---- keys

pub registry_is : (a b : Registry) → is_registry a b ≡ true → a ≡ b
registry_is None None e = refl
registry_is None (Some b) e = absurd (true≢false (sym e))
registry_is (Some a) None e = absurd (true≢false (sym e))
registry_is (Some a) (Some b) e = ap Some ((bytes_eq-Decides a b).0 e)

pub registry_own : (a : Registry) → is_registry a a ≡ true
registry_own None = refl
registry_own (Some a) = nat_list_eq_equiv.refl a

registries_symm : (a b : Registry) → is_registry a b ≡ is_registry b a
registries_symm None None = refl
registries_symm None (Some b) = refl
registries_symm (Some a) None = refl
registries_symm (Some a) (Some b) = nat_list_eq_equiv.symm a b

both : (a b : Bool) → a ≡ true → b ≡ true → (a && b) ≡ true
both true b p q = q
both false b p q = absurd (true≢false (sym p))

pub package_is : (p q : Package) → is_package p q ≡ true → p ≡ q
package_is p q e =
    let parts = and_parts (is_registry p.0 q.0) (bytes_eq p.1 q.1) e in
    let r = registry_is p.0 q.0 parts.0 in
    let id = (bytes_eq-Decides p.1 q.1).0 parts.1 in
    (λ i. (r i, id i))

pub package_equiv : IsEquivalence is_package
package_equiv = record {
  refl = λ p. both _ _ (registry_own p.0) (nat_list_eq_equiv.refl p.1);
  symm = λ p q. ap₂ (λ (a b : Bool). a && b) (registries_symm p.0 q.0) (nat_list_eq_equiv.symm p.1 q.1);
  congr = λ p q k e. ap (λ (x : Package). is_package x k) (package_is p q e);
}

not_both : (a b : Bool) → (a && b) ≡ false → a ≡ true → b ≡ true → ⊥
not_both true b e p q = true≢false (sym q ∙ e)
not_both false b e p q = true≢false (sym p)

-- ---- what is listed is held

module _ {X : Type 0} (P : X → Type 0) (x : X) (xs : List X) where
  all_with : (b : Bool) → (b ≡ true → P x) → AllByRecursion P xs → AllByRecursion P (cond b (x ∷ xs) xs)
  all_with true here rest = (here refl, rest)
  all_with false here rest = rest

held_of : (held : Package → Entry NamedInfo) (gs : List Gathered) (r : Registry) → AllByRecursion (λ g. held (gathered_key g) ≡ Whole g.1) gs → AllByRecursion (λ found. held (package_key r found.name) ≡ Whole found) (gathered_of gs r)
held_of held [] r h = tt
held_of held (g ∷ gs) r h =
    all_with (λ found. held (package_key r found.name) ≡ Whole found) g.1 (gathered_of gs r) (is_registry g.0 r)
    (λ is. ap (λ (k : Registry). held (package_key k g.1.name)) (sym (registry_is g.0 r is)) ∙ h.0)
    (held_of held gs r h.1)

-- ---- what was gathered is listed

first_of_all : (x g : Gathered) (xs : List NamedInfo) (b : Bool) → is_registry x.0 g.0 ≡ b → x ≡ g → Contains (cond b (x.1 ∷ xs) xs) g.1
first_of_all x g xs true same is = (zero, omega arith, ap (λ (y : Gathered). y.1) is)
first_of_all x g xs false other is = absurd (true≢false (sym (ap (λ (y : Gathered). is_registry y.0 g.0) is ∙ registry_own g.0) ∙ other))

behind : {X : Type 0} (b : Bool) (x y : X) (xs : List X) → Contains xs y → Contains (cond b (x ∷ xs) xs) y
behind true x y xs h = Contains-append_right (x ∷ []) xs y h
behind false x y xs h = h

listed_too : (gs : List Gathered) (g : Gathered) → Contains gs g → Contains (gathered_of gs g.0) g.1
listed_too [] g h = absurd (omega (arith, h.1))
listed_too (x ∷ gs) g (zero, lt, is) = first_of_all x g (gathered_of gs g.0) (is_registry x.0 g.0) refl is
listed_too (x ∷ gs) g (suc k, lt, is) = behind (is_registry x.0 g.0) x.1 g.1 (gathered_of gs g.0) (listed_too gs g (k, omega arith, is))

-- ---- names differ

abbrev name_of : NamedInfo → List ℕ
name_of found = found.name

other_name : (r : Registry) (g x : Gathered) → is_registry g.0 r ≡ true → is_registry x.0 r ≡ true → is_package (gathered_key g) (gathered_key x) ≡ false → bytes_eq g.1.name x.1.name ≡ false
other_name r g x of_g of_x apart =
    elim (cases_Bool (bytes_eq g.1.name x.1.name)) [
      | inl t ↦ absurd (not_both (is_registry g.0 x.0) (bytes_eq (package_log_id g.1.name) (package_log_id x.1.name)) apart
          (ap (λ (k : Registry). is_registry g.0 k) (registry_is x.0 r of_x) ∙ of_g)
          ((bytes_eq-Decides _ _).1 (ap package_log_id ((bytes_eq-Decides _ _).0 t))))
      | inr f ↦ f
    ]

names_with : (P : List ℕ → Type 0) (x : NamedInfo) (xs : List NamedInfo) (b : Bool) → (b ≡ true → P x.name) → AllByRecursion P (map name_of xs) → AllByRecursion P (map name_of (cond b (x ∷ xs) xs))
names_with P x xs true here rest = (here refl, rest)
names_with P x xs false here rest = rest

other_names : (r : Registry) (g : Gathered) (gs : List Gathered) → is_registry g.0 r ≡ true → AllByRecursion (λ k. is_package (gathered_key g) k ≡ false) (map gathered_key gs)
    → AllByRecursion (λ name. bytes_eq g.1.name name ≡ false) (map name_of (gathered_of gs r))
other_names r g [] of_g h = tt
other_names r g (x ∷ gs) of_g h =
    names_with (λ name. bytes_eq g.1.name name ≡ false) x.1 (gathered_of gs r) (is_registry x.0 r)
    (λ of_x. other_name r g x of_g of_x h.0)
    (other_names r g gs of_g h.1)

distinct_with : (x : NamedInfo) (xs : List NamedInfo) (b : Bool) → (b ≡ true → AllByRecursion (λ name. bytes_eq x.name name ≡ false) (map name_of xs)) → IsDistinct bytes_eq (map name_of xs) → IsDistinct bytes_eq (map name_of (cond b (x ∷ xs) xs))
distinct_with x xs true here rest = IsDistinct-cons bytes_eq x.name (map name_of xs) (here refl) rest
distinct_with x xs false here rest = rest

no_names : IsDistinct bytes_eq []
unfolding IsDistinct
no_names = tt

names_differ : (r : Registry) (gs : List Gathered) → IsDistinct is_package (map gathered_key gs) → IsDistinct bytes_eq (map name_of (gathered_of gs r))
names_differ r [] h = no_names
names_differ r (g ∷ gs) h =
    distinct_with g.1 (gathered_of gs r) (is_registry g.0 r)
    (λ of_g. other_names r g gs of_g (IsDistinct-head is_package (gathered_key g) (map gathered_key gs) h))
    (names_differ r gs (IsDistinct-tail is_package (gathered_key g) (map gathered_key gs) h))

-- ---- all packages

pub all_gathered : (held : Package → Entry NamedInfo) (gs : List Gathered) (listed : Registry → List NamedInfo) → AreGathered held gs → ((r : Registry) → listed r ≡ gathered_of gs r) → AreAllPackages held listed
all_gathered held gs listed h is = record {
  held_so = λ r. subst (All (λ found. held (package_key r found.name) ≡ Whole found)) (sym (is r))
      (All-from_recursion (λ found. held (package_key r found.name) ≡ Whole found) (gathered_of gs r) (held_of held gs r (recursion_from_All (λ g. held (gathered_key g) ≡ Whole g.1) gs h.whole)));
  all = λ p found whole. subst (λ l. Contains l found) (sym (is p.0)) (listed_too gs (p.0, found) (h.all p found whole));
  readable = h.readable;
  differ = λ r. subst (λ l. IsDistinct bytes_eq (map name_of l)) (sym (is r)) (names_differ r gs h.distinct);
}

-- ---- infos that were added

pub named_more : (new old : List PackageInfo) (info : PackageInfo) (b : Bool) → new ≡ old ++ cond b (info ∷ []) [] → map named_info new ≡ map named_info old ++ cond b (named_info info ∷ []) []
named_more new old info b is = ap (map named_info) is ∙ map-append named_info old (cond b (info ∷ []) []) ∙ ap (λ l. map named_info old ++ l) (by b)
  where
    by : (c : Bool) → map named_info (cond c (info ∷ []) []) ≡ cond c (named_info info ∷ []) []
    by true = refl
    by false = refl

pub sound_more : (new old : List PackageInfo) (info : PackageInfo) (b : Bool) → new ≡ old ++ cond b (info ∷ []) [] → All IsSoundPackage old → IsSoundPackage info → All IsSoundPackage new
sound_more new old info b is sound too = subst (All IsSoundPackage) (sym is) (All-append IsSoundPackage old (cond b (info ∷ []) []) sound (by b))
  where
    by : (c : Bool) → All IsSoundPackage (cond c (info ∷ []) [])
    by true = All-from_recursion IsSoundPackage (info ∷ []) (too, tt)
    by false = All-nil IsSoundPackage
