-- Groups of names in a map, what is found of packages, and groups that are updated one after the other.
use Rattle.std.proofs.Common.{◌≡◌, ◌∙◌, ◌++◌, ◌∷◌, [], ◌+◌, ◌<◌, ℕ, zero, Bool, true, false, cond, List, Option, Some, None, IsSome, ◌↔◌, ◌⊎◌, Vec, map, fold, take, get_or, length, All, Contains, bytes_eq, refl, sym, ap, subst, inl, inr, arith}
use Rattle.std.proofs.lemmas.List.{map-append, take_more}
use Rattle.std.proofs.lemmas.List.Elements.{All-contains, All-nil, All-push, Contains-append_cases, Contains-append_left, Contains-append_right}
use Rattle.std.proofs.lemmas.Slice.Eq.{bytes_eq-Decides}
use Rattle.std.specs.Global.{Global}
use Rattle.std.specs.Map.{lookup, set_value}
use Rattle.indexmap.specs.IndexMap.{insert_entry}
use Rattle.warg_info.specs.Info.{IsSoundPackage, package_log}
use Rattle.warg_info.specs.Kept.{Kept}
use Rattle.warg_info.specs.declared.package.PackageInfo.{PackageInfo}
use Rattle.warg_page.specs.Views.{package_view}
use Rattle.warg_store.specs.Held.{Registry, is_registry}
use Rattle.warg_learn.specs.Gathered.{IsFound}
use Rattle.warg_learn.specs.Groups.{AreAnswers, grouped, joined, without_logs}

-- ---- names that join groups

abbrev Names : Type 0
Names = Vec (List ℕ) Global

abbrev pub group_at : Registry × Names → Registry × List (List ℕ)
group_at e = (e.0, e.1.items)

some_is : {X : Type 0} (x y : X) → Some x ≡ Some y → x ≡ y
some_is x y e = cc

module _ (r : Registry) (name : List ℕ) (w : Names) where
  -- a name more in the group that its registry has
  pub joins : (es : List (Registry × Names)) (list : Names) → lookup (is_registry r) es ≡ Some list → w.items ≡ list.items ++ name ∷ [] → map group_at (set_value (is_registry r) es w) ≡ joined r name (map group_at es)
  joins [] list there more = absurd cc
  joins (z ∷ es) list there more = by (is_registry r z.0) there (joins es list)
    where
      by : (b : Bool) → cond b (Some z.1) (lookup (is_registry r) es) ≡ Some list
          → (lookup (is_registry r) es ≡ Some list → w.items ≡ list.items ++ name ∷ [] → map group_at (set_value (is_registry r) es w) ≡ joined r name (map group_at es))
          → map group_at (cond b ((z.0, w) ∷ es) (z ∷ set_value (is_registry r) es w)) ≡ cond b ((z.0, z.1.items ++ name ∷ []) ∷ map group_at es) (group_at z ∷ joined r name (map group_at es))
      by true e later = ap (λ l. (z.0, l) ∷ map group_at es) (more ∙ ap (λ (v : Names). v.items ++ name ∷ []) (sym (some_is z.1 list e)))
      by false e later = ap (λ gs. group_at z ∷ gs) (later e more)

  -- a new group behind the others
  pub begins : (es : List (Registry × Names)) → lookup (is_registry r) es ≡ None → w.items ≡ name ∷ [] → map group_at (insert_entry is_registry es r w) ≡ joined r name (map group_at es)
  begins [] none one = ap (λ l. (r, l) ∷ []) one
  begins (z ∷ es) none one = by (is_registry r z.0) none (begins es)
    where
      by : (b : Bool) → cond b (Some z.1) (lookup (is_registry r) es) ≡ None
          → (lookup (is_registry r) es ≡ None → w.items ≡ name ∷ [] → map group_at (insert_entry is_registry es r w) ≡ joined r name (map group_at es))
          → map group_at (cond b ((z.0, w) ∷ es) (z ∷ insert_entry is_registry es r w)) ≡ cond b ((z.0, z.1.items ++ name ∷ []) ∷ map group_at es) (group_at z ∷ joined r name (map group_at es))
      by true e later = absurd cc
      by false e later = ap (λ gs. group_at z ∷ gs) (later e one)

fold_more : {X Y : Type 0} (f : Y → X → Y) (start : Y) (xs : List X) (x : X) → fold f start (xs ++ x ∷ []) ≡ f (fold f start xs) x
fold_more f start [] x = refl
fold_more f start (y ∷ ys) x = fold_more f (f start y) ys x

-- the names at the places up to this one are grouped, where those before it are
pub grouped_to : (registry : List ℕ → Registry) (names : List (List ℕ)) (at : ℕ) (name : List ℕ) (r : Registry) (old new : List (Registry × List (List ℕ))) → at < length names → name ≡ get_or names at name → r ≡ registry name → old ≡ grouped registry (take at names) → new ≡ joined r name old
    → new ≡ grouped registry (take (at + 1) names)
grouped_to registry names at name r old new lt is under before more =
    more ∙ ap (λ q. joined q name old) under ∙ ap (λ gs. joined (registry name) name gs) before
    ∙ sym (fold_more (λ gs n. joined (registry n) n gs) [] (take at names) name)
    ∙ ap (grouped registry) (ap (λ n. take at names ++ n ∷ []) is ∙ sym (take_more names at name lt))

-- ---- what is found of packages

same_bytes : (a b : List ℕ) → bytes_eq a b ≡ true → a ≡ b
same_bytes a b h = (bytes_eq-Decides a b).0 h

none_some : {X P : Type 0} (x : X) → None ≡ Some x → P
none_some x e = absurd cc

abbrev pub Found : List (List ℕ × List Kept) → (List ℕ → Option PackageInfo) → Type 0
Found logs get = (name : List ℕ) (info : PackageInfo) → get name ≡ Some info → IsFound logs name info

-- in no entries nothing is found
pub none_found : (logs : List (List ℕ × List Kept)) (es : List (List ℕ × PackageInfo)) → es ≡ [] → Found logs (λ q. lookup (bytes_eq q) es)
none_found logs es none q i e = none_some i (sym (ap (λ l. lookup (bytes_eq q) l) none) ∙ e)

-- one info more
pub found_with : (logs : List (List ℕ × List Kept)) (old new : List ℕ → Option PackageInfo) (key : List ℕ) (info : PackageInfo) → Found logs old → IsFound logs key info → ((q : List ℕ) → new q ≡ cond (bytes_eq key q) (Some info) (old q)) → Found logs new
found_with logs old new key info had is more q i e = by (bytes_eq key q) refl (sym (more q) ∙ e)
  where
    by : (b : Bool) → bytes_eq key q ≡ b → cond b (Some info) (old q) ≡ Some i → IsFound logs q i
    by true same e = subst (λ n. IsFound logs n i) (same_bytes key q same) (subst (IsFound logs key) (some_is info i e) is)
    by false same e = had q i e

-- one info less
pub found_without : (logs : List (List ℕ × List Kept)) (old new : List ℕ → Option PackageInfo) (test : List ℕ → Bool) → Found logs old → ((q : List ℕ) → new q ≡ cond (test q) None (old q)) → Found logs new
found_without logs old new test had less q i e = by (test q) (sym (less q) ∙ e)
  where
    by : (b : Bool) → cond b None (old q) ≡ Some i → IsFound logs q i
    by true e = none_some i e
    by false e = had q i e

-- among logs that have these
pub found_among : (logs more : List (List ℕ × List Kept)) (get : List ℕ → Option PackageInfo) → ((x : List ℕ × List Kept) → Contains logs x → Contains more x) → Found logs get → Found more get
found_among logs more get have had q i e =
    let h = had q i e in
    record { named = h.named; logged = have (package_view i) h.logged; sound = h.sound }

-- one answer more, found under its name
pub answers_more : (logs : List (List ℕ × List Kept)) (names : List (List ℕ)) (infos : List PackageInfo) (name : List ℕ) (info : PackageInfo) → AreAnswers logs names infos → IsFound logs name info → AreAnswers logs (names ++ name ∷ []) (infos ++ info ∷ [])
answers_more logs names infos name info are is = record {
  named = map-append (λ (i : PackageInfo). i.name) infos (info ∷ []) ∙ ap (λ ns. ns ++ info.name ∷ []) are.named ∙ ap (λ n. names ++ n ∷ []) is.named;
  logged = All-push (λ (i : PackageInfo). Contains logs (package_view i)) infos info are.logged is.logged;
  sound = All-push IsSoundPackage infos info are.sound is.sound;
}

pub answers_to : (logs : List (List ℕ × List Kept)) (names : List (List ℕ)) (infos : List PackageInfo) (at : ℕ) (name : List ℕ) (info : PackageInfo) → at < length names → name ≡ get_or names at name → AreAnswers logs (take at names) infos → IsFound logs name info → AreAnswers logs (take (at + 1) names) (infos ++ info ∷ [])
answers_to logs names infos at name info lt is are found =
    subst (λ ns. AreAnswers logs ns (infos ++ info ∷ [])) (ap (λ n. take at names ++ n ∷ []) is ∙ sym (take_more names at name lt)) (answers_more logs (take at names) infos name info are found)

pub no_answers : (logs : List (List ℕ × List Kept)) (infos : List PackageInfo) → infos ≡ [] → AreAnswers logs [] infos
no_answers logs infos none = subst (AreAnswers logs []) (sym none) (record { named = refl; logged = All-nil _; sound = All-nil _ })

-- ---- lists that are gone through

pub nothing_left : {X : Type 0} (xs : List X) → length xs ≡ 0 → xs ≡ []
nothing_left [] h = refl
nothing_left (x ∷ xs) h = absurd (omega arith)

-- one package more with no log yet
pub unlogged_more : (names : List (List ℕ)) (infos : List PackageInfo) (name : List ℕ) (info : PackageInfo) → map package_view infos ≡ without_logs names → info.name ≡ name → package_log info ≡ [] → map package_view (infos ++ info ∷ []) ≡ without_logs (names ++ name ∷ [])
unlogged_more names infos name info are named empty =
    map-append package_view infos (info ∷ []) ∙ ap (λ vs. vs ++ package_view info ∷ []) are
    ∙ ap (λ n. without_logs names ++ (n, package_log info) ∷ []) named ∙ ap (λ l. without_logs names ++ (name, l) ∷ []) empty
    ∙ sym (map-append (λ n. (n, [])) names (name ∷ []))

one_of : {X : Type 0} (xs ys : List X) (x : X) → Contains (xs ++ x ∷ ys) x
one_of xs ys x = Contains-append_right xs (x ∷ ys) x (zero, omega arith, refl)

-- what is in two lists is in them with a third between
between : {X : Type 0} (xs ys zs : List X) (x : X) → Contains (xs ++ zs) x → Contains ((xs ++ ys) ++ zs) x
between xs ys zs x h = by (Contains-append_cases xs zs x h)
  where
    by : Contains xs x ⊎ Contains zs x → Contains ((xs ++ ys) ++ zs) x
    by (inl h) = Contains-append_left (xs ++ ys) zs x (Contains-append_left xs ys x h)
    by (inr h) = Contains-append_right (xs ++ ys) zs x h

-- what is in two lists is in them the other way round
pub swapped : {X : Type 0} (xs ys : List X) (x : X) → Contains (xs ++ ys) x → Contains (ys ++ xs) x
swapped xs ys x h = by (Contains-append_cases xs ys x h)
  where
    by : Contains xs x ⊎ Contains ys x → Contains (ys ++ xs) x
    by (inl h) = Contains-append_right ys xs x h
    by (inr h) = Contains-append_left ys xs x h

-- an info is put under its name, the next of these
pub put_more : (logs : List (List ℕ × List Kept)) (yielded later all : List PackageInfo) (info : PackageInfo) → all ≡ yielded ++ info ∷ later → All IsSoundPackage all → (old new : List ℕ → Option PackageInfo) (key : List ℕ) → key ≡ info.name
    → Found (map package_view yielded ++ logs) old → ((q : List ℕ) → new q ≡ cond (bytes_eq key q) (Some info) (old q)) → Found (map package_view (yielded ++ info ∷ []) ++ logs) new
put_more logs yielded later all info are sound old new key is had more =
    let now = map package_view yielded ++ package_view info ∷ [] in
    subst (λ l. Found (l ++ logs) new) (sym (map-append package_view yielded (info ∷ [])))
    (found_with (now ++ logs) old new key info
    (found_among (map package_view yielded ++ logs) (now ++ logs) old (between (map package_view yielded) (package_view info ∷ []) logs) had)
    (record {
      named = sym is;
      logged = Contains-append_left now logs (package_view info) (one_of (map package_view yielded) [] (package_view info));
      sound = All-contains IsSoundPackage all info sound (subst (λ l. Contains l info) (sym are) (one_of yielded later info));
    })
    more)

-- where nothing is taken, nothing is left
pub none_left : {X Y : Type 0} (o : Option X) (xs : List Y) → IsSome o ↔ (0 < length xs) → o ≡ None → xs ≡ []
none_left o [] both none = refl
none_left o (x ∷ xs) both none = some_none o none (both.1 (omega arith))
  where
    some_none : {X P : Type 0} (o : Option X) → o ≡ None → IsSome o → P
    some_none o none some = absurd cc
