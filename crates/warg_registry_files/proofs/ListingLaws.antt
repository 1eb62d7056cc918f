-- Packages that are listed path by path.
use Rattle.std.proofs.Common.{◌≡◌, ◌<◌, ◌≤◌, ◌+◌, ℕ, T, Bool, true, false, true≢false, cond, List, [], ◌∷◌, ◌++◌, length, take, get_or, map, filter, All, Contains, bytes_eq, Option, Some, None, IfSome, Result, IfErr, IsErrAnd, option_map, refl, sym, ap, ap₂, subst, ◌∙◌, ◌⊎◌, inl, inr, arith}
use Rattle.std.specs.Cmp.Lexicographic.{nat_list_eq_equiv, slice_cmp}
use Rattle.std.specs.FinMap as fin
use Rattle.std.specs.FinMap.Entries.{below_all, is_sorted}
use Rattle.std.specs.List.{AllByRecursion, IsDistinct, list_any}
use Rattle.std.specs.Option.{option_map_or}
use Rattle.std.specs.Ordering.{is_eq, is_lt, nat_cmp}
use Rattle.std.specs.declared.cmp.Ordering.{Ordering}
use Rattle.std.specs.declared.cmp.Ordering.TheVariants.{Less, Equal, Greater}
use Rattle.std.proofs.lemmas.Bool.{and_parts, cases_Bool}
use Rattle.std.proofs.lemmas.List.{append-nil, get_or-take, length-take, map-append, take_more}
use Rattle.std.proofs.lemmas.List.Elements.{All-contains, All-map, All-nil, All-push, All-weaker, Contains-append_left, Contains-push}
use Rattle.std.proofs.lemmas.Map.Keys.{IsDistinct-cons, IsDistinct-head, IsDistinct-push, IsDistinct-tail, apart_from_distinct}
use Rattle.std.proofs.lemmas.Map.Views.{Contains-from_any}
use Rattle.std.proofs.lemmas.Map.Text.{is_eq-slice_cmp}
use Rattle.std.proofs.lemmas.Result.{err_from_is_err_and}
use Rattle.std.proofs.lemmas.Slice.Eq.{bytes_eq-Decides}
use Rattle.warg_base.specs.Files.{FileMap, file_at, is_under, paths_under}
use Rattle.warg_hash.specs.Hash.{package_log_id}
use Rattle.warg_store.specs.declared.error.StoreError.{StoreError}
use Rattle.warg_store.specs.declared.error.StoreError.TheVariants as error
use Rattle.warg_store.specs.Entry.{Entry, Absent, Whole, Unreadable, IsStoreFault}
use Rattle.warg_store.specs.Held.{Held, NamedInfo, Package, Registry, is_package, is_registry}
use Rattle.warg_store.specs.Listed.{AreAllPackages, IsListingFault, entry_under}
use Rattle.warg_store.specs.ListedLaws.{Gathered, all_gathered, gathered_key, gathered_more, gathered_of, package_equiv, package_is}
use Rattle.warg_registry_files.specs.Paths.{Place, are_bytes, has_slash, is_log, is_named, package_path}
use Rattle.warg_registry_files.specs.RegistryFiles.{IsReadAt, Lists, entry_by, held_in, package_with_id}
use Rattle.warg_registry_files.proofs.KeyLaws.{one_log}
use Rattle.warg_registry_files.proofs.ResetLaws.{by_file, kept_under, listed_file, path_kept}

-- ---- what is read at a path

abbrev pub held : Place → FileMap → Package → Entry NamedInfo
held place files p = (held_in place files).packages p

module _ (place : Place) (files : FileMap) (path : List ℕ) where
  -- the entry of a log, by what its file has
  held_is : (p : Package) (o : Option (List ℕ)) → is_log p ≡ true → path ≡ package_path place p → file_at files path ≡ o → held place files p ≡ entry_by (package_with_id p.1) o
  held_is p o log is stands =
      ap (λ (b : Bool). cond b (entry_by (package_with_id p.1) (file_at files (package_path place p))) Absent) log
      ∙ ap (λ (q : List ℕ). entry_by (package_with_id p.1) (file_at files q)) (sym is) ∙ ap (entry_by (package_with_id p.1)) stands

  pub no_log_read : ((p : Package) → is_log p ≡ true → path ≡ package_path place p → ⊥) → IsReadAt place files path None
  no_log_read none p log is = absurd (none p log is)

  pub missing_read : file_at files path ≡ None → IsReadAt place files path None
  missing_read stands p log is = held_is p None log is stands

  pub whole_read : (r : Registry) (id bytes : List ℕ) (found : NamedInfo) → (is_log (r, id) ≡ true) × (path ≡ package_path place (r, id)) → file_at files path ≡ Some bytes → Some found ≡ package_with_id id bytes → id ≡ package_log_id found.name → IsReadAt place files path (Some (r, found))
  whole_read r id bytes found here stands is same =
      subst (λ (i : List ℕ). (is_log (r, i) ≡ true) × (path ≡ package_path place (r, i)) × (held place files (r, i) ≡ Whole found)) same
      (here.0, here.1, held_is (r, id) (Some bytes) here.0 here.1 stands ∙ ap (λ (o : Option NamedInfo). option_map_or Whole o Unreadable) (sym is))

  pub damaged_read : (r : Registry) (id bytes : List ℕ) → (is_log (r, id) ≡ true) × (path ≡ package_path place (r, id)) → file_at files path ≡ Some bytes → None ≡ package_with_id id bytes → (p : Package) × (entry_under p.1 (held place files p) ≡ Unreadable)
  damaged_read r id bytes here stands is =
      ((r, id), ap (entry_under id) (held_is (r, id) (Some bytes) here.0 here.1 stands ∙ ap (λ (o : Option NamedInfo). option_map_or Whole o Unreadable) (sym is)))

-- the same, where the files are told
if_each : {X : Type 0} (P : X → Type 0) (o : Option X) → ((x : X) → P x) → IfSome o P
if_each P None all = tt
if_each P (Some x) all = all x

pub if_weaker : {X : Type 0} (P Q : X → Type 0) (o : Option X) → ((x : X) → P x → Q x) → IfSome o P → IfSome o Q
if_weaker P Q None to h = tt
if_weaker P Q (Some x) to h = to x h

pub of_damaged : (place : Place) (told : Option FileMap) → IfSome told (λ files. (p : Package) × (entry_under p.1 (held place files p) ≡ Unreadable)) → IfSome (option_map (λ (h : Held). h.packages) (option_map (held_in place) told)) (λ entries. (p : Package) × (entry_under p.1 (entries p) ≡ Unreadable))
of_damaged place None h = tt
of_damaged place (Some files) h = h

module _ (place : Place) (told : Option FileMap) (path at : List ℕ) (same : at ≡ path) where
  -- a path that is no log's
  pub told_none : ((p : Package) → is_log p ≡ true → at ≡ package_path place p → ⊥) → IfSome told (λ files. IsReadAt place files path None)
  told_none none = if_each (λ files. IsReadAt place files path None) told (λ files. no_log_read place files path (λ p log is. none p log (same ∙ is)))

  module _ (r : Registry) (id bytes of_id of_bytes : List ℕ) (same_id : of_id ≡ id) (same_bytes : of_bytes ≡ bytes) (here : (is_log (r, id) ≡ true) × (at ≡ package_path place (r, id))) (stands : IfSome told (λ files. file_at files path ≡ Some bytes)) where
    -- a log that is read
    pub told_whole : (found : NamedInfo) → Some found ≡ package_with_id of_id of_bytes → of_id ≡ package_log_id found.name → IfSome told (λ files. IsReadAt place files path (Some (r, found)))
    told_whole found is key =
        if_weaker (λ files. file_at files path ≡ Some bytes) (λ files. IsReadAt place files path (Some (r, found))) told
        (λ files there. whole_read place files path r id bytes found (here.0, sym same ∙ here.1) there (is ∙ ap₂ package_with_id same_id same_bytes) (sym same_id ∙ key)) stands

    -- and one that can't be
    pub told_damaged : None ≡ package_with_id of_id of_bytes → IfSome (option_map (λ (h : Held). h.packages) (option_map (held_in place) told)) (λ entries. (p : Package) × (entry_under p.1 (entries p) ≡ Unreadable))
    told_damaged is =
        of_damaged place told
        (if_weaker (λ files. file_at files path ≡ Some bytes) (λ files. (p : Package) × (entry_under p.1 (held place files p) ≡ Unreadable)) told
        (λ files there. damaged_read place files path r id bytes (here.0, sym same ∙ here.1) there (is ∙ ap₂ package_with_id same_id same_bytes)) stands)

-- a log that is missing
pub told_missing : (place : Place) (told : Option FileMap) (path : List ℕ) → IfSome told (λ files. file_at files path ≡ None) → IfSome told (λ files. IsReadAt place files path None)
told_missing place told path stands = if_weaker (λ files. file_at files path ≡ None) (λ files. IsReadAt place files path None) told (λ files. missing_read place files path) stands

-- what is listed then
pub lists_none : (place : Place) (told : Option FileMap) (path : List ℕ) (listed : Registry → List NamedInfo) → IfSome told (λ files. IsReadAt place files path None) → IfSome told (λ files. Lists place files path listed listed)
lists_none place told path listed read =
    if_weaker (λ files. IsReadAt place files path None) (λ files. Lists place files path listed listed) told (λ files none. (None, none, λ r. sym (append-nil (listed r)))) read

pub lists_one : (place : Place) (told : Option FileMap) (path : List ℕ) (listed more : Registry → List NamedInfo) (g : Gathered) → IfSome told (λ files. IsReadAt place files path (Some g)) → ((r : Registry) → more r ≡ listed r ++ cond (is_registry g.0 r) (g.1 ∷ []) []) → IfSome told (λ files. Lists place files path listed more)
lists_one place told path listed more g read added =
    if_weaker (λ files. IsReadAt place files path (Some g)) (λ files. Lists place files path listed more) told (λ files one. (Some g, one, added)) read

-- ---- what was listed

-- a package of which the path of its log is among these
pub record Stands (place : Place) (files : FileMap) (paths : List (List ℕ)) (g : Gathered) : Type 0 where
  pub log : is_log (gathered_key g) ≡ true
  pub whole : held place files (gathered_key g) ≡ Whole g.1
  pub passed : Contains paths (package_path place (gathered_key g))

-- a package that is held, and was gathered
pub record IsTaken (place : Place) (files : FileMap) (gs : List Gathered) (p : Package) : Type 0 where
  pub found : NamedInfo
  pub key : gathered_key (p.0, found) ≡ p
  pub whole : held place files p ≡ Whole found
  pub among : Contains gs (p.0, found)

abbrev pub IsPassed : Place → FileMap → List Gathered → List ℕ → Type 0
IsPassed place files gs path = (p : Package) → is_log p ≡ true → path ≡ package_path place p → (held place files p ≡ Absent) ⊎ IsTaken place files gs p

-- what is listed after the logs at some paths were read
pub record ListedSoFar (place : Place) (files : FileMap) (paths : List (List ℕ)) (listed : Registry → List NamedInfo) : Type 0 where
  pub gathered : List Gathered
  pub stand : All (Stands place files paths) gathered
  pub passed : All (IsPassed place files gathered) paths
  pub distinct : IsDistinct is_package (map gathered_key gathered)
  pub are : (r : Registry) → listed r ≡ gathered_of gathered r

no_keys : IsDistinct is_package []
unfolding IsDistinct
no_keys = tt

pub none_so_far : (place : Place) (files : FileMap) (listed : Registry → List NamedInfo) → ((r : Registry) → listed r ≡ []) → ListedSoFar place files [] listed
none_so_far place files listed none =
    record { gathered = []; stand = All-nil (Stands place files []); passed = All-nil (IsPassed place files []); distinct = no_keys; are = none }

module _ (place : Place) (single : has_slash place.own ≡ false) (files : FileMap) (paths : List (List ℕ)) (path : List ℕ) (listed more : Registry → List NamedInfo) (so_far : ListedSoFar place files paths listed) (new : Contains paths path → ⊥) where
  still_stands : (g : Gathered) → Stands place files paths g → Stands place files (paths ++ path ∷ []) g
  still_stands g h = record { log = h.log; whole = h.whole; passed = Contains-append_left paths (path ∷ []) (package_path place (gathered_key g)) h.passed }

  all_stand : All (Stands place files (paths ++ path ∷ [])) so_far.gathered
  all_stand = All-weaker (Stands place files paths) (Stands place files (paths ++ path ∷ [])) still_stands so_far.gathered so_far.stand

  pub nothing_more : IsReadAt place files path None → ((r : Registry) → more r ≡ listed r ++ []) → ListedSoFar place files (paths ++ path ∷ []) more
  nothing_more none same = record {
    gathered = so_far.gathered;
    stand = all_stand;
    passed = All-push (IsPassed place files so_far.gathered) paths path so_far.passed (λ p log is. inl (none p log is));
    distinct = so_far.distinct;
    are = λ r. same r ∙ append-nil (listed r) ∙ so_far.are r;
  }

  module _ (g : Gathered) (read : IsReadAt place files path (Some g)) where
    at_path : (k : Package) → Contains (map gathered_key so_far.gathered) k → Contains paths (package_path place k)
    at_path k h =
        All-contains (λ x. Contains paths (package_path place x)) (map gathered_key so_far.gathered) k
        (All-map (λ x. Contains paths (package_path place x)) gathered_key so_far.gathered (All-weaker (Stands place files paths) (λ x. Contains paths (package_path place (gathered_key x))) (λ x s. s.passed) so_far.gathered so_far.stand)) h

    no_key : list_any (is_package (gathered_key g)) (map gathered_key so_far.gathered) ≡ false
    no_key =
        elim (cases_Bool (list_any (is_package (gathered_key g)) (map gathered_key so_far.gathered))) [
          | inl t ↦ absurd (new (subst (Contains paths) (sym read.1) (at_path (gathered_key g) (Contains-from_any package_is (gathered_key g) (map gathered_key so_far.gathered) t))))
          | inr f ↦ f
        ]

    taken_still : (p : Package) → (held place files p ≡ Absent) ⊎ IsTaken place files so_far.gathered p → (held place files p ≡ Absent) ⊎ IsTaken place files (so_far.gathered ++ g ∷ []) p
    taken_still p (inl none) = inl none
    taken_still p (inr t) = inr (record { found = t.found; key = t.key; whole = t.whole; among = Contains-append_left so_far.gathered (g ∷ []) (p.0, t.found) t.among })

    taken_here : (p : Package) → p ≡ gathered_key g → IsTaken place files (so_far.gathered ++ g ∷ []) p
    taken_here p is = subst (IsTaken place files (so_far.gathered ++ g ∷ [])) (sym is) (record { found = g.1; key = refl; whole = read.2; among = Contains-push so_far.gathered g })

    pub one_more_listed : ((r : Registry) → more r ≡ listed r ++ cond (is_registry g.0 r) (g.1 ∷ []) []) → ListedSoFar place files (paths ++ path ∷ []) more
    one_more_listed added = record {
      gathered = so_far.gathered ++ g ∷ [];
      stand = All-push (Stands place files (paths ++ path ∷ [])) so_far.gathered g all_stand (record { log = read.0; whole = read.2; passed = subst (Contains (paths ++ path ∷ [])) read.1 (Contains-push paths path) });
      passed = All-push (IsPassed place files (so_far.gathered ++ g ∷ [])) paths path
          (All-weaker (IsPassed place files so_far.gathered) (IsPassed place files (so_far.gathered ++ g ∷ [])) (λ q h p log is. taken_still p (h p log is)) paths so_far.passed)
          (λ p log is. inr (taken_here p (one_log place single p (gathered_key g) log read.0 (sym is ∙ read.1))));
      distinct = subst (IsDistinct is_package) (sym (map-append gathered_key so_far.gathered (g ∷ []))) (IsDistinct-push package_equiv (map gathered_key so_far.gathered) (gathered_key g) so_far.distinct no_key);
      are = λ r. added r ∙ ap (λ (l : List NamedInfo). l ++ cond (is_registry g.0 r) (g.1 ∷ []) []) (so_far.are r) ∙ sym (gathered_more so_far.gathered g r);
    }

pub listed_more : (place : Place) (single : has_slash place.own ≡ false) (files : FileMap) (paths : List (List ℕ)) (path : List ℕ) (listed more : Registry → List NamedInfo) → ListedSoFar place files paths listed → (Contains paths path → ⊥) → Lists place files path listed more → ListedSoFar place files (paths ++ path ∷ []) more
listed_more place single files paths path listed more so_far new (None, read, added) = nothing_more place single files paths path listed more so_far new read added
listed_more place single files paths path listed more so_far new (Some g, read, added) = one_more_listed place single files paths path listed more so_far new g read added

-- ---- paths that differ

is_true : (b : Bool) → T b → b ≡ true
is_true true t = refl
is_true false t = absurd t

no_tie : (r : Ordering) → is_lt r ≡ true → is_eq r ≡ false
no_tie Less lt = refl
no_tie Equal lt = absurd (true≢false (sym lt))
no_tie Greater lt = refl

no_paths : IsDistinct bytes_eq []
unfolding IsDistinct
no_paths = tt

module _ {X : Type 0} where
  other_keys : (x : List ℕ) (es : List (List ℕ × X)) → below_all (slice_cmp nat_cmp) x es ≡ true → AllByRecursion (λ y. bytes_eq x y ≡ false) (map (λ (e : List ℕ × X). e.0) es)
  other_keys x [] h = tt
  other_keys x (e ∷ es) h =
      let parts = and_parts (is_lt (slice_cmp nat_cmp x e.0)) (below_all (slice_cmp nat_cmp) x es) h in
      (sym (is_eq-slice_cmp x e.0) ∙ no_tie (slice_cmp nat_cmp x e.0) parts.0, other_keys x es parts.1)

  keys_differ : (es : List (List ℕ × X)) → is_sorted (slice_cmp nat_cmp) es ≡ true → IsDistinct bytes_eq (map (λ (e : List ℕ × X). e.0) es)
  keys_differ [] h = no_paths
  keys_differ (e ∷ es) h =
      let parts = and_parts (below_all (slice_cmp nat_cmp) e.0 es) (is_sorted (slice_cmp nat_cmp) es) h in
      IsDistinct-cons bytes_eq e.0 (map (λ (x : List ℕ × X). x.0) es) (other_keys e.0 es parts.0) (keys_differ es parts.1)

kept_with : {X : Type 0} (P : X → Type 0) (b : Bool) (x : X) (xs : List X) → P x → AllByRecursion P xs → AllByRecursion P (cond b (x ∷ xs) xs)
kept_with P true x xs here rest = (here, rest)
kept_with P false x xs here rest = rest

kept_filter : {X : Type 0} (P : X → Type 0) (passes : X → Bool) (xs : List X) → AllByRecursion P xs → AllByRecursion P (filter passes xs)
kept_filter P passes [] h = tt
kept_filter P passes (x ∷ xs) h = kept_with P (passes x) x (filter passes xs) h.0 (kept_filter P passes xs h.1)

distinct_with : (b : Bool) (x : List ℕ) (xs : List (List ℕ)) → AllByRecursion (λ y. bytes_eq x y ≡ false) xs → IsDistinct bytes_eq xs → IsDistinct bytes_eq (cond b (x ∷ xs) xs)
distinct_with true x xs others rest = IsDistinct-cons bytes_eq x xs others rest
distinct_with false x xs others rest = rest

distinct_filter : (passes : List ℕ → Bool) (xs : List (List ℕ)) → IsDistinct bytes_eq xs → IsDistinct bytes_eq (filter passes xs)
distinct_filter passes [] h = no_paths
distinct_filter passes (x ∷ xs) h =
    distinct_with (passes x) x (filter passes xs)
    (kept_filter (λ y. bytes_eq x y ≡ false) passes xs (IsDistinct-head bytes_eq x xs h))
    (distinct_filter passes xs (IsDistinct-tail bytes_eq x xs h))

paths_differ : (files : FileMap) (folder : List ℕ) → IsDistinct bytes_eq (paths_under files folder)
paths_differ files folder = distinct_filter (is_under folder) (fin.keys files) (keys_differ (fin.entries files) (is_true _ (fin.entries_sorted files)))

-- a path is not among those before it
not_before : (paths : List (List ℕ)) (i : ℕ) (path : List ℕ) → IsDistinct bytes_eq paths → i < length paths → path ≡ get_or paths i path → Contains (take i paths) path → ⊥
not_before paths i path distinct lt is h =
    let before : h.0 < i = omega (arith, h.1, length-take i paths) in
    let there : get_or paths h.0 path ≡ path = sym (get_or-take i paths h.0 path before) ∙ h.2 in
    let apart : bytes_eq (get_or paths h.0 path) (get_or paths i path) ≡ false = apart_from_distinct bytes_eq paths h.0 i path distinct before lt in
    true≢false (sym (nat_list_eq_equiv.refl path) ∙ ap₂ (λ (x y : List ℕ). bytes_eq x y) (sym there) is ∙ apart)

-- ---- paths that are listed

pub files_none : (place : Place) (told : Option FileMap) (paths : List (List ℕ)) (listed : Registry → List NamedInfo) → ((r : Registry) → listed r ≡ []) → IfSome told (λ files. ListedSoFar place files (take 0 paths) listed)
files_none place told paths listed none = if_each (λ files. ListedSoFar place files (take 0 paths) listed) told (λ files. none_so_far place files listed none)

-- one path more, by a store whose place and files are the same
pub files_more : (place here : Place) (told now : Option FileMap) (paths : List (List ℕ)) (i : ℕ) (path : List ℕ) (listed more : Registry → List NamedInfo) → has_slash place.own ≡ false → here ≡ place → now ≡ told → i < length paths → path ≡ get_or paths i path
    → IfSome told (λ files. paths ≡ paths_under files place.parent) → IfSome told (λ files. ListedSoFar place files (take i paths) listed) → IfSome now (λ files. Lists here files path listed more) → IfSome told (λ files. ListedSoFar place files (take (i + 1) paths) more)
files_more place here None now paths i path listed more single same still lt is all so_far one = tt
files_more place here (Some files) now paths i path listed more single same still lt is all so_far one =
    let this : Lists place files path listed more = subst (λ (p : Place). Lists p files path listed more) same (subst (λ (o : Option FileMap). IfSome o (λ f. Lists here f path listed more)) still one) in
    let distinct = subst (IsDistinct bytes_eq) (sym all) (paths_differ files place.parent) in
    subst (λ ps. ListedSoFar place files ps more) (sym (take_more paths i path lt ∙ ap (λ (x : List ℕ). take i paths ++ x ∷ []) (sym is)))
    (listed_more place single files (take i paths) path listed more so_far (not_before paths i path distinct lt is) this)

absent_whole : (info : NamedInfo) → Absent ≡ Whole info → ⊥
absent_whole info e = cc

absent_unreadable : ◌≡◌ {A = Entry NamedInfo} Absent Unreadable → ⊥
absent_unreadable e = cc

whole_unreadable : (info : NamedInfo) → Whole info ≡ Unreadable → ⊥
whole_unreadable info e = cc

the_whole : NamedInfo → Entry NamedInfo → NamedInfo
the_whole other Absent = other
the_whole other (Whole info) = info
the_whole other Unreadable = other

one_whole : (a b : NamedInfo) → Whole a ≡ Whole b → a ≡ b
unfolding the_whole
one_whole a b e = ap (the_whole a) e

module _ (place : Place) (files : FileMap) (gs : List Gathered) where
  taken_whole : (p : Package) (found : NamedInfo) → held place files p ≡ Whole found → (held place files p ≡ Absent) ⊎ IsTaken place files gs p → Contains gs (p.0, found)
  taken_whole p found is (inl none) = absurd (absent_whole found (sym none ∙ is))
  taken_whole p found is (inr t) = subst (λ (x : NamedInfo). Contains gs (p.0, x)) (one_whole t.found found (sym t.whole ∙ is)) t.among

  taken_readable : (p : Package) → (held place files p ≡ Absent) ⊎ IsTaken place files gs p → entry_under p.1 (held place files p) ≡ Unreadable → ⊥
  taken_readable p (inl none) e = absent_unreadable (sym (ap (entry_under p.1) none) ∙ e)
  taken_readable p (inr t) e =
      whole_unreadable t.found
      (sym (ap (λ (b : Bool). cond b (Whole t.found) Unreadable) ((bytes_eq-Decides (package_log_id t.found.name) p.1).1 (ap (λ (q : Package). q.1) t.key))) ∙ sym (ap (entry_under p.1) t.whole) ∙ e)

  module _ (single : has_slash place.own ≡ false) (passed : All (IsPassed place files gs) (paths_under files place.parent)) where
    each_taken : (p : Package) → (held place files p ≡ Absent) ⊎ IsTaken place files gs p
    each_taken p =
        elim (cases_Bool (is_log p)) [
          | inl log ↦ by_file (file_at files (package_path place p))
              (λ none. inl (held_is place files (package_path place p) p None log refl none))
              (λ bytes is. listed_file (IsPassed place files gs) files place.parent (package_path place p) bytes is
              (kept_under place (package_path place p) (path_kept place single p.0 (package_path place p) (and_parts (is_named p.0) (are_bytes p.1) log).0 (inr (inr (inr (p.1, refl))))))
              passed p log refl)
          | inr other ↦ inl (ap (λ (b : Bool). cond b (entry_by (package_with_id p.1) (file_at files (package_path place p))) Absent) other)
        ]

pub files_all : (place : Place) (told : Option FileMap) (paths : List (List ℕ)) (listed : Registry → List NamedInfo) → has_slash place.own ≡ false → IfSome told (λ files. paths ≡ paths_under files place.parent) → IfSome told (λ files. ListedSoFar place files paths listed)
    → IfSome (option_map (held_in place) told) (λ h. AreAllPackages h.packages listed)
files_all place None paths listed single all so_far = tt
files_all place (Some files) paths listed single all so_far =
    let passed = subst (All (IsPassed place files so_far.gathered)) all so_far.passed in
    all_gathered (held place files) so_far.gathered listed
    (record {
      whole = All-weaker (Stands place files paths) (λ g. held place files (gathered_key g) ≡ Whole g.1) (λ g s. s.whole) so_far.gathered so_far.stand;
      all = λ p found is. taken_whole place files so_far.gathered p found is (each_taken place files so_far.gathered single passed p);
      readable = λ p. taken_readable place files so_far.gathered p (each_taken place files so_far.gathered single passed p);
      distinct = so_far.distinct;
    })
    so_far.are

-- ---- refusals

pub of_store_fault : (e : StoreError) (before after : ℕ) (entries : Option (Package → Entry NamedInfo)) → IsStoreFault e before after → IsListingFault e before after entries
of_store_fault error.Failed before after entries h = h
of_store_fault (error.Damaged kind) before after entries h = absurd h
of_store_fault (error.IncorrectContent digest expected) before after entries h = h
of_store_fault error.Memory before after entries h = h

-- a fault of a later call, by a store whose place and files are the same
pub later_fault : (e : StoreError) (place here : Place) (told now : Option FileMap) (before mid after : ℕ) → here ≡ place → now ≡ told → before ≤ mid → IsListingFault e mid after (option_map (λ (h : Held). h.packages) (option_map (held_in here) now)) → IsListingFault e before after (option_map (λ (h : Held). h.packages) (option_map (held_in place) told))
later_fault e place here told now before mid after same still le h =
    sooner e (subst (λ (p : Place). IsListingFault e mid after (option_map (λ (x : Held). x.packages) (option_map (held_in p) told))) same (subst (λ (o : Option FileMap). IsListingFault e mid after (option_map (λ (x : Held). x.packages) (option_map (held_in here) o))) still h))
  where
    sooner : (e : StoreError) → IsListingFault e mid after (option_map (λ (x : Held). x.packages) (option_map (held_in place) told)) → IsListingFault e before after (option_map (λ (x : Held). x.packages) (option_map (held_in place) told))
    sooner error.Failed rose = omega (arith, rose, le)
    sooner (error.Damaged kind) d = d
    sooner (error.IncorrectContent digest expected) none = none
    sooner error.Memory m = m

-- a refusal that is handed on
pub handed_on : {X : Type 0} (r : Result X StoreError) (e : StoreError) (P : StoreError → Type 0) → IsErrAnd r (λ d. d ≡ e) → P e → IfErr r P
handed_on r e P gives h = let p = err_from_is_err_and r gives in rw (p.1, p.2) h
