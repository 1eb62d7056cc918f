-- What is left of files, and of what is held, after a reset.
use Rattle.std.proofs.Common.{◌≡◌, ◌<◌, ◌+◌, ℕ, Bool, true, false, true≢false, not, ◌||◌, cond, nat_eq, List, [], ◌∷◌, ◌++◌, length, take, drop, get_or, filter, codes, bytes_eq, Option, Some, None, IfSome, is_some, option_map, refl, sym, ap, subst, ◌∙◌, ◌⊎◌, inl, inr, append_assoc, take-append-drop}
use Rattle.std.specs.Ordering.{eq_by_cmp, is_eq, nat_cmp}
use Rattle.std.specs.declared.cmp.Ordering.{Ordering}
use Rattle.std.specs.declared.cmp.Ordering.TheVariants.{Less, Equal, Greater}
use Rattle.std.specs.Cmp.Lexicographic.{slice_cmp, nat_list_eq_equiv}
use Rattle.std.specs.List.{All, AllByRecursion, list_any, starts_with}
use Rattle.std.specs.FinMap as map
use Rattle.std.specs.FinMap.{nat_cmp-IsAntisymmetric, slice_cmp-IsAntisymmetric}
use Rattle.std.proofs.lemmas.Bool.{and_parts, cases_Bool}
use Rattle.std.proofs.lemmas.List.{append-nil, take_at}
use Rattle.std.proofs.lemmas.List.Elements.{All-more, All-nil, All-weaker, recursion_from_All}
use Rattle.std.proofs.lemmas.Slice.Eq.{bytes_eq-Decides}
use Rattle.hex.specs.Hex.{encode_lower}
use Rattle.warg_base.specs.Files.{FileMap, LeavesPartlyRemoved, file_at, is_under, paths_under, without_path}
use Rattle.warg_info_text.specs.StoredTexts.{checkpoint_of, operator_of}
use Rattle.warg_publish_text.specs.PublishText.{publish_of}
use Rattle.warg_store.specs.Entry.{Entry, Absent, ArePartlyGone, SameEntries, without_entries}
use Rattle.warg_store.specs.Held.{LeavesReset, Package, Registry, Tells, after_reset, is_reset}
use Rattle.warg_registry_files.specs.Paths.{Place, are_bytes, checkpoint_path, folder_name, folder_path, has_slash, is_log, is_named, operator_path, package_path, packages_path, publish_path}
use Rattle.warg_registry_files.specs.RegistryFiles.{entry_by, held_in, package_with_id}
use Rattle.warg_registry_files.specs.Resets.{HasNone, IsKept, IsPathOf, IsTaken, LeavesOthers, MayGo, is_at, is_entry}
use Rattle.warg_registry_files.proofs.FolderLaws.{folder_has_none, folder_passes, no_other_home}
use Rattle.warg_registry_files.proofs.KeyLaws.{log_name, package_at, parts_in}

-- ---- one removal

pub one_path : (p q : List ℕ) → slice_cmp nat_cmp p q ≡ Equal → p ≡ q
one_path = slice_cmp-IsAntisymmetric nat_cmp-IsAntisymmetric

-- the file at a path, once only some files are kept
pub file_kept : (files : FileMap) (stays : List ℕ → Bool) (q : List ℕ) → file_at (map.retain_keys files stays) q ≡ cond (stays q) (file_at files q) None
file_kept files stays q = map.get-retain_keys files stays q (λ x tie. ap stays (sym (one_path q x tie)))

went : (t : Bool) (o : Option (List ℕ)) → (cond (not t) o None ≡ o) ⊎ ((t ≡ true) × (cond (not t) o None ≡ None))
went true o = inr (refl, refl)
went false o = inl refl

went_or_stayed : (t s : Bool) (o : Option (List ℕ)) → (cond (not t || s) o None ≡ o) ⊎ ((t ≡ true) × (cond (not t || s) o None ≡ None))
went_or_stayed true true o = inl refl
went_or_stayed true false o = inr (refl, refl)
went_or_stayed false s o = inl refl

-- a file that is as it is or gone, is so of what it is equal to
by_is : {P : Type 0} (now then old : Option (List ℕ)) → now ≡ then → (then ≡ old) ⊎ (P × (then ≡ None)) → (now ≡ old) ⊎ (P × (now ≡ None))
by_is now then old is (inl same) = inl (is ∙ same)
by_is now then old is (inr gone) = inr (gone.0, is ∙ gone.1)

pub took : (old new : Option FileMap) (path : List ℕ) → IfSome old (λ files. new ≡ Some (without_path files path)) → IfSome old (λ files. LeavesOthers new files (λ q. is_at path q ≡ true))
took None new path removed = tt
took (Some files) new path removed = record {
  now = without_path files path;
  tells = removed;
  each = λ q. by_is _ _ _ (file_kept files (λ p. not (is_at path p)) q) (went (is_at path q) (file_at files q));
}

pub took_partly : (old new : Option FileMap) (path : List ℕ) → LeavesPartlyRemoved old new path → IfSome old (λ files. LeavesOthers new files (λ q. is_at path q ≡ true))
took_partly None new path left = tt
took_partly (Some files) new path (after, tells, (stays, is)) = record {
  now = map.retain_keys files (λ q. not (is_at path q) || stays q);
  tells = tells ∙ ap Some is;
  each = λ q. by_is _ _ _ (file_kept files (λ p. not (is_at path p) || stays p) q) (went_or_stayed (is_at path q) (stays q) (file_at files q));
}

gone_at : (files : FileMap) (path q : List ℕ) → is_at path q ≡ true → file_at (without_path files path) q ≡ None
gone_at files path q at = file_kept files (λ p. not (is_at path p)) q ∙ ap (λ (t : Bool). cond (not t) (file_at files q) None) at

pub took_all : (old new : Option FileMap) (path : List ℕ) → IfSome old (λ files. new ≡ Some (without_path files path)) → IfSome old (λ _. IfSome new (λ now. (q : List ℕ) → is_at path q ≡ true → file_at now q ≡ None))
took_all None new path removed = tt
took_all (Some files) new path removed =
    subst (λ (told : Option FileMap). IfSome told (λ now. (q : List ℕ) → is_at path q ≡ true → file_at now q ≡ None)) (sym removed) (λ q at. gone_at files path q at)

-- ---- one after the other

pub if_some : {X : Type 0} (P : X → Type 0) (o : Option X) (x : X) → o ≡ Some x → IfSome o P → P x
if_some P o x is h = subst (λ p. IfSome p P) is h

pub others_none : (old new : Option FileMap) (Goes : List ℕ → Type 0) → new ≡ old → IfSome old (λ files. LeavesOthers new files Goes)
others_none None new Goes same = tt
others_none (Some files) new Goes same = record { now = files; tells = same; each = λ q. inl refl }

then_each : {P Q : Type 0} (first second third : Option (List ℕ)) → (Q → P) → (second ≡ first) ⊎ (P × (second ≡ None)) → (third ≡ second) ⊎ (Q × (third ≡ None)) → (third ≡ first) ⊎ (P × (third ≡ None))
then_each first second third to (inl a) (inl b) = inl (b ∙ a)
then_each first second third to (inr a) (inl b) = inr (a.0, b ∙ a.1)
then_each first second third to a (inr b) = inr (to b.0, b.1)

then_others : (mid new : Option FileMap) (files : FileMap) (P Q : List ℕ → Type 0) → ((q : List ℕ) → Q q → P q) → (a : LeavesOthers mid files P) → LeavesOthers new a.now Q → LeavesOthers new files P
then_others mid new files P Q to a b = record {
  now = b.now;
  tells = b.tells;
  each = λ q. then_each (file_at files q) (file_at a.now q) (file_at b.now q) (to q) (a.each q) (b.each q);
}

pub others_more : (old mid new : Option FileMap) (P Q : List ℕ → Type 0) → ((q : List ℕ) → Q q → P q) → IfSome old (λ files. LeavesOthers mid files P) → IfSome mid (λ files. LeavesOthers new files Q) → IfSome old (λ files. LeavesOthers new files P)
others_more None mid new P Q to a b = tt
others_more (Some files) mid new P Q to a b = then_others mid new files P Q to a (if_some (λ f. LeavesOthers new f Q) mid a.now a.tells b)

others_weaker : (new : Option FileMap) (files : FileMap) (P Q : List ℕ → Type 0) → ((q : List ℕ) → Q q → P q) → LeavesOthers new files Q → LeavesOthers new files P
others_weaker new files P Q to a = record { now = a.now; tells = a.tells; each = λ q. then_each (file_at files q) (file_at files q) (file_at a.now q) (to q) (inl refl) (a.each q) }

pub others_may : (old new : Option FileMap) (P Q : List ℕ → Type 0) → ((q : List ℕ) → Q q → P q) → IfSome old (λ files. LeavesOthers new files Q) → IfSome old (λ files. LeavesOthers new files P)
others_may None new P Q to a = tt
others_may (Some files) new P Q to a = others_weaker new files P Q to a

none_by : {P : Type 0} (old new : Option (List ℕ)) → old ≡ None → (new ≡ old) ⊎ (P × (new ≡ None)) → new ≡ None
none_by old new none (inl same) = same ∙ none
none_by old new none (inr gone) = gone.1

-- what is gone stays so
pub none_still : (new : Option FileMap) (files : FileMap) (Goes : List ℕ → Type 0) (o : LeavesOthers new files Goes) (q : List ℕ) → file_at files q ≡ None → file_at o.now q ≡ None
none_still new files Goes o q none = none_by (file_at files q) (file_at o.now q) none (o.each q)

-- ---- paths that lie at others

starts : (q front : List ℕ) → starts_with nat_eq q front ≡ true → q ≡ front ++ drop (length front) q
starts q front t = sym (take-append-drop (length front) q) ∙ ap (λ l. l ++ drop (length front) q) (sym ((bytes_eq-Decides front (take (length front) q)).0 t))

at_parts : (path q : List ℕ) (s t : Bool) → bytes_eq q path ≡ s → is_under path q ≡ t → (s || t) ≡ true → (rest : List ℕ) × (q ≡ path ++ rest)
at_parts path q true t same under e = ([], (bytes_eq-Decides q path).0 same ∙ sym (append-nil path))
at_parts path q false true same under e = (47 ∷ drop (length (path ++ codes "/")) q, starts q (path ++ codes "/") under ∙ append_assoc path (codes "/") (drop (length (path ++ codes "/")) q))
at_parts path q false false same under e = absurd (true≢false (sym e))

pub what_is_at : (path q : List ℕ) → is_at path q ≡ true → (rest : List ℕ) × (q ≡ path ++ rest)
what_is_at path q e = at_parts path q (bytes_eq q path) (is_under path q) refl refl e

or_left : (a b : Bool) → a ≡ true → (a || b) ≡ true
or_left true b e = refl
or_left false b e = absurd (true≢false (sym e))

or_right : (a b : Bool) → b ≡ true → (a || b) ≡ true
or_right true b e = refl
or_right false b e = e

pub at_itself : (path : List ℕ) → is_at path path ≡ true
at_itself path = or_left (bytes_eq path path) (is_under path path) (nat_list_eq_equiv.refl path)

under : (folder rest : List ℕ) → is_under folder ((folder ++ codes "/") ++ rest) ≡ true
under folder rest =
    rw (take_at (folder ++ codes "/") rest (length (folder ++ codes "/")) refl) (nat_list_eq_equiv.refl (folder ++ codes "/"))

-- ---- what is kept of a registry

at_log : (id : List ℕ) → is_entry (log_name id) ≡ true
at_log id =
    or_right (bytes_eq (log_name id) (codes "checkpoint")) (bytes_eq (log_name id) (codes "operator.log") || (bytes_eq (log_name id) (codes "pending-publish.json") || is_under (codes "package-logs") (log_name id)))
    (or_right (bytes_eq (log_name id) (codes "operator.log")) (bytes_eq (log_name id) (codes "pending-publish.json") || is_under (codes "package-logs") (log_name id))
    (or_right (bytes_eq (log_name id) (codes "pending-publish.json")) (is_under (codes "package-logs") (log_name id)) (under (codes "package-logs") (codes "sha256/" ++ encode_lower id))))

pub path_kept : (place : Place) → has_slash place.own ≡ false → (r : Registry) (q : List ℕ) → is_named r ≡ true → IsPathOf place r q → IsKept place q
path_kept place single r q named (inl e) = record { name = folder_name place.own r; entry = codes "checkpoint"; is = e; single = folder_has_none place.own r single; of_folder = folder_passes place.own r named; is_one = refl }
path_kept place single r q named (inr (inl e)) = record { name = folder_name place.own r; entry = codes "operator.log"; is = e; single = folder_has_none place.own r single; of_folder = folder_passes place.own r named; is_one = refl }
path_kept place single r q named (inr (inr (inl (home, e)))) = record { name = place.own; entry = codes "pending-publish.json"; is = e; single = single; of_folder = folder_passes place.own None refl; is_one = refl }
path_kept place single r q named (inr (inr (inr (id, e)))) =
    record { name = folder_name place.own r; entry = log_name id; is = e ∙ package_at place (r, id); single = folder_has_none place.own r single; of_folder = folder_passes place.own r named; is_one = at_log id }

pub kept_under : (place : Place) (q : List ℕ) → IsKept place q → is_under place.parent q ≡ true
kept_under place q k =
    ap (is_under place.parent) (k.is ∙ append_assoc place.parent (47 ∷ k.name) (47 ∷ k.entry) ∙ sym (append_assoc place.parent (codes "/") (k.name ++ 47 ∷ k.entry)))
    ∙ under place.parent (k.name ++ 47 ∷ k.entry)

-- ---- all registries

tied : (r : Ordering) → is_eq r ≡ true → r ≡ Equal
tied Less e = absurd (true≢false (sym e))
tied Equal e = refl
tied Greater e = absurd (true≢false (sym e))

-- what is so of the paths that pass a test is so of one that is listed and passes
of_listed : (P : List ℕ → Type 0) (passes : List ℕ → Bool) (q : List ℕ) (xs : List (List ℕ)) → list_any (eq_by_cmp (slice_cmp nat_cmp) q) xs ≡ true → passes q ≡ true → AllByRecursion P (filter passes xs) → P q
of_listed P passes q [] any pass all = absurd (true≢false (sym any))
of_listed P passes q (x ∷ xs) any pass all =
    elim (cases_Bool (eq_by_cmp (slice_cmp nat_cmp) q x)) [
      | inl t ↦ let same : q ≡ x = one_path q x (tied _ t) in at_head (passes x) (sym (ap passes same) ∙ pass) same all
      | inr f ↦ of_listed P passes q xs (later (eq_by_cmp (slice_cmp nat_cmp) q x) f any) pass (in_rest (passes x) all)
    ]
  where
    at_head : (b : Bool) → b ≡ true → q ≡ x → AllByRecursion P (cond b (x ∷ filter passes xs) (filter passes xs)) → P q
    at_head true is same h = subst P (sym same) h.0
    at_head false is same h = absurd (true≢false (sym is))

    in_rest : (b : Bool) → AllByRecursion P (cond b (x ∷ filter passes xs) (filter passes xs)) → AllByRecursion P (filter passes xs)
    in_rest true h = h.1
    in_rest false h = h

    later : (b : Bool) → b ≡ false → (b || list_any (eq_by_cmp (slice_cmp nat_cmp) q) xs) ≡ true → list_any (eq_by_cmp (slice_cmp nat_cmp) q) xs ≡ true
    later true f e = absurd (true≢false f)
    later false f e = e

-- a file that is told is listed
pub listed_file : (P : List ℕ → Type 0) (files : FileMap) (folder q bytes : List ℕ) → file_at files q ≡ Some bytes → is_under folder q ≡ true → All P (paths_under files folder) → P q
listed_file P files folder q bytes is inside all =
    of_listed P (is_under folder) q (map.keys files) (sym (map.contains_key-keys files q) ∙ ap is_some is) inside (recursion_from_All P (paths_under files folder) all)

pub by_file : {P : Type 0} (o : Option (List ℕ)) → (o ≡ None → P) → ((bytes : List ℕ) → o ≡ Some bytes → P) → P
by_file None none some = none refl
by_file (Some bytes) none some = some bytes refl

-- a path that was taken
pub kept_gone : (place : Place) (old new : Option FileMap) (path : List ℕ) → IfSome old (λ _. IfSome new (λ now. (q : List ℕ) → is_at path q ≡ true → file_at now q ≡ None)) → IfSome old (λ _. IfSome new (λ now. IsKept place path → file_at now path ≡ None))
kept_gone place None new path gone = tt
kept_gone place (Some files) None path gone = tt
kept_gone place (Some files) (Some now) path gone = λ kept. gone path (at_itself path)

-- of the paths before the first nothing is left
pub none_yet : (place : Place) (old new : Option FileMap) (paths : List (List ℕ)) → IfSome old (λ _. IfSome new (λ now. All (λ p. IsKept place p → file_at now p ≡ None) (take 0 paths)))
none_yet place None new paths = tt
none_yet place (Some files) None paths = tt
none_yet place (Some files) (Some now) paths = All-nil (λ p. IsKept place p → file_at now p ≡ None)

one_more : (place : Place) (old mid new : Option FileMap) (paths : List (List ℕ)) (i : ℕ) (path : List ℕ) → i < length paths → path ≡ get_or paths i path
    → IfSome old (λ files. LeavesOthers mid files (MayGo place true)) → IfSome old (λ _. IfSome mid (λ now. All (λ p. IsKept place p → file_at now p ≡ None) (take i paths)))
    → IfSome mid (λ files. LeavesOthers new files (MayGo place true)) → IfSome mid (λ _. IfSome new (λ now. IsKept place path → file_at now path ≡ None))
    → IfSome old (λ _. IfSome new (λ now. All (λ p. IsKept place p → file_at now p ≡ None) (take (i + 1) paths)))
one_more place None mid new paths i path lt is o1 g1 o2 g2 = tt
one_more place (Some files) mid new paths i path lt is o1 g1 o2 g2 =
    let b : LeavesOthers new o1.now (MayGo place true) = if_some (λ f. LeavesOthers new f (MayGo place true)) mid o1.now o1.tells o2 in
    let before = if_some (λ now. All (λ p. IsKept place p → file_at now p ≡ None) (take i paths)) mid o1.now o1.tells g1 in
    let one = if_some (λ now. IsKept place path → file_at now path ≡ None) new b.now b.tells (if_some (λ f. IfSome new (λ now. IsKept place path → file_at now path ≡ None)) mid o1.now o1.tells g2) in
    subst (λ (told : Option FileMap). IfSome told (λ now. All (λ p. IsKept place p → file_at now p ≡ None) (take (i + 1) paths))) (sym b.tells)
    (All-more (λ p. IsKept place p → file_at b.now p ≡ None) paths i path lt
    (All-weaker (λ p. IsKept place p → file_at o1.now p ≡ None) (λ p. IsKept place p → file_at b.now p ≡ None) (λ p h kept. none_still new o1.now (MayGo place true) b p (h kept)) (take i paths) before)
    (subst (λ p. IsKept place p → file_at b.now p ≡ None) is one))

-- one path more, by a store whose place is the same
pub one_more_gone : (place here : Place) (old mid new : Option FileMap) (paths : List (List ℕ)) (i : ℕ) (path : List ℕ) → here ≡ place → i < length paths → path ≡ get_or paths i path
    → IfSome old (λ files. LeavesOthers mid files (MayGo place true)) → IfSome old (λ _. IfSome mid (λ now. All (λ p. IsKept place p → file_at now p ≡ None) (take i paths)))
    → IfSome mid (λ files. LeavesOthers new files (MayGo here true)) → IfSome mid (λ _. IfSome new (λ now. IsKept here path → file_at now path ≡ None))
    → IfSome old (λ _. IfSome new (λ now. All (λ p. IsKept place p → file_at now p ≡ None) (take (i + 1) paths)))
one_more_gone place here old mid new paths i path same lt is o1 g1 o2 g2 =
    one_more place old mid new paths i path lt is o1 g1 (subst (λ (p : Place). IfSome mid (λ files. LeavesOthers new files (MayGo p true))) same o2)
    (subst (λ (p : Place). IfSome mid (λ _. IfSome new (λ now. IsKept p path → file_at now path ≡ None))) same g2)

-- files that go one after the other, by a store whose place is the same
pub more_go : (place here : Place) (all : Bool) (old mid new : Option FileMap) → here ≡ place → IfSome old (λ files. LeavesOthers mid files (MayGo place all)) → IfSome mid (λ files. LeavesOthers new files (MayGo here all)) → IfSome old (λ files. LeavesOthers new files (MayGo place all))
more_go place here all old mid new same a b =
    others_more old mid new (MayGo place all) (MayGo place all) (λ q m. m) a (subst (λ (p : Place). IfSome mid (λ files. LeavesOthers new files (MayGo p all))) same b)

-- a path that is taken goes, and so does what lies under it
pub taken_goes : (place : Place) (all : Bool) (old mid new : Option FileMap) (path : List ℕ) → IsTaken place all path → IfSome old (λ files. LeavesOthers mid files (MayGo place all)) → IfSome mid (λ files. LeavesOthers new files (λ q. is_at path q ≡ true)) → IfSome old (λ files. LeavesOthers new files (MayGo place all))
taken_goes place all old mid new path taken a b = others_more old mid new (MayGo place all) (λ q. is_at path q ≡ true) (λ q at. (path, taken, at)) a b

-- nothing is left of any registry once each listed file of one is gone
pub none_left : (place : Place) → has_slash place.own ≡ false → (old new : Option FileMap) (paths : List (List ℕ)) → IfSome old (λ files. paths ≡ paths_under files place.parent) → IfSome old (λ files. LeavesOthers new files (MayGo place true))
    → IfSome old (λ _. IfSome new (λ now. All (λ p. IsKept place p → file_at now p ≡ None) paths)) → IfSome old (λ _. IfSome new (HasNone place true))
none_left place single None new paths listed others gone = tt
none_left place single (Some files) new paths listed others gone =
    let all = if_some (λ now. All (λ p. IsKept place p → file_at now p ≡ None) paths) new others.now others.tells gone in
    subst (λ (told : Option FileMap). IfSome told (HasNone place true)) (sym others.tells)
    (λ r named reset q of_it.
    let kept = path_kept place single r q named of_it in
    by_file (file_at files q) (λ none. none_still new files (MayGo place true) others q none)
    (λ bytes is. listed_file (λ p. IsKept place p → file_at others.now p ≡ None) files place.parent q bytes is (kept_under place q kept) (subst (All (λ p. IsKept place p → file_at others.now p ≡ None)) listed all) kept))

-- ---- the home registry

home_reset : (r : Registry) → is_reset false r ≡ true → r ≡ None
home_reset None e = refl
home_reset (Some name) e = absurd (true≢false (sym e))

log_at_home : (place : Place) (id : List ℕ) → is_at (packages_path place None) (package_path place (None, id)) ≡ true
log_at_home place id =
    or_right (bytes_eq (package_path place (None, id)) (packages_path place None)) (is_under (packages_path place None) (package_path place (None, id))) (ap (is_under (packages_path place None)) (package_at place (None, id) ∙ split) ∙ under (packages_path place None) (tail_name id))
  where
    tail_name : List ℕ → List ℕ
    tail_name id = codes "sha256/" ++ encode_lower id

    split : folder_path place None ++ 47 ∷ log_name id ≡ (packages_path place None ++ codes "/") ++ tail_name id
    split = sym (append_assoc (packages_path place None) (codes "/") (tail_name id) ∙ append_assoc (folder_path place None) (codes "/package-logs") (codes "/" ++ tail_name id))

-- what lies at a path
abbrev pub At : List ℕ → List ℕ → Type 0
At path q = is_at path q ≡ true

-- is gone
abbrev pub Gone : List ℕ → FileMap → Type 0
Gone path now = (q : List ℕ) → At path q → file_at now q ≡ None

-- what is at four paths goes with them
pub home_gone : (place : Place) (old t1 t2 t3 new : Option FileMap) (p1 p2 p3 p4 : List ℕ) → p1 ≡ checkpoint_path place None → p2 ≡ operator_path place None → p3 ≡ publish_path place → p4 ≡ packages_path place None
    → IfSome old (λ files. LeavesOthers t1 files (At p1)) → IfSome t1 (λ files. LeavesOthers t2 files (At p2)) → IfSome t2 (λ files. LeavesOthers t3 files (At p3)) → IfSome t3 (λ files. LeavesOthers new files (At p4))
    → IfSome old (λ _. IfSome t1 (Gone p1)) → IfSome t1 (λ _. IfSome t2 (Gone p2)) → IfSome t2 (λ _. IfSome t3 (Gone p3)) → IfSome t3 (λ _. IfSome new (Gone p4))
    → IfSome old (λ _. IfSome new (HasNone place false))
home_gone place None t1 t2 t3 new p1 p2 p3 p4 is1 is2 is3 is4 o1 o2 o3 o4 g1 g2 g3 g4 = tt
home_gone place (Some files) t1 t2 t3 new p1 p2 p3 p4 is1 is2 is3 is4 o1 o2 o3 o4 g1 g2 g3 g4 =
    let b : LeavesOthers t2 o1.now (At p2) = if_some (λ f. LeavesOthers t2 f (At p2)) t1 o1.now o1.tells o2 in
    let c : LeavesOthers t3 b.now (At p3) = if_some (λ f. LeavesOthers t3 f (At p3)) t2 b.now b.tells o3 in
    let d : LeavesOthers new c.now (At p4) = if_some (λ f. LeavesOthers new f (At p4)) t3 c.now c.tells o4 in
    let h1 : Gone p1 o1.now = if_some (Gone p1) t1 o1.now o1.tells g1 in
    let h2 : Gone p2 b.now = if_some (Gone p2) t2 b.now b.tells (if_some (λ _. IfSome t2 (Gone p2)) t1 o1.now o1.tells g2) in
    let h3 : Gone p3 c.now = if_some (Gone p3) t3 c.now c.tells (if_some (λ _. IfSome t3 (Gone p3)) t2 b.now b.tells g3) in
    let h4 : Gone p4 d.now = if_some (Gone p4) new d.now d.tells (if_some (λ _. IfSome new (Gone p4)) t3 c.now c.tells g4) in
    subst (λ (told : Option FileMap). IfSome told (HasNone place false)) (sym d.tells)
    (λ r named reset q of_it. at_home d.now
    (subst (λ p. Gone p d.now) is1 (λ q e. none_still new c.now (At p4) d q (none_still t3 b.now (At p3) c q (none_still t2 o1.now (At p2) b q (h1 q e)))))
    (subst (λ p. Gone p d.now) is2 (λ q e. none_still new c.now (At p4) d q (none_still t3 b.now (At p3) c q (h2 q e))))
    (subst (λ p. Gone p d.now) is3 (λ q e. none_still new c.now (At p4) d q (h3 q e)))
    (subst (λ p. Gone p d.now) is4 h4) q (subst (λ (s : Registry). IsPathOf place s q) (home_reset r reset) of_it))
  where
    at_home : (now : FileMap) → Gone (checkpoint_path place None) now → Gone (operator_path place None) now → Gone (publish_path place) now → Gone (packages_path place None) now → (q : List ℕ) → IsPathOf place None q → file_at now q ≡ None
    at_home now h1 h2 h3 h4 q (inl e) = h1 q (subst (λ p. At (checkpoint_path place None) p) (sym e) (at_itself (checkpoint_path place None)))
    at_home now h1 h2 h3 h4 q (inr (inl e)) = h2 q (subst (λ p. At (operator_path place None) p) (sym e) (at_itself (operator_path place None)))
    at_home now h1 h2 h3 h4 q (inr (inr (inl (home, e)))) = h3 q (subst (λ p. At (publish_path place) p) (sym e) (at_itself (publish_path place)))
    at_home now h1 h2 h3 h4 q (inr (inr (inr (id, e)))) = h4 q (subst (λ p. At (packages_path place None) p) (sym e) (log_at_home place id))

-- ---- what is held

-- a path of an entry, in its registry's folder
in_folder : (place : Place) (r : Registry) (q : List ℕ) → IsPathOf place r q → (entry : List ℕ) × (q ≡ folder_path place r ++ 47 ∷ entry)
in_folder place r q (inl e) = (codes "checkpoint", e)
in_folder place r q (inr (inl e)) = (codes "operator.log", e)
in_folder place r q (inr (inr (inl (home, e)))) = (codes "pending-publish.json", e ∙ ap (λ (s : Registry). folder_path place s ++ codes "/pending-publish.json") (sym home))
in_folder place r q (inr (inr (inr (id, e)))) = (log_name id, e ∙ package_at place (r, id))

-- a path that is taken of the home registry, in its folder
home_path : (place : Place) (p rest : List ℕ) → IsTaken place false p → (entry : List ℕ) × (p ++ rest ≡ folder_path place None ++ 47 ∷ entry)
home_path place p rest (inl e) = (codes "checkpoint" ++ rest, ap (λ l. l ++ rest) e ∙ append_assoc (folder_path place None) (codes "/checkpoint") rest)
home_path place p rest (inr (inl e)) = (codes "operator.log" ++ rest, ap (λ l. l ++ rest) e ∙ append_assoc (folder_path place None) (codes "/operator.log") rest)
home_path place p rest (inr (inr (inl e))) = (codes "pending-publish.json" ++ rest, ap (λ l. l ++ rest) e ∙ append_assoc (folder_path place None) (codes "/pending-publish.json") rest)
home_path place p rest (inr (inr (inr e))) = (codes "package-logs" ++ rest, ap (λ l. l ++ rest) e ∙ append_assoc (folder_path place None) (codes "/package-logs") rest)

module _ (place : Place) (single : has_slash place.own ≡ false) where
  others_stay : (name q : List ℕ) → IsPathOf place (Some name) q → MayGo place false q → ⊥
  others_stay name q of_it goes =
      let here = in_folder place (Some name) q of_it in
      let rest = what_is_at goes.0 q goes.2 in
      let home = home_path place goes.0 rest.0 goes.1 in
      no_other_home place.own name
      (parts_in place.parent place.own (folder_name place.own (Some name)) home.0 here.0 single (folder_has_none place.own (Some name) single) (sym home.1 ∙ sym rest.1 ∙ here.1)).0

  not_reset : (all : Bool) (r : Registry) (q : List ℕ) → is_reset all r ≡ false → IsPathOf place r q → MayGo place all q → ⊥
  not_reset true r q none of_it goes = true≢false none
  not_reset false None q none of_it goes = true≢false none
  not_reset false (Some name) q none of_it goes = others_stay name q of_it goes

  -- a file of an entry, after a reset
  file_left : (all : Bool) (new : Option FileMap) (files : FileMap) (o : LeavesOthers new files (MayGo place all)) → HasNone place all o.now → (r : Registry) (q : List ℕ) → is_named r ≡ true → IsPathOf place r q
      → file_at o.now q ≡ cond (is_reset all r) None (file_at files q)
  file_left all new files o gone r q named of_it =
      elim (cases_Bool (is_reset all r)) [
        | inl t ↦ gone r named t q of_it ∙ sym (ap (λ (b : Bool). cond b None (file_at files q)) t)
        | inr f ↦ stayed f (o.each q) ∙ sym (ap (λ (b : Bool). cond b None (file_at files q)) f)
      ]
    where
      stayed : is_reset all r ≡ false → (file_at o.now q ≡ file_at files q) ⊎ (MayGo place all q × (file_at o.now q ≡ None)) → file_at o.now q ≡ file_at files q
      stayed f (inl same) = same
      stayed f (inr went) = absurd (not_reset all r q f of_it went.0)

  file_partly : (all : Bool) (new : Option FileMap) (files : FileMap) (o : LeavesOthers new files (MayGo place all)) (r : Registry) (q : List ℕ) → IsPathOf place r q
      → (file_at o.now q ≡ file_at files q) ⊎ ((is_reset all r ≡ true) × (file_at o.now q ≡ None))
  file_partly all new files o r q of_it = by (o.each q)
    where
      by : (file_at o.now q ≡ file_at files q) ⊎ (MayGo place all q × (file_at o.now q ≡ None)) → (file_at o.now q ≡ file_at files q) ⊎ ((is_reset all r ≡ true) × (file_at o.now q ≡ None))
      by (inl same) = inl same
      by (inr went) =
          elim (cases_Bool (is_reset all r)) [
            | inl t ↦ inr (t, went.1)
            | inr f ↦ absurd (not_reset all r q f of_it went.0)
          ]

module _ {K X : Type 0} (named : K → Bool) (path : K → List ℕ) (read : K → List ℕ → Option X) (gone : K → Bool) (files now : FileMap) where
  abbrev entries : FileMap → K → Entry X
  entries f k = cond (named k) (entry_by (read k) (file_at f (path k))) Absent

  gone_or_read : (g : Bool) (k : K) (o : Option (List ℕ)) → entry_by (read k) (cond g None o) ≡ cond g Absent (entry_by (read k) o)
  gone_or_read true k o = refl
  gone_or_read false k o = refl

  the_same : (g : Bool) (e : Entry X) → e ≡ cond g e e
  the_same true e = refl
  the_same false e = refl

  entries_left : ((k : K) → named k ≡ true → file_at now (path k) ≡ cond (gone k) None (file_at files (path k))) → SameEntries (entries now) (without_entries gone (entries files))
  entries_left left k =
      elim (cases_Bool (named k)) [
        | inl t ↦ rw t (ap (entry_by (read k)) (left k t) ∙ gone_or_read (gone k) k (file_at files (path k)))
        | inr f ↦ rw f (the_same (gone k) Absent)
      ]

  entry_partly : (k : K) → (file_at now (path k) ≡ file_at files (path k)) ⊎ ((gone k ≡ true) × (file_at now (path k) ≡ None))
      → (entry_by (read k) (file_at now (path k)) ≡ entry_by (read k) (file_at files (path k))) ⊎ ((gone k ≡ true) × (entry_by (read k) (file_at now (path k)) ≡ Absent))
  entry_partly k (inl same) = inl (ap (entry_by (read k)) same)
  entry_partly k (inr went) = inr (went.0, ap (entry_by (read k)) went.1)

  entries_partly : ((k : K) → named k ≡ true → (file_at now (path k) ≡ file_at files (path k)) ⊎ ((gone k ≡ true) × (file_at now (path k) ≡ None))) → ArePartlyGone gone (entries files) (entries now)
  entries_partly left k =
      elim (cases_Bool (named k)) [
        | inl t ↦ rw t (entry_partly k (left k t))
        | inr f ↦ rw f (inl refl)
      ]

of_named : (p : Package) → is_log p ≡ true → is_named p.0 ≡ true
of_named p e = (and_parts (is_named p.0) (are_bytes p.1) e).0

-- a file that is as it was or gone, as what is to be published
pub publish_partly : {P : Type 0} {now old : Option (List ℕ)} → (now ≡ old) ⊎ (P × (now ≡ None)) → (entry_by publish_of now ≡ entry_by publish_of old) ⊎ (entry_by publish_of now ≡ Absent)
publish_partly (inl same) = inl (ap (entry_by publish_of) same)
publish_partly (inr gone) = inr (ap (entry_by publish_of) gone.1)

-- either reset is one of the home registry
home_goes : (all : Bool) → is_reset all None ≡ true
home_goes true = refl
home_goes false = refl

module _ (place after : Place) (stays : after ≡ place) (single : has_slash place.own ≡ false) (all : Bool) where
  tells_now : (new : Option FileMap) (now : FileMap) → new ≡ Some now → option_map (held_in after) new ≡ Some (held_in place now)
  tells_now new now tells = ap (λ (p : Place). option_map (held_in p) new) stays ∙ ap (option_map (held_in place)) tells

  pub reset_tells : (old new : Option FileMap) → IfSome old (λ files. LeavesOthers new files (MayGo place all)) → IfSome old (λ _. IfSome new (HasNone place all)) → IfSome (option_map (held_in place) old) (λ held. Tells (option_map (held_in after) new) (after_reset all held))
  reset_tells None new others gone = tt
  reset_tells (Some files) new others gone =
      let none = if_some (HasNone place all) new others.now others.tells gone in
      record {
        now = held_in place others.now;
        tells = tells_now new others.now others.tells;
        same = record {
          checkpoints = entries_left is_named (checkpoint_path place) (λ _. checkpoint_of) (is_reset all) files others.now (λ r named. file_left place single all new files others none r (checkpoint_path place r) named (inl refl));
          operators = entries_left is_named (operator_path place) (λ _. operator_of) (is_reset all) files others.now (λ r named. file_left place single all new files others none r (operator_path place r) named (inr (inl refl)));
          packages = entries_left is_log (package_path place) (λ p. package_with_id p.1) (λ p. is_reset all p.0) files others.now (λ p named. file_left place single all new files others none p.0 (package_path place p) (of_named p named) (inr (inr (inr (p.1, refl)))));
          publish = ap (entry_by publish_of) (none None refl (home_goes all) (publish_path place) (inr (inr (inl (refl, refl)))));
        };
      }

  pub reset_leaves : (old new : Option FileMap) → IfSome old (λ files. LeavesOthers new files (MayGo place all)) → IfSome (option_map (held_in place) old) (LeavesReset (option_map (held_in after) new) all)
  reset_leaves None new others = tt
  reset_leaves (Some files) new others = (
    held_in place others.now,
    tells_now new others.now others.tells,
    record {
      checkpoints = entries_partly is_named (checkpoint_path place) (λ _. checkpoint_of) (is_reset all) files others.now (λ r named. file_partly place single all new files others r (checkpoint_path place r) (inl refl));
      operators = entries_partly is_named (operator_path place) (λ _. operator_of) (is_reset all) files others.now (λ r named. file_partly place single all new files others r (operator_path place r) (inr (inl refl)));
      packages = entries_partly is_log (package_path place) (λ p. package_with_id p.1) (λ p. is_reset all p.0) files others.now (λ p named. file_partly place single all new files others p.0 (package_path place p) (inr (inr (inr (p.1, refl)))));
      publish = publish_partly (others.each (publish_path place));
    },
  )
