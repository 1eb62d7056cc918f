-- The names that a file holds, after each change of the files.
use Rattle.std.proofs.Common.{◌≡◌, ◌<◌, ◌≤◌, ℕ, Bool, true, false, not, ◌||◌, cond, List, length, take, bytes_eq, Option, Some, None, IfSome, Result, Ok, Err, OnErr, option_map, refl, sym, ap, subst, ◌∙◌, ◌⊎◌, inl, inr}
use Rattle.std.specs.Option.{option_map_or}
use Rattle.std.specs.Ordering.{nat_cmp}
use Rattle.std.specs.declared.cmp.Ordering.TheVariants.{Equal}
use Rattle.std.specs.Cmp.Lexicographic.{slice_cmp, nat_list_cmp_total, nat_list_eq_equiv}
use Rattle.std.specs.FinMap as map
use Rattle.std.specs.FinMap.{nat_cmp-IsAntisymmetric, slice_cmp-IsAntisymmetric}
use Rattle.std.proofs.lemmas.Bool.{cases_lt}
use Rattle.std.proofs.lemmas.List.{take_all}
use Rattle.std.proofs.lemmas.Map.Text.{is_eq-slice_cmp}
use Rattle.warg_base.specs.Files.{FileMap, LeavesPartlyRemoved, LeavesPartlyWritten, file_at, is_under, with_file, without_path}
use Rattle.warg_store.specs.Entry.{Entry, Absent, Whole, Unreadable}
use Rattle.warg_store.specs.Namespaces.{Names, LeavesNames, LeavesNamesReset}
use Rattle.warg_namespace_files.specs.NamespaceFile.{names_in, names_text, entry_in, held_at}

-- ---- writes

-- the file that was written
file_after : (files : FileMap) (path bytes : List ℕ) → file_at (with_file files path bytes) path ≡ Some bytes
file_after files path bytes =
    map.get-insert nat_list_cmp_total files path bytes path ∙ ap (λ b. cond b (Some bytes) (file_at files path)) (is_eq-slice_cmp path path ∙ nat_list_eq_equiv.refl path)

-- bytes that can be read
held_whole : (files : FileMap) (path bytes : List ℕ) (names : Names) → names_in bytes ≡ Some names → held_at path (with_file files path bytes) ≡ Whole names
held_whole files path bytes names read = ap entry_in (file_after files path bytes) ∙ ap (λ (o : Option Names). option_map_or Whole o Unreadable) read

-- bytes that can't
held_damaged : (files : FileMap) (path bytes : List ℕ) → names_in bytes ≡ None → held_at path (with_file files path bytes) ≡ Unreadable
held_damaged files path bytes unread = ap entry_in (file_after files path bytes) ∙ ap (λ (o : Option Names). option_map_or Whole o Unreadable) unread

-- what is written of names, and how its fronts are read
pub record IsWritten (text : List ℕ) (names : Names) : Type 0 where
  pub whole : names_in text ≡ Some names
  pub front : (n : ℕ) → n < length text → names_in (take n text) ≡ None

-- names that were written
pub tells_written : (old new : Option FileMap) (path text : List ℕ) (names : Names) → IsWritten text names → IfSome old (λ files. new ≡ Some (with_file files path text))
    → IfSome (option_map (held_at path) old) (λ held. option_map (held_at path) new ≡ Some (Whole names))
tells_written None new path text names is written = tt
tells_written (Some files) new path text names is written = ap (option_map (held_at path)) written ∙ ap Some (held_whole files path text names is.whole)

cut_write : (files : FileMap) (path text : List ℕ) (names : Names) (n : ℕ) → IsWritten text names → (n < length text) ⊎ (length text ≤ n)
    → (held_at path (with_file files path (take n text)) ≡ Whole names) ⊎ (held_at path (with_file files path (take n text)) ≡ Unreadable)
cut_write files path text names n is (inl lt) = inr (held_damaged files path (take n text) (is.front n lt))
cut_write files path text names n is (inr le) = inl (ap (λ bytes. held_at path (with_file files path bytes)) (take_all n text le) ∙ held_whole files path text names is.whole)

new_or_damaged : (told : Option (Entry Names)) (held entry : Entry Names) (names : Names) → told ≡ Some entry → (entry ≡ Whole names) ⊎ (entry ≡ Unreadable) → LeavesNames told held names
new_or_damaged told held entry names tells (inl whole) = inr (inl (tells ∙ ap Some whole))
new_or_damaged told held entry names tells (inr damaged) = inr (inr (tells ∙ ap Some damaged))

-- a write of names that was refused
pub leaves_written : (old new : Option FileMap) (path text : List ℕ) (names : Names) → IsWritten text names → LeavesPartlyWritten old new path text
    → IfSome (option_map (held_at path) old) (λ held. LeavesNames (option_map (held_at path) new) held names)
leaves_written None new path text names is left = tt
leaves_written (Some files) new path text names is (after, tells, inl same) = inl (ap (option_map (held_at path)) (tells ∙ ap Some same))
leaves_written (Some files) new path text names is (after, tells, inr (n, front)) =
    new_or_damaged _ (held_at path files) (held_at path (with_file files path (take n text))) names
    (ap (option_map (held_at path)) (tells ∙ ap Some front)) (cut_write files path text names n is (cases_lt n (length text)))

-- a write that was not made
pub nothing_written : (old new : Option FileMap) (path : List ℕ) (text : FileMap → List ℕ) → new ≡ old → IfSome old (λ files. LeavesPartlyWritten old new path (text files))
nothing_written None new path text same = tt
nothing_written (Some files) new path text same = (files, same, inl refl)

-- what is so is so of a refusal
pub on_err_too : {X E P : Type 0} (r : Result X E) → P → OnErr r P
on_err_too (Ok x) p = tt
on_err_too (Err e) p = p

-- ---- removals

one_path : (p q : List ℕ) → slice_cmp nat_cmp p q ≡ Equal → p ≡ q
one_path = slice_cmp-IsAntisymmetric nat_cmp-IsAntisymmetric

-- the file at a path, once only some files are kept
file_kept : (files : FileMap) (stays : List ℕ → Bool) (q : List ℕ) → file_at (map.retain_keys files stays) q ≡ cond (stays q) (file_at files q) None
file_kept files stays q = map.get-retain_keys files stays q (λ x tie. ap stays (sym (one_path q x tie)))

itself_gone : (b c : Bool) → b ≡ true → not (b || c) ≡ false
itself_gone true c e = refl
itself_gone false c e = absurd cc

gone : (files : FileMap) (path : List ℕ) → held_at path (without_path files path) ≡ Absent
gone files path =
    ap entry_in (file_kept files (λ q. not (bytes_eq q path || is_under path q)) path
    ∙ ap (λ b. cond b (file_at files path) None) (itself_gone (bytes_eq path path) (is_under path path) (nat_list_eq_equiv.refl path)))

pub tells_reset : (old new : Option FileMap) (path : List ℕ) → IfSome old (λ files. new ≡ Some (without_path files path))
    → IfSome (option_map (held_at path) old) (λ held. option_map (held_at path) new ≡ Some Absent)
tells_reset None new path removed = tt
tells_reset (Some files) new path removed = ap (option_map (held_at path)) removed ∙ ap Some (gone files path)

kept_or_gone : (b : Bool) (o : Option (List ℕ)) → (entry_in (cond b o None) ≡ entry_in o) ⊎ (entry_in (cond b o None) ≡ Absent)
kept_or_gone true o = inl refl
kept_or_gone false o = inr refl

one_of_two : (told : Option (Entry Names)) (held entry : Entry Names) → told ≡ Some entry → (entry ≡ held) ⊎ (entry ≡ Absent) → LeavesNamesReset told held
one_of_two told held entry tells (inl same) = inl (tells ∙ ap Some same)
one_of_two told held entry tells (inr none) = inr (tells ∙ ap Some none)

partly : (files : FileMap) (path : List ℕ) (stays : List ℕ → Bool) → (held_at path (map.retain_keys files stays) ≡ held_at path files) ⊎ (held_at path (map.retain_keys files stays) ≡ Absent)
partly files path stays = rw (file_kept files stays path) (kept_or_gone (stays path) (file_at files path))

pub leaves_reset : (old new : Option FileMap) (path : List ℕ) → LeavesPartlyRemoved old new path
    → IfSome (option_map (held_at path) old) (LeavesNamesReset (option_map (held_at path) new))
leaves_reset None new path left = tt
leaves_reset (Some files) new path (after, tells, (stays, is)) =
    one_of_two _ (held_at path files) (held_at path after) (ap (option_map (held_at path)) tells)
    (rw is (partly files path (λ q. not (bytes_eq q path || is_under path q) || stays q)))

-- ---- the same of names, whose text was written at a path

pub stored_names : (old new : Option FileMap) (path at text : List ℕ) (names : Names) → at ≡ path → text ≡ names_text names → IsWritten (names_text names) names
    → IfSome old (λ files. new ≡ Some (with_file files at text)) → IfSome (option_map (held_at path) old) (λ held. option_map (held_at path) new ≡ Some (Whole names))
stored_names old new path at text names there is reads written =
    tells_written old new path (names_text names) names reads
    (subst (λ (p : List ℕ). IfSome old (λ files. new ≡ Some (with_file files p (names_text names)))) there
    (subst (λ (t : List ℕ). IfSome old (λ files. new ≡ Some (with_file files at t))) is written))

pub refused_names : (old new : Option FileMap) (path at text : List ℕ) (names : Names) → at ≡ path → text ≡ names_text names → IsWritten (names_text names) names
    → LeavesPartlyWritten old new at text → IfSome (option_map (held_at path) old) (λ held. LeavesNames (option_map (held_at path) new) held names)
refused_names old new path at text names there is reads left =
    leaves_written old new path (names_text names) names reads
    (subst (λ (p : List ℕ). LeavesPartlyWritten old new p (names_text names)) there (subst (λ (t : List ℕ). LeavesPartlyWritten old new at t) is left))

-- a write of one text that was not made
pub nothing_written_here : (old new : Option FileMap) (path text : List ℕ) → new ≡ old → LeavesPartlyWritten old new path text
nothing_written_here None new path text same = tt
nothing_written_here (Some files) new path text same = (files, same, inl refl)
