-- The contents that files hold, after each change of the files.
use Rattle.std.proofs.Common.{◌≡◌, ℕ, Bool, true, false, not, ◌||◌, cond, List, ◌++◌, length, take, codes, bytes_eq, Option, Some, None, is_some, IfSome, Result, Ok, Err, OnErr, option_map, refl, sym, ap, ◌∙◌, ◌⊎◌, inl, inr}
use Rattle.std.specs.Ordering.{nat_cmp}
use Rattle.std.specs.declared.cmp.Ordering.TheVariants.{Equal}
use Rattle.std.specs.Cmp.{both_ways}
use Rattle.hex.specs.Hex.{encode_lower}
use Rattle.std.specs.Cmp.Lexicographic.{slice_cmp, nat_list_cmp_total, nat_list_eq_equiv}
use Rattle.std.specs.FinMap as map
use Rattle.std.specs.FinMap.{nat_cmp-IsAntisymmetric, slice_cmp-IsAntisymmetric}
use Rattle.std.proofs.lemmas.Bool.{cases_Bool}
use Rattle.std.proofs.lemmas.List.{take_at}
use Rattle.std.proofs.lemmas.Map.Text.{is_eq-slice_cmp}
use Rattle.std.proofs.lemmas.Slice.Eq.{bytes_eq-Decides}
use Rattle.sha2.specs.Sha256.{sha256}
use Rattle.warg_base.specs.Files.{FileMap, LeavesPartlyRemoved, LeavesPartlyWritten, file_at, is_under, with_file, without_path}
use Rattle.warg_store.specs.Contents.{TellsContents, LeavesCleared, LeavesContent, ArePartlyCleared, SameContents, with_content}
use Rattle.warg_content_files.specs.ContentFiles.{content_path, contents_in, is_digest}
use Rattle.warg_content_files.proofs.DigestLaws.{one_digest}

-- ---- one file more

-- the file at a path, after a write
file_after : (files : FileMap) (path bytes q : List ℕ) → file_at (with_file files path bytes) q ≡ cond (bytes_eq q path) (Some bytes) (file_at files q)
file_after files path bytes q =
    map.get-insert nat_list_cmp_total files path bytes q ∙ ap (λ b. cond b (Some bytes) (file_at files q)) (is_eq-slice_cmp q path)

-- paths are told apart as digests are
paths_as_digests : (folder a b : List ℕ) → is_digest a ≡ true → is_digest b ≡ true → bytes_eq (content_path folder b) (content_path folder a) ≡ bytes_eq a b
paths_as_digests folder a b of_a of_b =
    both_ways _ _
    (λ t. (bytes_eq-Decides a b).1 (sym (one_digest folder b a of_b of_a ((bytes_eq-Decides _ _).0 t))))
    (λ t. (bytes_eq-Decides _ _).1 (ap (content_path folder) (sym ((bytes_eq-Decides a b).0 t))))

-- a digest and what is none are not the same
not_same : (a b : List ℕ) → is_digest a ≡ true → is_digest b ≡ false → bytes_eq a b ≡ false
not_same a b of_a none =
    elim (cases_Bool (bytes_eq a b)) [
      | inl t ↦ let same : a ≡ b = (bytes_eq-Decides a b).0 t in let e : true ≡ false = sym of_a ∙ ap is_digest same ∙ none in absurd cc
      | inr f ↦ f
    ]

-- the contents, after a content was written
same_after : (folder digest bytes : List ℕ) (files : FileMap) → is_digest digest ≡ true → SameContents (contents_in folder (with_file files (content_path folder digest) bytes)) (with_content (contents_in folder files) digest bytes)
same_after folder digest bytes files of_it d =
    elim (cases_Bool (is_digest d)) [
      | inl t ↦ rw t (file_after files (content_path folder digest) bytes (content_path folder d) ∙ ap (λ b. cond b (Some bytes) (file_at files (content_path folder d))) (paths_as_digests folder digest d of_it t))
      | inr f ↦ rw (f, not_same digest d of_it f) refl
    ]

-- ---- what a store tells

-- the files after a content was written, as a store tells them
tells_after : (files : FileMap) (new : Option FileMap) (folder path digest bytes : List ℕ) → is_digest digest ≡ true → path ≡ content_path folder digest → new ≡ Some (with_file files path bytes) → TellsContents (option_map (contents_in folder) new) (with_content (contents_in folder files) digest bytes)
tells_after files new folder path digest bytes of_it at written = record {
  now = contents_in folder (with_file files (content_path folder digest) bytes);
  tells = ap (option_map (contents_in folder)) (written ∙ ap (λ p. Some (with_file files p bytes)) at);
  same = same_after folder digest bytes files of_it;
}

-- a store that wrote a content
pub tells_stored : (old new : Option FileMap) (folder path digest bytes : List ℕ) → is_digest digest ≡ true → path ≡ content_path folder digest → IfSome old (λ files. new ≡ Some (with_file files path bytes)) → IfSome (option_map (contents_in folder) old) (λ held. TellsContents (option_map (contents_in folder) new) (with_content held digest bytes))
tells_stored None new folder path digest bytes of_it at written = tt
tells_stored (Some files) new folder path digest bytes of_it at written = tells_after files new folder path digest bytes of_it at written

-- a store whose files are as they were
pub tells_same : (old new : Option FileMap) (folder : List ℕ) → new ≡ old → IfSome (option_map (contents_in folder) old) (TellsContents (option_map (contents_in folder) new))
tells_same None new folder same = tt
tells_same (Some files) new folder same = record {
  now = contents_in folder files;
  tells = ap (option_map (contents_in folder)) same;
  same = λ d. refl;
}

-- a store whose write was refused
pub leaves_written : (old new : Option FileMap) (folder path bytes : List ℕ) → is_digest (sha256 bytes) ≡ true → path ≡ content_path folder (sha256 bytes) → LeavesPartlyWritten old new path bytes → IfSome (option_map (contents_in folder) old) (λ held. LeavesContent (option_map (contents_in folder) new) held bytes)
leaves_written None new folder path bytes of_it at left = tt
leaves_written (Some files) new folder path bytes of_it at (after, tells, inl same) =
    inl (tells_same (Some files) new folder (tells ∙ ap Some same))
leaves_written (Some files) new folder path bytes of_it at (after, tells, inr (n, front)) =
    inr (n, tells_after files new folder path (sha256 bytes) (take n bytes) of_it at (tells ∙ ap Some front))

-- ---- clearing

-- a path that begins with a folder's lies under it
under : (folder rest : List ℕ) → is_under folder (folder ++ codes "/" ++ rest) ≡ true
under folder rest =
    rw (take_at (folder ++ codes "/") rest (length (folder ++ codes "/")) refl) (nat_list_eq_equiv.refl (folder ++ codes "/"))

-- paths are one where their order says so
one_path : (p q : List ℕ) → slice_cmp nat_cmp p q ≡ Equal → p ≡ q
one_path = slice_cmp-IsAntisymmetric nat_cmp-IsAntisymmetric

-- the file at a path, once only some files are kept
file_kept : (files : FileMap) (stays : List ℕ → Bool) (q : List ℕ) → file_at (map.retain_keys files stays) q ≡ cond (stays q) (file_at files q) None
file_kept files stays q = map.get-retain_keys files stays q (λ x tie. ap stays (sym (one_path q x tie)))

gone : (b c : Bool) → b ≡ true → not (c || b) ≡ false
gone true false e = refl
gone true true e = refl
gone false c e = absurd cc

kept_or_gone : (b : Bool) (o : Option (List ℕ)) → (cond b o None ≡ o) ⊎ (cond b o None ≡ None)
kept_or_gone true o = inl refl
kept_or_gone false o = inr refl

-- no content is held once their folder is gone
none_after : (folder : List ℕ) (files : FileMap) (d : List ℕ) → contents_in folder (without_path files folder) d ≡ None
none_after folder files d =
    elim (cases_Bool (is_digest d)) [
      | inl t ↦
          rw t (file_kept files (λ q. not (bytes_eq q folder || is_under folder q)) (content_path folder d)
          ∙ ap (λ b. cond b (file_at files (content_path folder d)) None) (gone _ _ (under folder (encode_lower d))))
      | inr f ↦ rw f refl
    ]

-- a store that cleared its contents
pub tells_cleared : (old new : Option FileMap) (folder : List ℕ) → IfSome old (λ files. new ≡ Some (without_path files folder)) → IfSome (option_map (contents_in folder) old) (λ held. TellsContents (option_map (contents_in folder) new) (λ _. None))
tells_cleared None new folder removed = tt
tells_cleared (Some files) new folder removed = record {
  now = contents_in folder (without_path files folder);
  tells = ap (option_map (contents_in folder)) removed;
  same = none_after folder files;
}

partly_after : (folder : List ℕ) (files : FileMap) (stays : List ℕ → Bool) → ArePartlyCleared (contents_in folder files) (contents_in folder (map.retain_keys files stays))
partly_after folder files stays d =
    elim (cases_Bool (is_digest d)) [
      | inl t ↦ rw (t, file_kept files stays (content_path folder d)) (kept_or_gone (stays (content_path folder d)) (file_at files (content_path folder d)))
      | inr f ↦ rw f (inl refl)
    ]

-- a store whose clearing was refused
pub leaves_cleared : (old new : Option FileMap) (folder : List ℕ) → LeavesPartlyRemoved old new folder → IfSome (option_map (contents_in folder) old) (LeavesCleared (option_map (contents_in folder) new))
leaves_cleared None new folder left = tt
leaves_cleared (Some files) new folder (after, tells, (stays, is)) = (
  contents_in folder (map.retain_keys files (λ q. not (bytes_eq q folder || is_under folder q) || stays q)),
  ap (option_map (contents_in folder)) (tells ∙ ap Some is),
  partly_after folder files (λ q. not (bytes_eq q folder || is_under folder q) || stays q),
)

-- ---- loads

-- what stands at a digest's path is what is held for it
pub held_at : (told : Option FileMap) (folder path digest : List ℕ) (found : Option (List ℕ)) → is_digest digest ≡ true → path ≡ content_path folder digest → IfSome told (λ files. file_at files path ≡ found) → IfSome (option_map (contents_in folder) told) (λ held. held digest ≡ found)
held_at None folder path digest found of_it at is = tt
held_at (Some files) folder path digest found of_it at is = rw of_it (ap (file_at files) (sym at) ∙ is)

-- whether a file stands at a digest's path is whether a content is held for it
pub held_there : (told : Option FileMap) (folder path digest : List ℕ) (there : Bool) → is_digest digest ≡ true → path ≡ content_path folder digest → IfSome told (λ files. there ≡ is_some (file_at files path)) → IfSome (option_map (contents_in folder) told) (λ held. there ≡ is_some (held digest))
held_there None folder path digest there of_it at is = tt
held_there (Some files) folder path digest there of_it at is = rw of_it (is ∙ ap (λ p. is_some (file_at files p)) at)

-- ---- files as they were

-- a write that was not made
pub nothing_written : (old new : Option FileMap) (path bytes : List ℕ) → new ≡ old → LeavesPartlyWritten old new path bytes
nothing_written None new path bytes same = tt
nothing_written (Some files) new path bytes same = (files, same, inl refl)

-- what is so is so of a refusal
pub on_err_too : {X E P : Type 0} (r : Result X E) → P → OnErr r P
on_err_too (Ok x) p = tt
on_err_too (Err e) p = p
