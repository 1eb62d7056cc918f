-- What is held of registries, after a file was written.
use Rattle.std.proofs.Common.{◌≡◌, ◌<◌, ◌≤◌, ℕ, Bool, true, false, true≢false, cond, List, length, take, bytes_eq, Option, Some, None, IfSome, Result, Ok, Err, OnErr, option_map, refl, sym, ap, subst, ◌∙◌, ◌⊎◌, inl, inr}
use Rattle.std.specs.Option.{option_map_or}
use Rattle.std.specs.Cmp.Lexicographic.{nat_list_cmp_total, nat_list_eq_equiv}
use Rattle.std.specs.FinMap as map
use Rattle.std.proofs.lemmas.Bool.{cases_Bool, cases_lt}
use Rattle.std.proofs.lemmas.List.{take_all}
use Rattle.std.proofs.lemmas.Map.Text.{is_eq-slice_cmp}
use Rattle.warg_base.specs.Files.{FileMap, LeavesPartlyWritten, file_at, with_file}
use Rattle.warg_info_text.specs.StoredTexts.{checkpoint_of, operator_of}
use Rattle.warg_store.specs.Entry.{Entry, Absent, Whole, Unreadable, SameEntries, with_entry}
use Rattle.warg_publish_text.specs.PublishText.{publish_of}
use Rattle.warg_store.specs.Held.{Held, LeavesStore, Package, Registry, SameHeld, Tells, is_package, is_registry, with_checkpoint, with_operator, with_package, with_publish}
use Rattle.warg_registry_files.specs.Paths.{Place, checkpoint_path, has_slash, is_log, is_named, operator_path, package_path, publish_path}
use Rattle.warg_registry_files.specs.RegistryFiles.{entry_by, held_in, package_with_id}
use Rattle.warg_registry_files.proofs.KeyLaws.{checkpoint_no_operator, checkpoint_no_package, checkpoint_no_publish, checkpoints_apart, key_package, key_registry, operator_no_checkpoint, operator_no_package, operator_no_publish, operators_apart, package_no_checkpoint, package_no_operator, package_no_publish, packages_apart, publish_no_checkpoint, publish_no_operator, publish_no_package}

-- the file at a path, after a write
file_after : (files : FileMap) (path bytes q : List ℕ) → file_at (with_file files path bytes) q ≡ cond (bytes_eq q path) (Some bytes) (file_at files q)
file_after files path bytes q =
    map.get-insert nat_list_cmp_total files path bytes q ∙ ap (λ (b : Bool). cond b (Some bytes) (file_at files q)) (is_eq-slice_cmp q path)

-- ---- entries of one kind, by their keys

module _ {K X : Type 0} (named : K → Bool) (is_key : K → K → Bool) (path : K → List ℕ) (read : K → List ℕ → Option X) where
  abbrev entries : FileMap → K → Entry X
  entries files k = cond (named k) (entry_by (read k) (file_at files (path k))) Absent

  choose : (b : Bool) (key k : K) (text : List ℕ) (o : Option (List ℕ)) → (b ≡ true → key ≡ k) → entry_by (read k) (cond b (Some text) o) ≡ cond b (entry_by (read key) (Some text)) (entry_by (read k) o)
  choose true key k text o is = ap (λ (x : K). entry_by (read x) (Some text)) (sym (is refl))
  choose false key k text o is = refl

  here : (files : FileMap) (key k : K) (text : List ℕ) → bytes_eq (path k) (path key) ≡ is_key key k → (is_key key k ≡ true → key ≡ k)
      → entry_by (read k) (file_at (with_file files (path key) text) (path k)) ≡ cond (is_key key k) (entry_by (read key) (Some text)) (entry_by (read k) (file_at files (path k)))
  here files key k text apart is =
      ap (entry_by (read k)) (file_after files (path key) text (path k) ∙ ap (λ (b : Bool). cond b (Some text) (file_at files (path k))) apart) ∙ choose (is_key key k) key k text (file_at files (path k)) is

  no_key : (key k : K) → named key ≡ true → named k ≡ false → (is_key key k ≡ true → key ≡ k) → is_key key k ≡ false
  no_key key k own none is =
      elim (cases_Bool (is_key key k)) [
        | inl t ↦ absurd (true≢false (sym own ∙ ap named (is t) ∙ none))
        | inr f ↦ f
      ]

  -- the entry of the file that was written is the one of its bytes
  written_here : (files : FileMap) (key : K) (text : List ℕ) → named key ≡ true → ((k : K) → named k ≡ true → bytes_eq (path k) (path key) ≡ is_key key k) → ((k : K) → is_key key k ≡ true → key ≡ k)
      → SameEntries (entries (with_file files (path key) text)) (with_entry is_key (entries files) key (entry_by (read key) (Some text)))
  written_here files key text own apart is k =
      elim (cases_Bool (named k)) [
        | inl t ↦ rw t (here files key k text (apart k t) (is k))
        | inr f ↦ rw f (sym (ap (λ (b : Bool). cond b (entry_by (read key) (Some text)) Absent) (no_key key k own f (is k))))
      ]

  -- no entry is of the file that was written
  written_elsewhere : (files : FileMap) (at text : List ℕ) → ((k : K) → named k ≡ true → bytes_eq (path k) at ≡ false) → SameEntries (entries (with_file files at text)) (entries files)
  written_elsewhere files at text apart k =
      elim (cases_Bool (named k)) [
        | inl t ↦ rw t (ap (entry_by (read k)) (file_after files at text (path k) ∙ ap (λ (b : Bool). cond b (Some text) (file_at files (path k))) (apart k t)))
        | inr f ↦ rw f refl
      ]

-- ---- what is held, after a file of an entry was written

-- what is to be published, where another file was written
publish_elsewhere : (place : Place) (files : FileMap) (at text : List ℕ) → bytes_eq (publish_path place) at ≡ false → entry_by publish_of (file_at (with_file files at text) (publish_path place)) ≡ entry_by publish_of (file_at files (publish_path place))
publish_elsewhere place files at text apart =
    ap (entry_by publish_of) (file_after files at text (publish_path place) ∙ ap (λ (b : Bool). cond b (Some text) (file_at files (publish_path place))) apart)

module _ (place : Place) (single : has_slash place.own ≡ false) where
  pub checkpoint_written : (r : Registry) → is_named r ≡ true → (files : FileMap) (text : List ℕ)
      → SameHeld (held_in place (with_file files (checkpoint_path place r) text)) (with_checkpoint (held_in place files) r (entry_by checkpoint_of (Some text)))
  checkpoint_written r named files text = record {
    checkpoints = written_here is_named is_registry (checkpoint_path place) (λ _. checkpoint_of) files r text named (λ k of_k. checkpoints_apart place single r k named of_k) (key_registry r);
    operators = written_elsewhere is_named is_registry (operator_path place) (λ _. operator_of) files (checkpoint_path place r) text (λ k of_k. operator_no_checkpoint place single k r);
    packages = written_elsewhere is_log is_package (package_path place) (λ p. package_with_id p.1) files (checkpoint_path place r) text (λ p of_p. package_no_checkpoint place single p r);
    publish = publish_elsewhere place files (checkpoint_path place r) text (publish_no_checkpoint place single r);
  }

  pub operator_written : (r : Registry) → is_named r ≡ true → (files : FileMap) (text : List ℕ)
      → SameHeld (held_in place (with_file files (operator_path place r) text)) (with_operator (held_in place files) r (entry_by operator_of (Some text)))
  operator_written r named files text = record {
    checkpoints = written_elsewhere is_named is_registry (checkpoint_path place) (λ _. checkpoint_of) files (operator_path place r) text (λ k of_k. checkpoint_no_operator place single k r);
    operators = written_here is_named is_registry (operator_path place) (λ _. operator_of) files r text named (λ k of_k. operators_apart place single r k named of_k) (key_registry r);
    packages = written_elsewhere is_log is_package (package_path place) (λ p. package_with_id p.1) files (operator_path place r) text (λ p of_p. package_no_operator place single p r);
    publish = publish_elsewhere place files (operator_path place r) text (publish_no_operator place single r);
  }

  pub package_written : (p : Package) → is_log p ≡ true → (files : FileMap) (text : List ℕ)
      → SameHeld (held_in place (with_file files (package_path place p) text)) (with_package (held_in place files) p (entry_by (package_with_id p.1) (Some text)))
  package_written p named files text = record {
    checkpoints = written_elsewhere is_named is_registry (checkpoint_path place) (λ _. checkpoint_of) files (package_path place p) text (λ k of_k. checkpoint_no_package place single k p);
    operators = written_elsewhere is_named is_registry (operator_path place) (λ _. operator_of) files (package_path place p) text (λ k of_k. operator_no_package place single k p);
    packages = written_here is_log is_package (package_path place) (λ q. package_with_id q.1) files p text named (λ q of_q. packages_apart place single p q named of_q) (key_package p);
    publish = publish_elsewhere place files (package_path place p) text (publish_no_package place single p);
  }

  pub publish_written : (files : FileMap) (text : List ℕ)
      → SameHeld (held_in place (with_file files (publish_path place) text)) (with_publish (held_in place files) (entry_by publish_of (Some text)))
  publish_written files text = record {
    checkpoints = written_elsewhere is_named is_registry (checkpoint_path place) (λ _. checkpoint_of) files (publish_path place) text (λ k of_k. checkpoint_no_publish place single k);
    operators = written_elsewhere is_named is_registry (operator_path place) (λ _. operator_of) files (publish_path place) text (λ k of_k. operator_no_publish place single k);
    packages = written_elsewhere is_log is_package (package_path place) (λ p. package_with_id p.1) files (publish_path place) text (λ p of_p. package_no_publish place single p);
    publish = ap (entry_by publish_of) (file_after files (publish_path place) text (publish_path place) ∙ ap (λ (b : Bool). cond b (Some text) (file_at files (publish_path place))) (nat_list_eq_equiv.refl (publish_path place)));
  }

-- ---- what a store tells

-- what is written of a value, and how its fronts are read
pub record IsWritten {X : Type 0} (read : List ℕ → Option X) (text : List ℕ) (x : X) : Type 0 where
  pub whole : read text ≡ Some x
  pub front : (n : ℕ) → n < length text → read (take n text) ≡ None

same_held : (held : Held) → SameHeld held held
same_held held = record { checkpoints = λ k. refl; operators = λ k. refl; packages = λ k. refl; publish = refl }

-- a store whose files are as they were
pub told_still : (place after : Place) (old new : Option FileMap) → after ≡ place → new ≡ old → IfSome (option_map (held_in place) old) (Tells (option_map (held_in after) new))
told_still place after None new stays same = tt
told_still place after (Some files) new stays same = record {
  now = held_in place files;
  tells = ap (λ (p : Place). option_map (held_in p) new) stays ∙ ap (option_map (held_in place)) same;
  same = same_held (held_in place files);
}

module _ {X : Type 0} (read : List ℕ → Option X) (place : Place) (path : List ℕ) (with_it : Held → Entry X → Held) (same : (files : FileMap) (text : List ℕ) → SameHeld (held_in place (with_file files path text)) (with_it (held_in place files) (entry_by read (Some text)))) where
  tells_written : (files : FileMap) (new : Option FileMap) (text : List ℕ) (e : Entry X) → entry_by read (Some text) ≡ e → new ≡ Some (with_file files path text) → Tells (option_map (held_in place) new) (with_it (held_in place files) e)
  tells_written files new text e is written = record {
    now = held_in place (with_file files path text);
    tells = ap (option_map (held_in place)) written;
    same = subst (λ (x : Entry X). SameHeld (held_in place (with_file files path text)) (with_it (held_in place files) x)) is (same files text);
  }

  read_as : (o p : Option X) → o ≡ p → option_map_or Whole o Unreadable ≡ option_map_or Whole p Unreadable
  read_as o p is = ap (λ (x : Option X). option_map_or Whole x Unreadable) is

  stored_here : (old new : Option FileMap) (text : List ℕ) (x : X) → IsWritten read text x → IfSome old (λ files. new ≡ Some (with_file files path text))
      → IfSome (option_map (held_in place) old) (λ held. Tells (option_map (held_in place) new) (with_it held (Whole x)))
  stored_here None new text x reads written = tt
  stored_here (Some files) new text x reads written = tells_written files new text (Whole x) (read_as (read text) (Some x) reads.whole) written

  cut : (files : FileMap) (new : Option FileMap) (text : List ℕ) (x : X) (n : ℕ) → IsWritten read text x → new ≡ Some (with_file files path (take n text)) → (n < length text) ⊎ (length text ≤ n) → LeavesStore (option_map (held_in place) new) (held_in place files) (with_it (held_in place files)) x
  cut files new text x n reads written (inl lt) = inr (inr (tells_written files new (take n text) Unreadable (read_as (read (take n text)) None (reads.front n lt)) written))
  cut files new text x n reads written (inr le) = inr (inl (tells_written files new text (Whole x) (read_as (read text) (Some x) reads.whole) (written ∙ ap (λ bytes. Some (with_file files path bytes)) (take_all n text le))))

  refused_here : (old new : Option FileMap) (text : List ℕ) (x : X) → IsWritten read text x → LeavesPartlyWritten old new path text
      → IfSome (option_map (held_in place) old) (λ held. LeavesStore (option_map (held_in place) new) held (with_it held) x)
  refused_here None new text x reads left = tt
  refused_here (Some files) new text x reads (after, tells, inl as_it_was) = inl (told_still place place (Some files) new refl (tells ∙ ap Some as_it_was))
  refused_here (Some files) new text x reads (after, tells, inr (n, front)) = cut files new text x n reads (tells ∙ ap Some front) (cases_lt n (length text))

  -- a write that was made, by a store whose place stays, at the path and of the text
  pub stored_at : (after : Place) (old new : Option FileMap) (at bytes text : List ℕ) (x : X) → after ≡ place → at ≡ path → bytes ≡ text → IsWritten read text x
      → IfSome old (λ files. new ≡ Some (with_file files at bytes)) → IfSome (option_map (held_in place) old) (λ held. Tells (option_map (held_in after) new) (with_it held (Whole x)))
  stored_at after old new at bytes text x stays there is reads written =
      subst (λ (p : Place). IfSome (option_map (held_in place) old) (λ held. Tells (option_map (held_in p) new) (with_it held (Whole x)))) (sym stays)
      (stored_here old new text x reads
      (subst (λ (p : List ℕ). IfSome old (λ files. new ≡ Some (with_file files p text))) there (subst (λ (b : List ℕ). IfSome old (λ files. new ≡ Some (with_file files at b))) is written)))

  -- and one that was refused
  pub refused_at : (after : Place) (old new : Option FileMap) (at bytes text : List ℕ) (x : X) → after ≡ place → at ≡ path → bytes ≡ text → IsWritten read text x
      → LeavesPartlyWritten old new at bytes → IfSome (option_map (held_in place) old) (λ held. LeavesStore (option_map (held_in after) new) held (with_it held) x)
  refused_at after old new at bytes text x stays there is reads left =
      subst (λ (p : Place). IfSome (option_map (held_in place) old) (λ held. LeavesStore (option_map (held_in p) new) held (with_it held) x)) (sym stays)
      (refused_here old new text x reads
      (subst (λ (p : List ℕ). LeavesPartlyWritten old new p text) there (subst (λ (b : List ℕ). LeavesPartlyWritten old new at b) is left)))

-- ---- a write that was not made

pub nothing_written : {A E : Type 0} (r : Result A E) (old new : Option FileMap) (path text : List ℕ) → new ≡ old → OnErr r (LeavesPartlyWritten old new path text)
nothing_written (Ok a) old new path text same = tt
nothing_written (Err e) None new path text same = tt
nothing_written (Err e) (Some files) new path text same = (files, same, inl refl)

left_in : {X : Type 0} (place : Place) (old : Option FileMap) (with_it : Held → Entry X → Held) (x : X) → IfSome (option_map (held_in place) old) (λ held. LeavesStore (option_map (held_in place) old) held (with_it held) x)
left_in place None with_it x = tt
left_in place (Some files) with_it x = inl (told_still place place (Some files) (Some files) refl refl)

pub nothing_left : {A E X : Type 0} (r : Result A E) (place : Place) (old : Option FileMap) (with_it : Held → Entry X → Held) (x : X) → OnErr r (IfSome (option_map (held_in place) old) (λ held. LeavesStore (option_map (held_in place) old) held (with_it held) x))
nothing_left (Ok a) place old with_it x = tt
nothing_left (Err e) place old with_it x = left_in place old with_it x

-- what is so is so of a refusal
pub on_err_too : {A E P : Type 0} (r : Result A E) → P → OnErr r P
on_err_too (Ok a) p = tt
on_err_too (Err e) p = p

-- ---- loads

module _ {X Y : Type 0} (seen : Entry X → Entry Y) (place : Place) (pick : Held → Entry X) (named : Bool) (read : List ℕ → Option X) (path at : List ℕ) (is : (files : FileMap) → pick (held_in place files) ≡ cond named (entry_by read (file_at files path)) Absent) where
  -- what is read of an entry's file is what is held
  pub found_as : (told : Option FileMap) (found : Option (List ℕ)) (e : Entry Y) → named ≡ true → at ≡ path → IfSome told (λ files. file_at files at ≡ found) → seen (entry_by read found) ≡ e → IfSome (option_map (held_in place) told) (λ held. seen (pick held) ≡ e)
  found_as None found e of_it there stands same = tt
  found_as (Some files) found e of_it there stands same =
      ap seen (is files ∙ ap (λ (b : Bool). cond b (entry_by read (file_at files path)) Absent) of_it ∙ ap (λ (p : List ℕ). entry_by read (file_at files p)) (sym there) ∙ ap (entry_by read) stands) ∙ same
