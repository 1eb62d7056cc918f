-- What is held once what is to be published was taken away.
use Rattle.std.proofs.Common.{◌≡◌, ℕ, Bool, true, false, not, ◌||◌, cond, nat_eq, bytes_eq, List, ◌∷◌, ◌++◌, codes, get_or, Option, Some, None, IfSome, Result, Ok, Err, OnErr, option_map, refl, sym, ap, ◌∙◌, ◌⊎◌, inl, inr}
use Rattle.std.specs.Cmp.Lexicographic.{nat_list_cmp_total}
use Rattle.std.specs.FinMap as map
use Rattle.warg_base.specs.Files.{FileMap, LeavesPartlyRemoved, file_at, is_under}
use Rattle.warg_info_text.specs.StoredTexts.{checkpoint_of, operator_of}
use Rattle.warg_publish.specs.Publish.{PlainPublishInfo}
use Rattle.warg_publish_text.specs.PublishText.{publish_of}
use Rattle.warg_store.specs.Entry.{Entry, Absent}
use Rattle.warg_store.specs.Held.{LeavesPublish, Registry, SameHeld, Tells, with_publish}
use Rattle.warg_registry_files.specs.Paths.{Place, checkpoint_path, folder_path, has_slash, is_log, is_named, operator_path, package_path, publish_path}
use Rattle.warg_registry_files.specs.RegistryFiles.{entry_by, held_in, package_with_id}
use Rattle.warg_registry_files.specs.Resets.{LeavesOthers}
use Rattle.warg_registry_files.proofs.KeyLaws.{apart_from_publish, log_name, package_at}
use Rattle.warg_registry_files.proofs.ResetLaws.{At, Gone, at_itself, file_kept, if_some, one_path, what_is_at}

-- a file that doesn't go is as it was
stays : {P : Type 0} (now old : Option (List ℕ)) → (P → ⊥) → (now ≡ old) ⊎ (P × (now ≡ None)) → now ≡ old
stays now old not (inl same) = same
stays now old not (inr gone) = absurd (not gone.0)

module _ (place : Place) (single : has_slash place.own ≡ false) where
  not_publish : (r : Registry) (q entry : List ℕ) → q ≡ folder_path place r ++ 47 ∷ entry → nat_eq (get_or entry 1 0) 101 ≡ false → At (publish_path place) q → ⊥
  not_publish r q entry is other at =
      let rest = what_is_at (publish_path place) q at in
      apart_from_publish place single r rest.0 entry other (sym rest.1 ∙ is)

  module _ (new : Option FileMap) (files : FileMap) (o : LeavesOthers new files (At (publish_path place))) where
    same_file : (r : Registry) (q entry : List ℕ) → q ≡ folder_path place r ++ 47 ∷ entry → nat_eq (get_or entry 1 0) 101 ≡ false → file_at o.now q ≡ file_at files q
    same_file r q entry is other = stays (file_at o.now q) (file_at files q) (not_publish r q entry is other) (o.each q)

    -- nothing but what is to be published changes
    same_but : (e : Entry PlainPublishInfo) → entry_by publish_of (file_at o.now (publish_path place)) ≡ e → SameHeld (held_in place o.now) (with_publish (held_in place files) e)
    same_but e is = record {
      checkpoints = λ r. ap (λ (f : Option (List ℕ)). cond (is_named r) (entry_by checkpoint_of f) Absent) (same_file r (checkpoint_path place r) (codes "checkpoint") refl refl);
      operators = λ r. ap (λ (f : Option (List ℕ)). cond (is_named r) (entry_by operator_of f) Absent) (same_file r (operator_path place r) (codes "operator.log") refl refl);
      packages = λ p. ap (λ (f : Option (List ℕ)). cond (is_log p) (entry_by (package_with_id p.1) f) Absent) (same_file p.0 (package_path place p) (log_name p.1) (package_at place p) refl);
      publish = is;
    }

    module _ (after : Place) (remains : after ≡ place) where
      tells_but : (e : Entry PlainPublishInfo) → entry_by publish_of (file_at o.now (publish_path place)) ≡ e → Tells (option_map (held_in after) new) (with_publish (held_in place files) e)
      tells_but e is = record {
        now = held_in place o.now;
        tells = ap (λ (p : Place). option_map (held_in p) new) remains ∙ ap (option_map (held_in place)) o.tells;
        same = same_but e is;
      }

      taken_in : Gone (publish_path place) o.now → Tells (option_map (held_in after) new) (with_publish (held_in place files) Absent)
      taken_in gone = tells_but Absent (ap (entry_by publish_of) (gone (publish_path place) (at_itself (publish_path place))))

      left_in : LeavesPublish (option_map (held_in after) new) (held_in place files) None
      left_in = by (o.each (publish_path place))
        where
          by : (file_at o.now (publish_path place) ≡ file_at files (publish_path place)) ⊎ (At (publish_path place) (publish_path place) × (file_at o.now (publish_path place) ≡ None)) → LeavesPublish (option_map (held_in after) new) (held_in place files) None
          by (inl same) = inl (tells_but (entry_by publish_of (file_at files (publish_path place))) (ap (entry_by publish_of) same))
          by (inr gone) = inr (tells_but Absent (ap (entry_by publish_of) gone.1))

-- a removal that was made, by a store whose place stays, at the path
pub publish_taken : (place after : Place) → has_slash place.own ≡ false → after ≡ place → (old new : Option FileMap) → IfSome old (λ files. LeavesOthers new files (At (publish_path place))) → IfSome old (λ _. IfSome new (Gone (publish_path place)))
    → IfSome (option_map (held_in place) old) (λ held. Tells (option_map (held_in after) new) (with_publish held Absent))
publish_taken place after single remains None new others gone = tt
publish_taken place after single remains (Some files) new others gone = taken_in place single new files others after remains (if_some (Gone (publish_path place)) new others.now others.tells gone)

-- and one that was refused
pub publish_left : (place after : Place) → has_slash place.own ≡ false → after ≡ place → (old new : Option FileMap) → IfSome old (λ files. LeavesOthers new files (At (publish_path place)))
    → IfSome (option_map (held_in place) old) (λ held. LeavesPublish (option_map (held_in after) new) held None)
publish_left place after single remains None new others = tt
publish_left place after single remains (Some files) new others = left_in place single new files others after remains

-- one that was not made
pub publish_unasked : (place : Place) (old : Option FileMap) → IfSome (option_map (held_in place) old) (λ held. LeavesPublish (option_map (held_in place) old) held None)
publish_unasked place None = tt
publish_unasked place (Some files) = inl (record { now = held_in place files; tells = refl; same = record { checkpoints = λ k. refl; operators = λ k. refl; packages = λ k. refl; publish = refl } })

or_true : (b : Bool) → (b || true) ≡ true
or_true true = refl
or_true false = refl

all_stay : (files : FileMap) (path : List ℕ) → files ≡ map.retain_keys files (λ q. not (bytes_eq q path || is_under path q) || true)
all_stay files path =
    sym (map.same_map nat_list_cmp_total one_path _ _ (λ q.
    file_kept files (λ x. not (bytes_eq x path || is_under path x) || true) q ∙ ap (λ (b : Bool). cond b (file_at files q) None) (or_true _)))

pub nothing_removed : {A E : Type 0} (r : Result A E) (told : Option FileMap) (path : List ℕ) → OnErr r (LeavesPartlyRemoved told told path)
nothing_removed (Ok a) told path = tt
nothing_removed (Err e) None path = tt
nothing_removed (Err e) (Some files) path = (files, refl, (λ _. true, all_stay files path))
