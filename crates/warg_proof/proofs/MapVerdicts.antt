-- The verdict on a path of a map, and what each answer says.
use Rattle.std.proofs.Common.{◌≡◌, ◌≢◌, ◌↔◌, ℕ, zero, suc, eqb, List, [], ◌∷◌, length, map, Option, Some, None, Ok, Err, refl, sym, ap, subst, ◌∙◌}
use Rattle.std.specs.Prelude.{slice_get, bytes_eq, IsOk}
use Rattle.std.specs.List.{AllByRecursion}
use Rattle.std.specs.Option.{option_map}
use Rattle.std.proofs.lemmas.Bool.{cond-true, cond-false, cond_both, false_from_ne_true, false≢true, eq-eqb}
use Rattle.std.proofs.lemmas.Option.{slice_get-map, same_Some, cond_some}
use Rattle.std.proofs.lemmas.Slice.Eq.{bytes_eq-Decides}
use Rattle.warg_proof.specs.declared.fault.ProofFault.TheVariants.{Form, Memory, WrongCount, WrongLeaf, WrongLength, MissingHash, OtherRoot}
use Rattle.warg_proof.specs.declared.map_bundle.SiblingPath.{SiblingPath}
use Rattle.warg_proof.specs.MapTree.{subtree_path_root, map_path_root}
use Rattle.warg_proof.specs.MapProofs.{MapPath, given_before, IsMapPath, IsMapBundle, siblings, log_key, ProvesValue}
use Rattle.warg_proof.specs.Judging.{Verdict, root_verdict, map_answer, map_verdict}
use Rattle.warg_proof.proofs.Siblings.{length-all, siblings_are_hashes}

-- a path without where it lies in memory
abbrev pub seen : SiblingPath → MapPath
seen path = record { given = path.given; siblings = path.siblings.items }

each_at : {A : Type 0} (Is : A → Type 0) (xs : List A) (i : ℕ) (x : A) → AllByRecursion Is xs → slice_get xs i ≡ Some x → Is x
each_at Is [] i x h e = absurd cc
each_at Is (y ∷ ys) zero x h e = subst Is (same_Some y x e) h.0
each_at Is (y ∷ ys) (suc i) x h e = each_at Is ys i x h.1 e

seen_at : (paths : List SiblingPath) (at : ℕ) (path : SiblingPath) → slice_get paths at ≡ Some path → slice_get (map seen paths) at ≡ Some (seen path)
seen_at paths at path e = slice_get-map seen paths at ∙ ap (option_map seen) e

-- there are as many siblings as bits that are 1
pub as_many_given : (paths : List SiblingPath) (at : ℕ) (path : SiblingPath) → IsMapBundle (map seen paths) → slice_get paths at ≡ Some path → length path.siblings.items ≡ given_before 256 path.given
as_many_given paths at path is e = (each_at IsMapPath (map seen paths) at (seen path) is.each (seen_at paths at path e)).count

-- a path that is there is judged by its root
pub judged_path : (paths : List SiblingPath) (at : ℕ) (path : SiblingPath) (log_id value root found : List ℕ) → slice_get paths at ≡ Some path → found ≡ subtree_path_root (log_key log_id) value (siblings (seen path))
    → root_verdict (Some found) root ≡ map_verdict (map seen paths) at log_id value root
judged_path paths at path log_id value root found e is =
    ap (λ (h : List ℕ). root_verdict (Some h) root) is ∙ sym (ap (λ (o : Option MapPath). map_answer o log_id value root) (seen_at paths at path e))

-- ---- what each answer says

abbrev pub MapCause : List MapPath → ℕ → List ℕ → List ℕ → List ℕ → Verdict → Type 0
MapCause paths at log_id value root (Ok done) = ProvesValue paths at log_id value root
MapCause paths at log_id value root (Err WrongCount) = slice_get paths at ≡ None
MapCause paths at log_id value root (Err WrongLength) = ⊥
MapCause paths at log_id value root (Err WrongLeaf) = ⊥
MapCause paths at log_id value root (Err MissingHash) = ⊥
MapCause paths at log_id value root (Err (OtherRoot given found)) = (given ≡ root) × (found ≢ root) × ProvesValue paths at log_id value found
MapCause paths at log_id value root (Err Form) = ⊥
MapCause paths at log_id value root (Err Memory) = ⊥

-- 256 siblings give a root
gives : (path : MapPath) (log_id value found : List ℕ) → subtree_path_root (log_key log_id) value (siblings path) ≡ found → map_path_root (log_key log_id) value (siblings path) ≡ Some found
gives path log_id value found e =
    cond-true (eqb (length (siblings path)) 256) _ _ (eq-eqb _ _ (length-all path)) ∙ ap (λ (h : List ℕ). Some h) e

given_by : (path : MapPath) (log_id value found : List ℕ) → map_path_root (log_key log_id) value (siblings path) ≡ Some found → subtree_path_root (log_key log_id) value (siblings path) ≡ found
given_by path log_id value found e = (cond_some (eqb (length (siblings path)) 256) (subtree_path_root (log_key log_id) value (siblings path)) found e).1

module _ (paths : List MapPath) (formed : IsMapBundle paths) (at : ℕ) (log_id value root : List ℕ) where
  abbrev Cause : Verdict → Type 0
  Cause v = MapCause paths at log_id value root v

  proves : (path : MapPath) → slice_get paths at ≡ Some path → (found : List ℕ) → subtree_path_root (log_key log_id) value (siblings path) ≡ found → ProvesValue paths at log_id value found
  proves path e found is = record {
    path = path;
    asked = e;
    are_hashes = siblings_are_hashes path (each_at IsMapPath paths at path formed.each e);
    gives_root = gives path log_id value found is;
  }

  cause_of : (o : Option MapPath) → slice_get paths at ≡ o → Cause (map_answer o log_id value root)
  cause_of None e = e
  cause_of (Some path) e =
      let found = subtree_path_root (log_key log_id) value (siblings path) in
      cond_both (bytes_eq found root) _ _ Cause
      (λ same. proves path e root ((bytes_eq-Decides found root).0 same))
      (λ other. (refl, (λ is. false≢true (sym other ∙ (bytes_eq-Decides found root).1 is)), proves path e found refl))

  cause : Cause (map_verdict paths at log_id value root)
  cause = cause_of (slice_get paths at) refl

  answer_none : slice_get paths at ≡ None → map_verdict paths at log_id value root ≡ Err WrongCount
  answer_none e = ap (λ (o : Option MapPath). map_answer o log_id value root) e

  answer_root : (found : List ℕ) → ProvesValue paths at log_id value found → map_verdict paths at log_id value root ≡ root_verdict (Some found) root
  answer_root found p =
      ap (λ (o : Option MapPath). map_answer o log_id value root) p.asked ∙ ap (λ (h : List ℕ). root_verdict (Some h) root) (given_by p.path log_id value found p.gives_root)

  answer_ok : ProvesValue paths at log_id value root → map_verdict paths at log_id value root ≡ Ok tt
  answer_ok p = answer_root root p ∙ cond-true (bytes_eq root root) _ _ ((bytes_eq-Decides root root).1 refl)

  answer_other : (given found : List ℕ) → (given ≡ root) × (found ≢ root) × ProvesValue paths at log_id value found → map_verdict paths at log_id value root ≡ Err (OtherRoot given found)
  answer_other given found h =
      answer_root found h.2 ∙ cond-false (bytes_eq found root) _ _ (false_from_ne_true (bytes_eq found root) (λ is. h.1 ((bytes_eq-Decides found root).0 is)))
      ∙ ap (λ (g : List ℕ). Err (OtherRoot g found)) (sym h.0)

  ok_cause : (r : Verdict) → Cause r → IsOk r → ProvesValue paths at log_id value root
  ok_cause (Ok done) c ok = c
  ok_cause (Err fault) c ok = absurd (false≢true ok)

  module _ (r : Verdict) (e : r ≡ map_verdict paths at log_id value root) where
    pub map-ok : IsOk r ↔ ProvesValue paths at log_id value root
    map-ok = ((λ ok. ok_cause r (subst Cause (sym e) cause) ok), (λ p. subst IsOk (sym (e ∙ answer_ok p)) refl))

    because : (v : Verdict) → r ≡ v → Cause v
    because v is = subst Cause (sym e ∙ is) cause

    pub map-wrong_count : (r ≡ Err WrongCount) ↔ (slice_get paths at ≡ None)
    map-wrong_count = (because (Err WrongCount), (λ h. e ∙ answer_none h))

    pub map-other_root : (given found : List ℕ) → (r ≡ Err (OtherRoot given found)) ↔ ((given ≡ root) × (found ≢ root) × ProvesValue paths at log_id value found)
    map-other_root given found = (because (Err (OtherRoot given found)), (λ h. e ∙ answer_other given found h))

    pub map-judged : (r ≢ Err WrongLength) × (r ≢ Err WrongLeaf) × (r ≢ Err MissingHash) × (r ≢ Err Form) × (r ≢ Err Memory)
    map-judged = ((λ is. because (Err WrongLength) is), (λ is. because (Err WrongLeaf) is), (λ is. because (Err MissingHash) is), (λ is. because (Err Form) is), (λ is. because (Err Memory) is))
