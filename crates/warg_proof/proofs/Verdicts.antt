-- The verdict on a proof, from the roots that were rebuilt.
use Rattle.std.proofs.Common.{◌≡◌, ◌≢◌, ◌↔◌, ℕ, ◌^◌, ◌<◌, ◌≤◌, Bool, true, false, eqb, ltb, leb, ◌&&◌, List, Option, Some, None, Ok, Err, refl, sym, ap, subst, ◌∙◌, inl, inr}
use Rattle.std.specs.Prelude.{bytes_eq, IsOk, IsSome, IsSomeAnd}
use Rattle.std.specs.Option.{option_and_then}
use Rattle.std.proofs.lemmas.Bool.{cases_eq, cond-true, cond-false, cond_both, false_from_ne_true, and_from, and_left, and_right, and_parts, and_cases, lt-ltb, le-ltb, le-leb, ltb-true, ltb-false, leb-true, eq-eqb, ne_eqb, eqb-true, eqb-false, false≢true}
use Rattle.std.proofs.lemmas.Option.{same_Some}
use Rattle.std.proofs.lemmas.Slice.Eq.{bytes_eq-Decides}
use Rattle.warg_proof.specs.declared.fault.ProofFault.TheVariants.{Form, Memory, WrongCount, WrongLeaf, WrongLength, MissingHash, OtherRoot}
use Rattle.warg_proof.specs.declared.node.Consistency.{Consistency}
use Rattle.warg_proof.specs.declared.node.Inclusion.{Inclusion}
use Rattle.warg_proof.specs.LogTree.{inclusion_ranges, path_root_within, path_root, consistency_ranges, roots_within, two_roots}
use Rattle.warg_proof.specs.LogProofs.{LogProofs, IsLogBundle, asked_inclusion, asked_consistency, inclusion_path, consistency_hashes, AsksInclusion, ProvesInclusion, AsksConsistency, ProvesConsistency, IsOtherRoot, inclusion_root, consistency_roots}
use Rattle.warg_proof.specs.Judging.{Verdict, root_beside, roots_joining, root_verdict, roots_verdict, inclusion_answer, inclusion_verdict, consistency_answer, consistency_verdict}
use Rattle.warg_proof.proofs.Tops.{path_root-there, two_roots-there, root_at_top, roots_at_top, are_hashes}

abbrev pub inclusion_of : ℕ → ℕ → Inclusion
inclusion_of log_length index = record { log_length = log_length; index = index }

abbrev pub consistency_of : ℕ → ℕ → Consistency
consistency_of old new = record { old_length = old; new_length = new }

-- a proof that is asked for is judged by its root
pub judged_inclusion : (proofs : LogProofs) (at log_length index : ℕ) (entry root : List ℕ) → AsksInclusion proofs at log_length index → inclusion_verdict proofs at log_length index entry root ≡ root_verdict (inclusion_root proofs log_length index entry) root
judged_inclusion proofs at log_length index entry root asks =
    ap (λ (o : Option Inclusion). inclusion_answer o proofs log_length index entry root) asks.asked
    ∙ cond-true (eqb log_length log_length) _ _ (eq-eqb log_length log_length refl)
    ∙ cond-true (eqb index index && ltb index log_length) _ _ (and_from (eqb index index) (ltb index log_length) (eq-eqb index index refl) (lt-ltb _ _ asks.below))

pub rebuilt_inclusion : (proofs : LogProofs) (at log_length index : ℕ) (entry root : List ℕ) (found : Option (List ℕ)) → AsksInclusion proofs at log_length index → log_length < 2 ^ 64
    → found ≡ root_beside proofs.nodes 64 0 log_length index entry → root_verdict found root ≡ inclusion_verdict proofs at log_length index entry root
rebuilt_inclusion proofs at log_length index entry root found asks fits e =
    ap (λ (o : Option (List ℕ)). root_verdict o root) (e ∙ root_at_top proofs.nodes log_length index entry fits asks.below) ∙ sym (judged_inclusion proofs at log_length index entry root asks)

pub judged_consistency : (proofs : LogProofs) (old new : ℕ) (old_root new_root : List ℕ) → AsksConsistency proofs old new → consistency_verdict proofs old new old_root new_root ≡ roots_verdict (consistency_roots proofs old new) old_root new_root
judged_consistency proofs old new old_root new_root asks =
    ap (λ (o : Option Consistency). consistency_answer o proofs old new old_root new_root) asks.asked
    ∙ cond-true ((eqb old old && eqb new new) && (ltb 0 old && leb old new)) _ _
    (and_from (eqb old old && eqb new new) (ltb 0 old && leb old new)
    (and_from (eqb old old) (eqb new new) (eq-eqb old old refl) (eq-eqb new new refl))
    (and_from (ltb 0 old) (leb old new) (lt-ltb _ _ asks.positive) (le-leb _ _ asks.ordered)))

pub rebuilt_consistency : (proofs : LogProofs) (old new : ℕ) (old_root new_root : List ℕ) (found : Option (List ℕ × List ℕ)) → AsksConsistency proofs old new → new < 2 ^ 64
    → found ≡ roots_joining proofs.nodes 64 0 old new → roots_verdict found old_root new_root ≡ consistency_verdict proofs old new old_root new_root
rebuilt_consistency proofs old new old_root new_root found asks fits e =
    ap (λ (o : Option (List ℕ × List ℕ)). roots_verdict o old_root new_root) (e ∙ roots_at_top proofs.nodes old new fits asks.positive asks.ordered) ∙ sym (judged_consistency proofs old new old_root new_root asks)

-- ---- what each answer says of an inclusion proof

-- what is there
some_of : {A : Type 0} (o : Option A) (P : A → Type 0) → IsSomeAnd o P → (x : A) × (o ≡ Some x) × P x
some_of None P h = absurd h
some_of (Some x) P h = (x, refl, h)

-- the causes, one for each answer
abbrev pub InclusionCause : LogProofs → ℕ → ℕ → ℕ → List ℕ → List ℕ → Verdict → Type 0
InclusionCause proofs at log_length index entry root (Ok done) = ProvesInclusion proofs at log_length index entry root
InclusionCause proofs at log_length index entry root (Err WrongCount) = asked_inclusion proofs at ≡ None
InclusionCause proofs at log_length index entry root (Err WrongLength) = IsSomeAnd (asked_inclusion proofs at) (λ asked. asked.log_length ≢ log_length)
InclusionCause proofs at log_length index entry root (Err WrongLeaf) = IsSomeAnd (asked_inclusion proofs at) (λ asked. (asked.log_length ≡ log_length) × (asked.index ≡ index → log_length ≤ index))
InclusionCause proofs at log_length index entry root (Err MissingHash) = AsksInclusion proofs at log_length index × (inclusion_path proofs log_length index ≡ None)
InclusionCause proofs at log_length index entry root (Err (OtherRoot given found)) = (given ≡ root) × (found ≢ root) × ProvesInclusion proofs at log_length index entry found
InclusionCause proofs at log_length index entry root (Err Form) = ⊥
InclusionCause proofs at log_length index entry root (Err Memory) = ⊥

module _ (proofs : LogProofs) (formed : IsLogBundle proofs) (at log_length index : ℕ) (entry root : List ℕ) where
  abbrev Cause : Verdict → Type 0
  Cause v = InclusionCause proofs at log_length index entry root v

  proves : AsksInclusion proofs at log_length index → (path : List (List ℕ)) → inclusion_path proofs log_length index ≡ Some path → (found : List ℕ) → path_root index log_length entry path ≡ Some found
      → ProvesInclusion proofs at log_length index entry found
  proves asks path e found gives = record {
    asks = asks;
    path = path;
    gives_path = e;
    are_hashes = are_hashes proofs.nodes formed.nodes.each (inclusion_ranges log_length index) path e;
    gives_root = gives;
  }

  cause_of_root : AsksInclusion proofs at log_length index → (path : List (List ℕ)) → inclusion_path proofs log_length index ≡ Some path → (found : List ℕ) → path_root index log_length entry path ≡ Some found → Cause (root_verdict (Some found) root)
  cause_of_root asks path e found gives =
      cond_both (bytes_eq found root) _ _ Cause
      (λ same. proves asks path e root (gives ∙ ap (λ (h : List ℕ). Some h) ((bytes_eq-Decides found root).0 same)))
      (λ other. (refl, (λ is. false≢true (sym other ∙ (bytes_eq-Decides found root).1 is)), proves asks path e found gives))

  cause_of_path : AsksInclusion proofs at log_length index → (o : Option (List (List ℕ))) → inclusion_path proofs log_length index ≡ o → Cause (root_verdict (option_and_then (path_root index log_length entry) o) root)
  cause_of_path asks None e = (asks, e)
  cause_of_path asks (Some path) e =
      let there = path_root-there proofs.nodes log_length index entry path asks.below e in
      subst (λ (o : Option (List ℕ)). Cause (root_verdict o root)) (sym there) (cause_of_root asks path e (path_root_within log_length index log_length entry path) there)

  cause_of_answer : (o : Option Inclusion) → asked_inclusion proofs at ≡ o → Cause (inclusion_answer o proofs log_length index entry root)
  cause_of_answer None e = e
  cause_of_answer (Some asked) e =
      cond_both (eqb asked.log_length log_length) _ _ Cause
      (λ same. cond_both (eqb asked.index index && ltb index log_length) _ _ Cause
      (λ both.
      let parts = and_parts (eqb asked.index index) (ltb index log_length) both in
      let is : ◌≡◌ {A = Inclusion} asked (inclusion_of log_length index) = λ i. record { log_length = eqb-true _ _ same i; index = eqb-true _ _ parts.0 i } in
      let asks : AsksInclusion proofs at log_length index = record { asked = e ∙ ap (λ (a : Inclusion). Some a) is; below = ltb-true _ _ parts.1 } in
      cause_of_path asks (inclusion_path proofs log_length index) refl)
      (λ other. subst (λ (o : Option Inclusion). IsSomeAnd o (λ a. (a.log_length ≡ log_length) × (a.index ≡ index → log_length ≤ index))) (sym e) (
        eqb-true _ _ same,
        (λ is. elim (and_cases (eqb asked.index index) (ltb index log_length) other) [
          | inl apart ↦ absurd (eqb-false _ _ apart is)
          | inr past ↦ ltb-false _ _ past
        ]),
      )))
      (λ other. subst (λ (o : Option Inclusion). IsSomeAnd o (λ a. a.log_length ≢ log_length)) (sym e) (eqb-false _ _ other))

  cause : Cause (inclusion_verdict proofs at log_length index entry root)
  cause = cause_of_answer (asked_inclusion proofs at) refl

  -- each cause has its answer
  answer_none : asked_inclusion proofs at ≡ None → inclusion_verdict proofs at log_length index entry root ≡ Err WrongCount
  answer_none e = ap (λ (o : Option Inclusion). inclusion_answer o proofs log_length index entry root) e

  answer_length : IsSomeAnd (asked_inclusion proofs at) (λ asked. asked.log_length ≢ log_length) → inclusion_verdict proofs at log_length index entry root ≡ Err WrongLength
  answer_length h =
      let found = some_of (asked_inclusion proofs at) (λ (asked : Inclusion). asked.log_length ≢ log_length) h in
      ap (λ (o : Option Inclusion). inclusion_answer o proofs log_length index entry root) found.1 ∙ cond-false (eqb found.0.log_length log_length) _ _ (ne_eqb _ _ found.2)

  answer_leaf : IsSomeAnd (asked_inclusion proofs at) (λ asked. (asked.log_length ≡ log_length) × (asked.index ≡ index → log_length ≤ index)) → inclusion_verdict proofs at log_length index entry root ≡ Err WrongLeaf
  answer_leaf h =
      let found = some_of (asked_inclusion proofs at) (λ (asked : Inclusion). (asked.log_length ≡ log_length) × (asked.index ≡ index → log_length ≤ index)) h in
      ap (λ (o : Option Inclusion). inclusion_answer o proofs log_length index entry root) found.1
      ∙ cond-true (eqb found.0.log_length log_length) _ _ (eq-eqb _ _ found.2.0)
      ∙ cond-false (eqb found.0.index index && ltb index log_length) _ _
      (elim (cases_eq found.0.index index) [
        | inl is ↦ and_right (eqb found.0.index index) (ltb index log_length) (le-ltb _ _ (found.2.1 is))
        | inr apart ↦ and_left (eqb found.0.index index) (ltb index log_length) (ne_eqb _ _ apart)
      ])

  answer_missing : AsksInclusion proofs at log_length index × (inclusion_path proofs log_length index ≡ None) → inclusion_verdict proofs at log_length index entry root ≡ Err MissingHash
  answer_missing h =
      judged_inclusion proofs at log_length index entry root h.0 ∙ ap (λ (o : Option (List (List ℕ))). root_verdict (option_and_then (path_root index log_length entry) o) root) h.1

  answer_root : (found : List ℕ) → ProvesInclusion proofs at log_length index entry found → inclusion_verdict proofs at log_length index entry root ≡ root_verdict (Some found) root
  answer_root found p =
      judged_inclusion proofs at log_length index entry root p.asks
      ∙ ap (λ (o : Option (List (List ℕ))). root_verdict (option_and_then (path_root index log_length entry) o) root) p.gives_path
      ∙ ap (λ (o : Option (List ℕ)). root_verdict o root) p.gives_root

  answer_ok : ProvesInclusion proofs at log_length index entry root → inclusion_verdict proofs at log_length index entry root ≡ Ok tt
  answer_ok p = answer_root root p ∙ cond-true (bytes_eq root root) _ _ ((bytes_eq-Decides root root).1 refl)

  answer_other : (given found : List ℕ) → (given ≡ root) × (found ≢ root) × ProvesInclusion proofs at log_length index entry found → inclusion_verdict proofs at log_length index entry root ≡ Err (OtherRoot given found)
  answer_other given found h =
      answer_root found h.2 ∙ cond-false (bytes_eq found root) _ _ (false_from_ne_true (bytes_eq found root) (λ is. h.1 ((bytes_eq-Decides found root).0 is)))
      ∙ ap (λ (g : List ℕ). Err (OtherRoot g found)) (sym h.0)

  -- ---- the clauses

  ok_cause : (r : Verdict) → Cause r → IsOk r → ProvesInclusion proofs at log_length index entry root
  ok_cause (Ok done) c ok = c
  ok_cause (Err fault) c ok = absurd (false≢true ok)

  module _ (r : Verdict) (e : r ≡ inclusion_verdict proofs at log_length index entry root) where
    pub inclusion-ok : IsOk r ↔ ProvesInclusion proofs at log_length index entry root
    inclusion-ok = ((λ ok. ok_cause r (subst Cause (sym e) cause) ok), (λ p. subst IsOk (sym (e ∙ answer_ok p)) refl))

    because : (v : Verdict) → r ≡ v → Cause v
    because v is = subst Cause (sym e ∙ is) cause

    pub inclusion-wrong_count : (r ≡ Err WrongCount) ↔ (asked_inclusion proofs at ≡ None)
    inclusion-wrong_count = (because (Err WrongCount), (λ h. e ∙ answer_none h))

    pub inclusion-wrong_length : (r ≡ Err WrongLength) ↔ IsSomeAnd (asked_inclusion proofs at) (λ asked. asked.log_length ≢ log_length)
    inclusion-wrong_length = (because (Err WrongLength), (λ h. e ∙ answer_length h))

    pub inclusion-wrong_leaf : (r ≡ Err WrongLeaf) ↔ IsSomeAnd (asked_inclusion proofs at) (λ asked. (asked.log_length ≡ log_length) × (asked.index ≡ index → log_length ≤ index))
    inclusion-wrong_leaf = (because (Err WrongLeaf), (λ h. e ∙ answer_leaf h))

    pub inclusion-missing_hash : (r ≡ Err MissingHash) ↔ (AsksInclusion proofs at log_length index × (inclusion_path proofs log_length index ≡ None))
    inclusion-missing_hash = (because (Err MissingHash), (λ h. e ∙ answer_missing h))

    pub inclusion-other_root : (given found : List ℕ) → (r ≡ Err (OtherRoot given found)) ↔ ((given ≡ root) × (found ≢ root) × ProvesInclusion proofs at log_length index entry found)
    inclusion-other_root given found = (because (Err (OtherRoot given found)), (λ h. e ∙ answer_other given found h))

    pub inclusion-judged : (r ≢ Err Form) × (r ≢ Err Memory)
    inclusion-judged = ((λ is. because (Err Form) is), (λ is. because (Err Memory) is))

-- ---- what each answer says of a consistency proof

abbrev pub ConsistencyCause : LogProofs → ℕ → ℕ → List ℕ → List ℕ → Verdict → Type 0
ConsistencyCause proofs old new old_root new_root (Ok done) = ProvesConsistency proofs old new old_root new_root
ConsistencyCause proofs old new old_root new_root (Err WrongCount) = asked_consistency proofs ≡ None
ConsistencyCause proofs old new old_root new_root (Err WrongLength) = IsSome (asked_consistency proofs) × (AsksConsistency proofs old new → ⊥)
ConsistencyCause proofs old new old_root new_root (Err WrongLeaf) = ⊥
ConsistencyCause proofs old new old_root new_root (Err MissingHash) = AsksConsistency proofs old new × (consistency_hashes proofs old new ≡ None)
ConsistencyCause proofs old new old_root new_root (Err (OtherRoot given found)) = IsOtherRoot proofs old new old_root new_root given found
ConsistencyCause proofs old new old_root new_root (Err Form) = ⊥
ConsistencyCause proofs old new old_root new_root (Err Memory) = ⊥

some_there : {A : Type 0} (o : Option A) → IsSome o → (x : A) × (o ≡ Some x)
some_there None h = absurd (false≢true h)
some_there (Some x) h = (x, refl)

module _ (proofs : LogProofs) (formed : IsLogBundle proofs) (old new : ℕ) (old_root new_root : List ℕ) where
  abbrev Because : Verdict → Type 0
  Because v = ConsistencyCause proofs old new old_root new_root v

  joins : AsksConsistency proofs old new → (hashes : List (List ℕ)) → consistency_hashes proofs old new ≡ Some hashes → (found found' : List ℕ) → two_roots old new hashes ≡ Some (found, found')
      → ProvesConsistency proofs old new found found'
  joins asks hashes e found found' gives = record {
    asks = asks;
    hashes = hashes;
    gives_hashes = e;
    are_hashes = are_hashes proofs.nodes formed.nodes.each (consistency_ranges old new) hashes e;
    gives_roots = gives;
  }

  because_roots : AsksConsistency proofs old new → (hashes : List (List ℕ)) → consistency_hashes proofs old new ≡ Some hashes → (found : List ℕ × List ℕ) → two_roots old new hashes ≡ Some found → Because (roots_verdict (Some found) old_root new_root)
  because_roots asks hashes e found gives =
      cond_both (bytes_eq found.0 old_root) _ _ Because
      (λ same.
      let first = (bytes_eq-Decides found.0 old_root).0 same in
      cond_both (bytes_eq found.1 new_root) _ _ Because
      (λ too.
      let second = (bytes_eq-Decides found.1 new_root).0 too in
      let pair : ◌≡◌ {A = List ℕ × List ℕ} found (old_root, new_root) = λ i. (first i, second i) in
      joins asks hashes e old_root new_root (gives ∙ ap (λ (p : List ℕ × List ℕ). Some p) pair))
      (λ other.
      let pair : ◌≡◌ {A = List ℕ × List ℕ} found (old_root, found.1) = λ i. (first i, found.1) in
      inr (refl, (λ is. false≢true (sym other ∙ (bytes_eq-Decides found.1 new_root).1 is)), joins asks hashes e old_root found.1 (gives ∙ ap (λ (p : List ℕ × List ℕ). Some p) pair))))
      (λ other. inl (refl, (λ is. false≢true (sym other ∙ (bytes_eq-Decides found.0 old_root).1 is)), found.1, joins asks hashes e found.0 found.1 gives))

  because_hashes : AsksConsistency proofs old new → (o : Option (List (List ℕ))) → consistency_hashes proofs old new ≡ o → Because (roots_verdict (option_and_then (two_roots old new) o) old_root new_root)
  because_hashes asks None e = (asks, e)
  because_hashes asks (Some hashes) e =
      let there = two_roots-there proofs.nodes old new hashes asks.positive asks.ordered e in
      subst (λ (o : Option (List ℕ × List ℕ)). Because (roots_verdict o old_root new_root)) (sym there) (because_roots asks hashes e (roots_within new old new hashes) there)

  -- whether a proof is for the asked lengths
  is_for : Consistency → Bool
  is_for asked = (eqb asked.old_length old && eqb asked.new_length new) && (ltb 0 old && leb old new)

  for_asked : (asked : Consistency) → asked_consistency proofs ≡ Some asked → is_for asked ≡ true → AsksConsistency proofs old new
  unfolding is_for
  for_asked asked e h =
      let lengths = and_parts (eqb asked.old_length old && eqb asked.new_length new) (ltb 0 old && leb old new) h in
      let same = and_parts (eqb asked.old_length old) (eqb asked.new_length new) lengths.0 in
      let order = and_parts (ltb 0 old) (leb old new) lengths.1 in
      let is : ◌≡◌ {A = Consistency} asked (consistency_of old new) = λ i. record { old_length = eqb-true _ _ same.0 i; new_length = eqb-true _ _ same.1 i } in
      record { asked = e ∙ ap (λ (a : Consistency). Some a) is; positive = ltb-true _ _ order.0; ordered = leb-true _ _ order.1 }

  asked_for : (asked : Consistency) → asked_consistency proofs ≡ Some asked → AsksConsistency proofs old new → is_for asked ≡ true
  unfolding is_for
  asked_for asked e asks =
      let is : ◌≡◌ {A = Consistency} asked (consistency_of old new) = same_Some asked (consistency_of old new) (sym e ∙ asks.asked) in
      and_from (eqb asked.old_length old && eqb asked.new_length new) (ltb 0 old && leb old new)
      (and_from (eqb asked.old_length old) (eqb asked.new_length new) (eq-eqb _ _ (ap (λ (a : Consistency). a.old_length) is)) (eq-eqb _ _ (ap (λ (a : Consistency). a.new_length) is)))
      (and_from (ltb 0 old) (leb old new) (lt-ltb _ _ asks.positive) (le-leb _ _ asks.ordered))

  because_answer : (o : Option Consistency) → asked_consistency proofs ≡ o → Because (consistency_answer o proofs old new old_root new_root)
  unfolding is_for
  because_answer None e = e
  because_answer (Some asked) e =
      cond_both (is_for asked) _ _ Because
      (λ all. because_hashes (for_asked asked e all) (consistency_hashes proofs old new) refl)
      (λ other. (subst (λ (o : Option Consistency). IsSome o) (sym e) refl, (λ asks. false≢true (sym other ∙ asked_for asked e asks))))

  reason : Because (consistency_verdict proofs old new old_root new_root)
  reason = because_answer (asked_consistency proofs) refl

  -- each cause has its answer
  verdict_none : asked_consistency proofs ≡ None → consistency_verdict proofs old new old_root new_root ≡ Err WrongCount
  verdict_none e = ap (λ (o : Option Consistency). consistency_answer o proofs old new old_root new_root) e

  verdict_length : IsSome (asked_consistency proofs) × (AsksConsistency proofs old new → ⊥) → consistency_verdict proofs old new old_root new_root ≡ Err WrongLength
  unfolding is_for
  verdict_length h =
      let found = some_there (asked_consistency proofs) h.0 in
      ap (λ (o : Option Consistency). consistency_answer o proofs old new old_root new_root) found.1
      ∙ cond-false (is_for found.0) _ _ (false_from_ne_true (is_for found.0) (λ is. h.1 (for_asked found.0 found.1 is)))

  verdict_missing : AsksConsistency proofs old new × (consistency_hashes proofs old new ≡ None) → consistency_verdict proofs old new old_root new_root ≡ Err MissingHash
  verdict_missing h =
      judged_consistency proofs old new old_root new_root h.0 ∙ ap (λ (o : Option (List (List ℕ))). roots_verdict (option_and_then (two_roots old new) o) old_root new_root) h.1

  verdict_roots : (found found' : List ℕ) → ProvesConsistency proofs old new found found' → consistency_verdict proofs old new old_root new_root ≡ roots_verdict (Some (found, found')) old_root new_root
  verdict_roots found found' p =
      judged_consistency proofs old new old_root new_root p.asks
      ∙ ap (λ (o : Option (List (List ℕ))). roots_verdict (option_and_then (two_roots old new) o) old_root new_root) p.gives_hashes
      ∙ ap (λ (o : Option (List ℕ × List ℕ)). roots_verdict o old_root new_root) p.gives_roots

  same_bytes : (bytes : List ℕ) → bytes_eq bytes bytes ≡ true
  same_bytes bytes = (bytes_eq-Decides bytes bytes).1 refl

  other_bytes : (x y : List ℕ) → x ≢ y → bytes_eq x y ≡ false
  other_bytes x y h = false_from_ne_true (bytes_eq x y) (λ is. h ((bytes_eq-Decides x y).0 is))

  verdict_ok : ProvesConsistency proofs old new old_root new_root → consistency_verdict proofs old new old_root new_root ≡ Ok tt
  verdict_ok p =
      verdict_roots old_root new_root p ∙ cond-true (bytes_eq old_root old_root) _ _ (same_bytes old_root) ∙ cond-true (bytes_eq new_root new_root) _ _ (same_bytes new_root)

  verdict_other : (given found : List ℕ) → IsOtherRoot proofs old new old_root new_root given found → consistency_verdict proofs old new old_root new_root ≡ Err (OtherRoot given found)
  verdict_other given found (inl h) =
      verdict_roots found h.2 h.3 ∙ cond-false (bytes_eq found old_root) _ _ (other_bytes found old_root h.1) ∙ ap (λ (g : List ℕ). Err (OtherRoot g found)) (sym h.0)
  verdict_other given found (inr h) =
      verdict_roots old_root found h.2 ∙ cond-true (bytes_eq old_root old_root) _ _ (same_bytes old_root) ∙ cond-false (bytes_eq found new_root) _ _ (other_bytes found new_root h.1)
      ∙ ap (λ (g : List ℕ). Err (OtherRoot g found)) (sym h.0)

  -- ---- the clauses

  ok_reason : (r : Verdict) → Because r → IsOk r → ProvesConsistency proofs old new old_root new_root
  ok_reason (Ok done) c ok = c
  ok_reason (Err fault) c ok = absurd (false≢true ok)

  module _ (r : Verdict) (e : r ≡ consistency_verdict proofs old new old_root new_root) where
    pub consistency-ok : IsOk r ↔ ProvesConsistency proofs old new old_root new_root
    consistency-ok = ((λ ok. ok_reason r (subst Because (sym e) reason) ok), (λ p. subst IsOk (sym (e ∙ verdict_ok p)) refl))

    since : (v : Verdict) → r ≡ v → Because v
    since v is = subst Because (sym e ∙ is) reason

    pub consistency-wrong_count : (r ≡ Err WrongCount) ↔ (asked_consistency proofs ≡ None)
    consistency-wrong_count = (since (Err WrongCount), (λ h. e ∙ verdict_none h))

    pub consistency-wrong_length : (r ≡ Err WrongLength) ↔ (IsSome (asked_consistency proofs) × (AsksConsistency proofs old new → ⊥))
    consistency-wrong_length = (since (Err WrongLength), (λ h. e ∙ verdict_length h))

    pub consistency-missing_hash : (r ≡ Err MissingHash) ↔ (AsksConsistency proofs old new × (consistency_hashes proofs old new ≡ None))
    consistency-missing_hash = (since (Err MissingHash), (λ h. e ∙ verdict_missing h))

    pub consistency-other_root : (given found : List ℕ) → (r ≡ Err (OtherRoot given found)) ↔ IsOtherRoot proofs old new old_root new_root given found
    consistency-other_root given found = (since (Err (OtherRoot given found)), (λ h. e ∙ verdict_other given found h))

    pub consistency-judged : (r ≢ Err WrongLeaf) × (r ≢ Err Form) × (r ≢ Err Memory)
    consistency-judged = ((λ is. since (Err WrongLeaf) is), (λ is. since (Err Form) is), (λ is. since (Err Memory) is))
