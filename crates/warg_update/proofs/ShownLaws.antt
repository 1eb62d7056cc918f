-- That what shows leaves, or a continuation, has no fault.
use Rattle.std.proofs.Common.{◌≡◌, ◌<◌, ◌≤◌, List, ℕ, Option, Some, None, inl, inr, sym, ◌∙◌, ap, subst, length, arith, refl}
use Rattle.std.specs.Prelude.{slice_get}
use Rattle.std.specs.Option.{IsSomeAnd}
use Rattle.warg_proof.specs.declared.fault.ProofFault.{ProofFault}
use Rattle.warg_proof.specs.declared.fault.ProofFault.TheVariants.{Form, WrongCount, WrongLeaf, WrongLength, MissingHash, OtherRoot, Memory}
use Rattle.warg_proof.specs.declared.leaf.LogLeaf.{LogLeaf}
use Rattle.warg_proof.specs.declared.node.Inclusion.{Inclusion}
use Rattle.warg_proof.specs.Leaves.{log_entry, map_value}
use Rattle.warg_proof.specs.LogTree.{path_root, two_roots}
use Rattle.warg_proof.specs.MapTree.{map_path_root}
use Rattle.warg_proof.specs.LogProofs.{LogProofs, asked_inclusion, asked_consistency, IsOfOtherLength, IsOfOtherLeaf, IsOtherRoot, inclusion_path, consistency_hashes, ProvesInclusion, ProvesConsistency}
use Rattle.warg_proof.specs.MapProofs.{MapPath, siblings, log_key, ProvesValue}
use Rattle.warg_exchange.specs.declared.checkpoint.Checkpoint.{Checkpoint}
use Rattle.warg_exchange.specs.declared.proof.InclusionResponse.{InclusionResponse}
use Rattle.warg_verify.specs.Shown.{InLog, InMap, IncludesInLog, IncludesInMap, Includes, Continues}
use Rattle.warg_verify.specs.Faults.{IsLogPathFault, IsMapPathFault, IsLogFault, IsMapFault, IsInclusionFault, IsConsistencyProofFault, IsConsistencyFault}
use Rattle.warg_update.proofs.BundleLaws.{one-log-bundle, one-map-bundle}

some-is : {A : Type 0} (x y : A) → Some x ≡ Some y → x ≡ y
some-is x y e = cc e

not-none : {A : Type 0} (r : Option A) (x : A) → r ≡ Some x → r ≡ None → ⊥
not-none r x some none = absurd cc

-- ---- one path

-- what asks for a proof is told
told-asked : (r : Option Inclusion) (P : Inclusion → Type 0) (x : Inclusion) → r ≡ Some x → IsSomeAnd r P → P x
told-asked None P x is holds = absurd cc
told-asked (Some y) P x is holds = subst P (some-is y x is) holds

one-log-root : (log : LogProofs) (at n index : ℕ) (entry root found : List ℕ) → ProvesInclusion log at n index entry root → ProvesInclusion log at n index entry found → found ≡ root
one-log-root log at n index entry root found p q =
    let same : q.path ≡ p.path = some-is q.path p.path (sym q.gives_path ∙ p.gives_path) in
    some-is found root (sym q.gives_root ∙ ap (path_root index n entry) same ∙ p.gives_root)

log-path-shown : (log : LogProofs) (c : Checkpoint) (at index : ℕ) (leaf : LogLeaf) (fault : ProofFault) → InLog log c at index leaf → IsLogPathFault log c at index leaf fault → fault ≡ Memory
log-path-shown log c at index leaf WrongCount p bad = absurd (not-none (asked_inclusion log at) _ p.asks.asked bad)
log-path-shown log c at index leaf WrongLength p bad =
    absurd (told-asked (asked_inclusion log at) (IsOfOtherLength c.log_length) (record { log_length = c.log_length; index = index }) p.asks.asked bad refl)
log-path-shown log c at index leaf WrongLeaf p bad =
    let other = told-asked (asked_inclusion log at) (IsOfOtherLeaf c.log_length index) (record { log_length = c.log_length; index = index }) p.asks.asked bad in
    let above : c.log_length ≤ index = other.1 refl in
    let below : index < c.log_length = p.asks.below in
    absurd (omega (arith, above, below))
log-path-shown log c at index leaf MissingHash p bad = absurd (not-none (inclusion_path log c.log_length index) p.path p.gives_path bad.1)
log-path-shown log c at index leaf (OtherRoot root found) p bad =
    absurd (bad.1 (one-log-root log at c.log_length index (log_entry leaf.log_id leaf.record_id) c.log_root found p bad.2))
log-path-shown log c at index leaf Form p bad = absurd bad
log-path-shown log c at index leaf Memory p bad = refl

one-map-root : (map : List MapPath) (at : ℕ) (log_id value root found : List ℕ) → ProvesValue map at log_id value root → ProvesValue map at log_id value found → found ≡ root
one-map-root map at log_id value root found p q =
    let same : q.path ≡ p.path = some-is q.path p.path (sym q.asked ∙ p.asked) in
    some-is found root (sym q.gives_root ∙ ap (λ (path : MapPath). map_path_root (log_key log_id) value (siblings path)) same ∙ p.gives_root)

map-path-shown : (map : List MapPath) (c : Checkpoint) (at index : ℕ) (leaf : LogLeaf) (fault : ProofFault) → InMap map c at index leaf → IsMapPathFault map c at index leaf fault → fault ≡ Memory
map-path-shown map c at index leaf WrongCount p bad = absurd (not-none (slice_get map at) p.path p.asked bad)
map-path-shown map c at index leaf (OtherRoot root found) p bad = absurd (bad.1 (one-map-root map at leaf.log_id (map_value leaf.record_id) c.map_root found p bad.2))
map-path-shown map c at index leaf WrongLength p bad = absurd bad
map-path-shown map c at index leaf WrongLeaf p bad = absurd bad
map-path-shown map c at index leaf MissingHash p bad = absurd bad
map-path-shown map c at index leaf Form p bad = absurd bad
map-path-shown map c at index leaf Memory p bad = refl

-- ---- a bundle

log-shown : (c : Checkpoint) (indices : List ℕ) (leafs : List LogLeaf) (bytes : List ℕ) (fault : ProofFault) → IncludesInLog c indices leafs bytes → IsLogFault c indices leafs bytes fault → fault ≡ Memory
log-shown c indices leafs bytes fault shown (inl memory) = memory
log-shown c indices leafs bytes fault shown (inr (inl form)) = absurd (form.1 shown.bundle shown.form.0 shown.form.1)
log-shown c indices leafs bytes fault shown (inr (inr bad)) =
    let same : shown.bundle ≡ bad.0 = one-log-bundle shown.bundle bad.0 bytes shown.form.0 shown.form.1 bad.1 bad.2 in
    elim bad.3 [
      | inl count ↦ absurd (count.1 (ap (λ (b : LogProofs). b.consistencies) (sym same) ∙ shown.alone) (ap (λ (b : LogProofs). length b.inclusions) (sym same) ∙ shown.count))
      | inr path ↦ log-path-shown bad.0 c path.at path.index path.leaf fault (subst (λ (b : LogProofs). InLog b c path.at path.index path.leaf) same (shown.paths path.at path.index path.leaf path.has_index path.has_leaf)) path.fails
    ]

map-shown : (c : Checkpoint) (indices : List ℕ) (leafs : List LogLeaf) (bytes : List ℕ) (fault : ProofFault) → IncludesInMap c indices leafs bytes → IsMapFault c indices leafs bytes fault → fault ≡ Memory
map-shown c indices leafs bytes fault shown (inl memory) = memory
map-shown c indices leafs bytes fault shown (inr (inl form)) = absurd (form.1 shown.bundle shown.form.0 shown.form.1)
map-shown c indices leafs bytes fault shown (inr (inr bad)) =
    let same : shown.bundle ≡ bad.0 = one-map-bundle shown.bundle bad.0 bytes shown.form.0 shown.form.1 bad.1 bad.2 in
    elim bad.3 [
      | inl count ↦ absurd (count.1 (ap (λ (b : List MapPath). length b) (sym same) ∙ shown.count))
      | inr path ↦ map-path-shown bad.0 c path.at path.index path.leaf fault (subst (λ (b : List MapPath). InMap b c path.at path.index path.leaf) same (shown.paths path.at path.index path.leaf path.has_index path.has_leaf)) path.fails
    ]

pub heads-shown : (c : Checkpoint) (indices : List ℕ) (leafs : List LogLeaf) (bundles : InclusionResponse) (fault : ProofFault) → Includes c indices leafs bundles → IsInclusionFault c indices leafs bundles fault → fault ≡ Memory
heads-shown c indices leafs bundles fault shown (inl count) = absurd (count.1 shown.one_index_each)
heads-shown c indices leafs bundles fault shown (inr (inl bad)) = log-shown c indices leafs bundles.log fault shown.in_log bad
heads-shown c indices leafs bundles fault shown (inr (inr bad)) = map-shown c indices leafs bundles.map fault shown.in_map bad.1

-- ---- a consistency

abbrev roots : List ℕ → List ℕ → List ℕ × List ℕ
roots old new = (old, new)

pair-first : (a b c d : List ℕ) → Some (roots a b) ≡ Some (roots c d) → a ≡ c
pair-first a b c d e = ap (λ (p : List ℕ × List ℕ). p.0) (some-is (roots a b) (roots c d) e)

pair-second : (a b c d : List ℕ) → Some (roots a b) ≡ Some (roots c d) → b ≡ d
pair-second a b c d e = ap (λ (p : List ℕ × List ℕ). p.1) (some-is (roots a b) (roots c d) e)

same-roots : (log : LogProofs) (old new : ℕ) (a b c d : List ℕ) → ProvesConsistency log old new a b → ProvesConsistency log old new c d → Some (roots a b) ≡ Some (roots c d)
same-roots log old new a b c d p q =
    let same : p.hashes ≡ q.hashes = some-is p.hashes q.hashes (sym p.gives_hashes ∙ q.gives_hashes) in
    sym p.gives_roots ∙ ap (two_roots old new) same ∙ q.gives_roots

no-other-root : (log : LogProofs) (old new : ℕ) (old_root new_root given found : List ℕ) → ProvesConsistency log old new old_root new_root → IsOtherRoot log old new old_root new_root given found → ⊥
no-other-root log old new old_root new_root given found p (inl bad) = bad.1 (sym (pair-first old_root new_root found bad.2 (same-roots log old new old_root new_root found bad.2 p bad.3)))
no-other-root log old new old_root new_root given found p (inr bad) = bad.1 (sym (pair-second old_root new_root old_root found (same-roots log old new old_root new_root old_root found p bad.2)))

proof-shown : (log : LogProofs) (old new : ℕ) (old_root new_root : List ℕ) (fault : ProofFault) → ProvesConsistency log old new old_root new_root → IsConsistencyProofFault log old new old_root new_root fault → fault ≡ Memory
proof-shown log old new old_root new_root WrongCount p bad = absurd (not-none (asked_consistency log) _ p.asks.asked bad)
proof-shown log old new old_root new_root WrongLength p bad = absurd (bad.1 p.asks)
proof-shown log old new old_root new_root MissingHash p bad = absurd (not-none (consistency_hashes log old new) p.hashes p.gives_hashes bad.1)
proof-shown log old new old_root new_root (OtherRoot root found) p bad = absurd (no-other-root log old new old_root new_root root found p bad)
proof-shown log old new old_root new_root WrongLeaf p bad = absurd bad
proof-shown log old new old_root new_root Form p bad = absurd bad
proof-shown log old new old_root new_root Memory p bad = refl

pub continuation-shown : (old new : ℕ) (old_root new_root bytes : List ℕ) (fault : ProofFault) → Continues old new old_root new_root bytes → IsConsistencyFault old new old_root new_root bytes fault → fault ≡ Memory
continuation-shown old new old_root new_root bytes fault shown (inl memory) = memory
continuation-shown old new old_root new_root bytes fault shown (inr (inl form)) = absurd (form.1 shown.bundle shown.form.0 shown.form.1)
continuation-shown old new old_root new_root bytes fault shown (inr (inr bad)) =
    let same : shown.bundle ≡ bad.0 = one-log-bundle shown.bundle bad.0 bytes shown.form.0 shown.form.1 bad.1 bad.2 in
    proof-shown bad.0 old new old_root new_root fault (subst (λ (b : LogProofs). ProvesConsistency b old new old_root new_root) same shown.proves) bad.3
