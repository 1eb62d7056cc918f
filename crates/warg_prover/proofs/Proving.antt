-- Bundles of listed nodes prove what was asked.
use Rattle.std.proofs.Common.{◌≡◌, ℕ, ◌<◌, ◌≤◌, List, [], ◌∷◌, length, take, Some, ap, subst, ◌∙◌}
use Rattle.std.specs.Prelude.{slice_get}
use Rattle.std.specs.Option.{option_map}
use Rattle.std.proofs.lemmas.Option.{slice_get-map, slice_get_within, get_or_from_slice_get}
use Rattle.warg_proof.specs.declared.node.Consistency.{Consistency}
use Rattle.warg_proof.specs.declared.node.Inclusion.{Inclusion}
use Rattle.warg_proof.specs.LogTree.{root, inclusion_ranges, consistency_ranges}
use Rattle.warg_proof.specs.LogProofs.{LogProofs, numbered, only_one, asked_inclusion, asked_consistency, ProvesInclusion, ProvesConsistency}
use Rattle.warg_proof.specs.TrueProofs.{ListsTruly}
use Rattle.warg_prover.specs.Asked.{inclusion_in, IsInclusionBundle, IsConsistencyBundle}

-- the laws of `warg_proof`
abbrev pub ListedInclusion : Type 0
ListedInclusion = (proofs : LogProofs) (at : ℕ) (entries : List (List ℕ)) (index : ℕ) (leaf : List ℕ) → asked_inclusion proofs at ≡ Some (record { log_length = length entries; index = index })
    → slice_get entries index ≡ Some leaf → ListsTruly proofs.nodes entries (inclusion_ranges (length entries) index) → ProvesInclusion proofs at (length entries) index leaf (root entries)

abbrev pub ListedConsistency : Type 0
ListedConsistency = (proofs : LogProofs) (entries : List (List ℕ)) (old : ℕ) → 0 < old → old ≤ length entries → asked_consistency proofs ≡ Some (record { old_length = old; new_length = length entries })
    → ListsTruly proofs.nodes entries (consistency_ranges old (length entries)) → ProvesConsistency proofs old (length entries) (root (take old entries)) (root entries)

pub inclusion_proved : ListedInclusion → (proofs : LogProofs) (entries : List (List ℕ)) (indices : List ℕ) (at index : ℕ) (entry : List ℕ) → IsInclusionBundle proofs entries indices
    → slice_get indices at ≡ Some index → slice_get entries index ≡ Some entry → ProvesInclusion proofs at (length entries) index entry (root entries)
inclusion_proved law proofs entries indices at index entry bundle asked there =
    let count = length entries in
    let found : asked_inclusion proofs at ≡ Some (inclusion_in count index) =
    ap (λ (cs : List Consistency). numbered cs proofs.inclusions at) bundle.consistencies
    ∙ ap (λ (xs : List Inclusion). slice_get xs at) bundle.inclusions
    ∙ slice_get-map (inclusion_in count) indices at
    ∙ ap (option_map (inclusion_in count)) asked in
    let truly = bundle.nodes.truly at index (slice_get_within indices at index asked) in
    law proofs at entries index entry found there
    (subst (λ (i : ℕ). ListsTruly proofs.nodes entries (inclusion_ranges count i)) (get_or_from_slice_get indices at index index asked) truly)

pub consistency_proved : ListedConsistency → (proofs : LogProofs) (entries : List (List ℕ)) (old : ℕ) → IsConsistencyBundle proofs entries old → 0 < old → old ≤ length entries
    → ProvesConsistency proofs old (length entries) (root (take old entries)) (root entries)
consistency_proved law proofs entries old bundle positive ordered =
    let asked : asked_consistency proofs ≡ Some (record { old_length = old; new_length = length entries }) =
    ap (λ (cs : List Consistency). only_one cs proofs.inclusions) bundle.consistencies
    ∙ ap (λ (xs : List Inclusion). only_one (record { old_length = old; new_length = length entries } ∷ []) xs) bundle.inclusions in
    law proofs entries old positive ordered asked bundle.nodes.truly
