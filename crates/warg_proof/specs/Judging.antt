-- The answers to a proof, as they are computed: the first fault, or none.
use Rattle.std.specs.Prelude.{ℕ, ◌&&◌, ◌==◌, nat_lt, nat_le, if◌then◌else◌, List, bytes_eq, Option, Some, None, Result, Ok, Err, slice_get}
use Rattle.std.specs.Option.{option_map}
use Rattle.warg_proof.specs.declared.fault.ProofFault.{ProofFault}
use Rattle.warg_proof.specs.declared.fault.ProofFault.TheVariants.{WrongCount, WrongLeaf, WrongLength, MissingHash, OtherRoot}
use Rattle.warg_proof.specs.declared.node.Node.{Node}
use Rattle.warg_proof.specs.declared.node.Consistency.{Consistency}
use Rattle.warg_proof.specs.declared.node.Inclusion.{Inclusion}
use Rattle.warg_proof.specs.LogTree.{ranges_beside, path_root_within, ranges_joining, roots_within}
use Rattle.warg_proof.specs.LogProofs.{LogProofs, range_hash, each_or_none, asked_inclusion, asked_consistency, inclusion_root, consistency_roots}
use Rattle.warg_proof.specs.MapTree.{subtree_path_root}
use Rattle.warg_proof.specs.MapProofs.{MapPath, siblings, log_key}

-- a verdict has no value
abbrev pub Verdict : Type 0
Verdict = Result (Unit {0}) ProofFault

-- the root of a range with the leaf at an index, unless a hash is lacking
abbrev pub root_beside : List Node → ℕ → ℕ → ℕ → ℕ → List ℕ → Option (List ℕ)
root_beside nodes level place count index leaf =
    option_map (path_root_within level index count leaf) (each_or_none (range_hash nodes) (ranges_beside level place count index))

-- the old and the new root of a range, unless a hash is lacking
abbrev pub roots_joining : List Node → ℕ → ℕ → ℕ → ℕ → Option (List ℕ × List ℕ)
roots_joining nodes level place old new =
    option_map (roots_within level old new) (each_or_none (range_hash nodes) (ranges_joining level place old new))

-- of a root that was found, or of none for want of a hash
abbrev pub root_verdict : Option (List ℕ) → List ℕ → Verdict
root_verdict None root = Err MissingHash
root_verdict (Some found) root = if bytes_eq found root then Ok tt else Err (OtherRoot root found)

-- of two roots, the old one first
abbrev pub roots_verdict : Option (List ℕ × List ℕ) → List ℕ → List ℕ → Verdict
roots_verdict None old_root new_root = Err MissingHash
roots_verdict (Some found) old_root new_root = if bytes_eq found.0 old_root then root_verdict (Some found.1) new_root else Err (OtherRoot old_root found.0)

abbrev pub inclusion_answer : Option Inclusion → LogProofs → ℕ → ℕ → List ℕ → List ℕ → Verdict
inclusion_answer None proofs log_length index entry root = Err WrongCount
inclusion_answer (Some asked) proofs log_length index entry root =
    let judged = root_verdict (inclusion_root proofs log_length index entry) root in
    let of_leaf = if asked.index == index && nat_lt index log_length then judged else Err WrongLeaf in
    if asked.log_length == log_length then of_leaf else Err WrongLength

abbrev pub inclusion_verdict : LogProofs → ℕ → ℕ → ℕ → List ℕ → List ℕ → Verdict
inclusion_verdict proofs at log_length index entry root = inclusion_answer (asked_inclusion proofs at) proofs log_length index entry root

abbrev pub consistency_answer : Option Consistency → LogProofs → ℕ → ℕ → List ℕ → List ℕ → Verdict
consistency_answer None proofs old new old_root new_root = Err WrongCount
consistency_answer (Some asked) proofs old new old_root new_root =
    if (asked.old_length == old && asked.new_length == new) && (nat_lt 0 old && nat_le old new)
    then roots_verdict (consistency_roots proofs old new) old_root new_root
    else Err WrongLength

abbrev pub consistency_verdict : LogProofs → ℕ → ℕ → List ℕ → List ℕ → Verdict
consistency_verdict proofs old new old_root new_root = consistency_answer (asked_consistency proofs) proofs old new old_root new_root

abbrev pub map_answer : Option MapPath → List ℕ → List ℕ → List ℕ → Verdict
map_answer None log_id value root = Err WrongCount
map_answer (Some path) log_id value root = root_verdict (Some (subtree_path_root (log_key log_id) value (siblings path))) root

abbrev pub map_verdict : List MapPath → ℕ → List ℕ → List ℕ → List ℕ → Verdict
map_verdict paths at log_id value root = map_answer (slice_get paths at) log_id value root
