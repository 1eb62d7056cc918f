-- The members of a map that leaves are.
use Rattle.std.proofs.Common.{◌≡◌, ℕ, ◌+◌, ◌<◌, List, [], ◌∷◌, ◌++◌, length, get_or, take, sym, ap, subst, ◌∙◌}
use Rattle.std.proofs.lemmas.List.{map_push, take_more}
use Rattle.std.proofs.lemmas.List.Elements.{All-push}
use Rattle.warg_hash.specs.Hash.{IsDigest}
use Rattle.warg_proof.specs.declared.leaf.LogLeaf.{LogLeaf}
use Rattle.warg_proof.specs.Leaves.{map_value}
use Rattle.warg_proof.specs.MapTree.{Entries, IsMap}
use Rattle.warg_proof.specs.MapProofs.{log_key}
use Rattle.warg_prover.specs.declared.subtree.Member.{Member}
use Rattle.warg_prover.specs.Maps.{map_of}
use Rattle.warg_prover.specs.Subtrees.{entries_of}

abbrev leaf_entry : LogLeaf → List ℕ × List ℕ
leaf_entry leaf = (log_key leaf.log_id, map_value leaf.record_id)

abbrev member_entry : Member → List ℕ × List ℕ
member_entry m = (m.key, map_value m.record_id)

-- what a map holds
abbrev pub IsValue : List ℕ → Type 0
IsValue value = (i : ℕ) → get_or value i 0 < 256

one_more : (leaves : List LogLeaf) (i : ℕ) (leaf : LogLeaf) → i < length leaves → leaf ≡ get_or leaves i leaf → map_of (take (i + 1) leaves) ≡ map_of (take i leaves) ++ leaf_entry leaf ∷ []
one_more leaves i leaf lt is = ap map_of (take_more leaves i leaf lt ∙ ap (λ (x : LogLeaf). take i leaves ++ x ∷ []) (sym is)) ∙ map_push leaf_entry (take i leaves) leaf

pub members_more : (members : List Member) (leaves : List LogLeaf) (i : ℕ) (leaf : LogLeaf) (key : List ℕ) → i < length leaves → leaf ≡ get_or leaves i leaf → key ≡ log_key leaf.log_id → entries_of members ≡ map_of (take i leaves)
    → entries_of (members ++ record { key = key; record_id = leaf.record_id } ∷ []) ≡ map_of (take (i + 1) leaves)
members_more members leaves i leaf key lt is key_is before =
    map_push member_entry members (record { key = key; record_id = leaf.record_id })
    ∙ ap (λ (es : Entries). es ++ (key, map_value leaf.record_id) ∷ []) before
    ∙ ap (λ (k : List ℕ). map_of (take i leaves) ++ (k, map_value leaf.record_id) ∷ []) key_is
    ∙ sym (one_more leaves i leaf lt is)

pub formed_more : (leaves : List LogLeaf) (i : ℕ) (leaf : LogLeaf) → i < length leaves → leaf ≡ get_or leaves i leaf → IsDigest (log_key leaf.log_id) → IsValue (map_value leaf.record_id) → IsMap (map_of (take i leaves)) → IsMap (map_of (take (i + 1) leaves))
formed_more leaves i leaf lt is key value before =
    subst IsMap (sym (one_more leaves i leaf lt is)) (All-push (λ (entry : List ℕ × List ℕ). IsDigest entry.0 × IsValue entry.1) (map_of (take i leaves)) (leaf_entry leaf) before (key, value))
