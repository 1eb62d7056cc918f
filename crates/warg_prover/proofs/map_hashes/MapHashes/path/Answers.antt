use Rattle.std.proofs.Common.{◌≡◌, List, ℕ, Option, None, subst, ◌∙◌}
use Rattle.warg_proof.specs.declared.leaf.LogLeaf.{LogLeaf}
use Rattle.warg_proof.specs.MapProofs.{path_of}
use Rattle.warg_proof.specs.MapTree.{value_at}
use Rattle.warg_prover.specs.declared.subtree.Subtree.{Subtree}
use Rattle.warg_prover.specs.Maps.{map_of}
use Rattle.warg_prover.specs.Subtrees.{IsKept}
use Rattle.warg_prover.proofs.Kept.{IsPathOf, kept_absent, kept_path}
use Rattle.warg_prover.proofs.map_hashes.MapHashes.path.Goals as goal

pub returns-in_default-2 : goal.returns-in_default-2
returns-in_default-2 c =
    let key = c.key_of-key.result in
    let kept = subst (λ (o : Option Subtree). IsKept c.self.inside.leaves.items c.self.inside.root o) c.in-Some.is c.self.invariant in
    let other = rw c.in_default-2.is at c.in_ok-way.ensures in
    let absent = kept_absent c.bits_tell_keys_apart.ensures c.self.inside.leaves.items c.self.inside.root c.in-Some.tree key kept c.key_of-key.ensures.form other in
    subst (λ (k : List ℕ). value_at (map_of c.args.self.now) k ≡ None) c.key_of-key.ensures.value
    (subst (λ (ls : List LogLeaf). value_at (map_of ls) key ≡ None) c.self.view_is absent)

pub returns : goal.returns
returns c =
    let key = c.key_of-key.result in
    let path = c.in_ok-path_with.field-0 in
    let kept = subst (λ (o : Option Subtree). IsKept c.self.inside.leaves.items c.self.inside.root o) c.in-Some.is c.self.invariant in
    let found = rw c.in-Some-2.is at c.in_ok-way.ensures in
    let is = kept_path c.self.inside.leaves.items c.self.inside.root c.in-Some.tree key kept found.0 path.given path.siblings.items c.as_slice.result.now (c.as_slice.ensures.value ∙ found.1)
    c.in_ok-path_with.ensures.given c.in_ok-path_with.ensures.siblings c.in_ok-path_with.ensures.formed.0 c.in_ok-path_with.ensures.formed.1 in
    let whole = subst (λ (k : List ℕ). IsPathOf (map_of c.args.self.now) k (path_of path.given path.siblings.items)) c.key_of-key.ensures.value
    (subst (λ (ls : List LogLeaf). IsPathOf (map_of ls) key (path_of path.given path.siblings.items)) c.self.view_is is) in
    (whole.there, whole.formed, whole.truly)
