use Rattle.std.proofs.Common.{ap, subst, ◌∙◌}
use Rattle.warg_hash.specs.Hash.{IsDigest}
use Rattle.warg_prover.specs.Subtrees.{entries_of}
use Rattle.warg_prover.proofs.Members.{members_more, formed_more}
use Rattle.warg_prover.proofs.map_hashes.members_of.Goals as goal

pub loop-leaf-preserved : goal.loop-leaf-preserved
loop-leaf-preserved c =
    let leaves = c.args.leaves.now in
    let i = c.loop-leaf.leaf-index in
    let leaf = c.leaf-item.result in
    record {
      entries = ap entries_of c.in_ok-push.ensures.items ∙ members_more c.loop-leaf.members.items leaves i leaf c.key_of.result c.loop-leaf-test.true c.leaf-item.is c.key_of.ensures.value c.loop-leaf.invariant.entries;
      formed = formed_more leaves i leaf c.loop-leaf-test.true c.leaf-item.is (subst IsDigest c.key_of.ensures.value c.key_of.ensures.form) (c.leaves_are_bytes.ensures.values leaf.record_id) c.loop-leaf.invariant.formed;
    }
