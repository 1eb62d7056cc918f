use Rattle.std.proofs.Common.{subst}
use Rattle.compose_naming.specs.Names.{FindsCalls}
use Rattle.compose_naming.proofs.NameLaws.{leaf_step}
use Rattle.compose_naming.proofs.settling.names_of.Goals as goal

pub loop-leaf-preserved : goal.loop-leaf-preserved
loop-leaf-preserved c =
    leaf_step c.note_leaf.new.names c.args.import.now.calls.items _ c.loop-leaf.leaf-index c.leaf-item.result
    c.loop-leaf-test.true c.leaf-item.is (c.in_ok-note_leaf.ensures _ _ (subst (FindsCalls c.in_ok-paths.paths) c.deref.ensures.value c.in_ok-paths.ensures) c.loop-leaf.invariant)
