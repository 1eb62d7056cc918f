use Rattle.std.proofs.Common.{subst, sym, take}
use Rattle.compose_encode.specs.Held.{AreSources}
use Rattle.std.proofs.lemmas.List.{take_more}
use Rattle.compose_encode.proofs.wires.sources_of.Goals as goal

pub loop-wire-preserved : goal.loop-wire-preserved
loop-wire-preserved c =
    subst (λ xs. AreSources c.add_source.new.sources xs) (sym (take_more c.args.wires.now c.loop-wire.wire-index _ c.loop-wire-test.true))
    (c.in_ok-add_source.ensures (take c.loop-wire.wire-index c.args.wires.now) c.loop-wire.invariant)
