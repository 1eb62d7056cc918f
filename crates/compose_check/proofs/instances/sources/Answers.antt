use Rattle.std.proofs.Common.{◌++◌, ◌∷◌, [], None, ap, sym, ◌∙◌, arith, length, get_or, set, take}
use Rattle.std.proofs.lemmas.List.{length-map, take_more}
use Rattle.std.proofs.lemmas.List.FromFn.{length-map-range_with_len}
use Rattle.compose_agree.specs.Order.{needs_at}
use Rattle.compose_left.specs.declared.wiring.Wire.{Wire}
use Rattle.compose_check.specs.Composition.{IsBetween, sources_of}
use Rattle.compose_check.proofs.InstanceLaws.{all_sources, one_source}
use Rattle.compose_check.proofs.ShapeLaws.{all_at}
use Rattle.compose_check.proofs.instances.sources.Goals as goal

pub add_source-requires : goal.add_source-requires
add_source-requires c =
    let between = all_at (IsBetween c.args.instances) c.args.wires.now c.loop-wire.wire-index (record { target = 0; import = 0; source = 0; export = None }) c.loop-wire-test.true c.requires in
    let there = between.target in
    let lists = length-map c.loop-wire.lists.items (λ v. v.items) in
    let same = ap length c.loop-wire.invariant in
    let size = length-map-range_with_len (sources_of (take c.loop-wire.wire-index c.args.wires.now)) 0 c.args.instances in
    omega (arith, there, lists, same, size)

pub loop-wire-preserved : goal.loop-wire-preserved
loop-wire-preserved c =
    let none : Wire = record { target = 0; import = 0; source = 0; export = None } in
    let wire = get_or c.args.wires.now c.loop-wire.wire-index none in
    let between = all_at (IsBetween c.args.instances) c.args.wires.now c.loop-wire.wire-index none c.loop-wire-test.true c.requires in
    c.in_ok-add_source.ensures ∙ (λ i. set (c.loop-wire.invariant i) wire.target (needs_at (c.loop-wire.invariant i) wire.target ++ wire.source ∷ []))
    ∙ one_source (take c.loop-wire.wire-index c.args.wires.now) wire c.args.instances between.target
    ∙ ap (λ ws. all_sources ws c.args.instances) (sym (take_more c.args.wires.now c.loop-wire.wire-index none c.loop-wire-test.true))
