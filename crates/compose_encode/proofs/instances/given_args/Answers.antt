use Rattle.std.proofs.Common.{◌∙◌, ◌++◌, ◌∷◌, [], map, take, sym, ap, arith}
use Rattle.std.proofs.lemmas.List.{map-append, take_all, take_more}
use Rattle.comp_format.specs.declared.types.Arg.{Arg}
use Rattle.compose_left.specs.declared.wiring.Wire.{Wire}
use Rattle.compose_check.specs.Composition.{composition_tree}
use Rattle.compose_image.specs.Instances.{given_arg}
use Rattle.compose_encode.proofs.instances.given_args.Goals as goal

pub loop-wire-preserved : goal.loop-wire-preserved
loop-wire-preserved c = λ imports w h.
    let f : Wire → Arg = λ wire. given_arg (composition_tree c.args.composition.now) w wire wire.export in
    let ws = c.args.wires.now in
    let i = c.loop-wire.wire-index in
    c.in_ok-push.ensures.items ∙ (λ k. c.loop-wire.invariant imports w h k ++ c.in_ok-arg.ensures imports w h k ∷ [])
    ∙ sym (map-append f (take i ws) (_ ∷ [])) ∙ ap (map f) (sym (take_more ws i _ c.loop-wire-test.true))

pub returns : goal.returns
returns c = λ imports w h.
    let f : Wire → Arg = λ wire. given_arg (composition_tree c.args.composition.now) w wire wire.export in
    c.loop-wire.invariant imports w h ∙ ap (map f) (take_all c.loop-wire.wire-index c.args.wires.now (omega arith))
