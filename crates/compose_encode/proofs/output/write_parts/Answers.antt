use Rattle.std.proofs.Common.{◌≡◌, ◌∙◌, Err, sym, ap, subst, arith, take}
use Rattle.std.specs.List.{fold}
use Rattle.std.proofs.lemmas.Result.{err_from_is_err_and}
use Rattle.comp_format.specs.declared.error.EncodeError.{EncodeError}
use Rattle.comp_format.specs.declared.error.EncodeError.TheVariants as encode_error
use Rattle.compose_check.specs.Composition.{composition_tree}
use Rattle.compose_encode.specs.Held.{Holds, WrittenItems}
use Rattle.compose_encode.specs.Numbers.{IsTooLarge}
use Rattle.compose_encode.proofs.Errors.{err_is}
use Rattle.compose_encode.proofs.HeldLaws.{loop_end, loop_large, loop_more, parts_fold, wire_extends, wire_step}
use Rattle.compose_encode.proofs.output.write_parts.Goals as goal

pub returns-in_err-write_wire-clause-too_large : goal.returns-in_err-write_wire-clause-too_large
returns-in_err-write_wire-clause-too_large c = λ imports w n h e.
    let p = err_from_is_err_and c.from_residual.result c.from_residual.ensures.1 in
    let same : p.0 ≡ encode_error.TooLarge n = err_is p.0 (encode_error.TooLarge n) (sym p.1 ∙ e) in
    let k = composition_tree c.args.composition.now in
    let ws = c.args.wires.now in
    let i = c.loop-wire.wire-index in
    subst (λ (v : WrittenItems). IsTooLarge n imports v.items) (parts_fold k ws w)
    (loop_large (wire_step k) (wire_extends k) ws imports w n i _ c.loop-wire-test.true
    (c.in_err-write_wire.ensures.too_large imports (fold (wire_step k) w (take i ws)) n (c.loop-wire.invariant imports w h) (ap (λ (x : EncodeError). Err x) (sym p.2 ∙ same))))

pub loop-wire-preserved : goal.loop-wire-preserved
loop-wire-preserved c = λ imports w h.
    let k = composition_tree c.args.composition.now in
    let ws = c.args.wires.now in
    let i = c.loop-wire.wire-index in
    loop_more (wire_step k) (wire_extends k) ws imports w c.write_wire.new.output i _ c.loop-wire-test.true
    (c.in_ok-write_wire.ensures.written imports (fold (wire_step k) w (take i ws)) (c.loop-wire.invariant imports w h))

pub returns-clause-written : goal.returns-clause-written
returns-clause-written c = λ imports w h.
    let k = composition_tree c.args.composition.now in
    let ws = c.args.wires.now in
    subst (λ (v : WrittenItems). Holds imports c.loop-wire.output v) (parts_fold k ws w)
    (loop_end (wire_step k) (wire_extends k) ws imports w c.loop-wire.output c.loop-wire.wire-index (omega arith) (c.loop-wire.invariant imports w h))
