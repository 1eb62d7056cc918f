use Rattle.std.proofs.Common.{◌≡◌, ◌∙◌, Err, sym, ap, arith, take}
use Rattle.std.specs.List.{fold}
use Rattle.std.proofs.lemmas.Result.{err_from_is_err_and}
use Rattle.comp_format.specs.declared.error.EncodeError.{EncodeError}
use Rattle.comp_format.specs.declared.error.EncodeError.TheVariants as encode_error
use Rattle.compose_check.specs.Composition.{composition_tree}
use Rattle.compose_encode.specs.Held.{with_component}
use Rattle.compose_encode.proofs.Errors.{err_is}
use Rattle.compose_encode.proofs.HeldLaws.{component_extends, loop_end, loop_large, loop_more}
use Rattle.compose_encode.proofs.components.write_each.Goals as goal

pub returns-in_err-write_component-clause-too_large : goal.returns-in_err-write_component-clause-too_large
returns-in_err-write_component-clause-too_large c = λ imports w n h e.
    let p = err_from_is_err_and c.from_residual.result c.from_residual.ensures.1 in
    let same : p.0 ≡ encode_error.TooLarge n = err_is p.0 (encode_error.TooLarge n) (sym p.1 ∙ e) in
    let k = composition_tree c.args.composition.now in
    let ns = c.args.numbers.now in
    let i = c.loop-number.number-index in
    loop_large (with_component k) (component_extends k) ns imports w n i 0 c.loop-number-test.true
    (c.in_err-write_component.ensures.too_large imports (fold (with_component k) w (take i ns)) n (c.loop-number.invariant imports w h) (ap (λ (x : EncodeError). Err x) (sym p.2 ∙ same)))

pub loop-number-preserved : goal.loop-number-preserved
loop-number-preserved c = λ imports w h.
    let k = composition_tree c.args.composition.now in
    let ns = c.args.numbers.now in
    let i = c.loop-number.number-index in
    loop_more (with_component k) (component_extends k) ns imports w c.write_component.new.output i 0 c.loop-number-test.true
    (c.in_ok-write_component.ensures.written imports (fold (with_component k) w (take i ns)) (c.loop-number.invariant imports w h))

pub returns-clause-written : goal.returns-clause-written
returns-clause-written c = λ imports w h.
    let k = composition_tree c.args.composition.now in
    loop_end (with_component k) (component_extends k) c.args.numbers.now imports w c.loop-number.output c.loop-number.number-index (omega arith) (c.loop-number.invariant imports w h)
