use Rattle.std.proofs.Common.{◌≡◌, ◌∙◌, ◌<◌, ◌^◌, Err, sym, ap, arith}
use Rattle.std.proofs.lemmas.Result.{err_from_is_err_and}
use Rattle.comp_format.specs.declared.error.EncodeError.{EncodeError}
use Rattle.comp_format.specs.declared.error.EncodeError.TheVariants as encode_error
use Rattle.compose_encode.proofs.Errors.{err_is}
use Rattle.compose_encode.proofs.HeldLaws.{instance_large, instance_made}
use Rattle.compose_encode.proofs.instances.add_instance.Goals as goal

pub returns-in_err-index-clause-too_large : goal.returns-in_err-index-clause-too_large
returns-in_err-index-clause-too_large c = λ imports w n h e.
    let p = err_from_is_err_and c.from_residual.result c.from_residual.ensures.1 in
    let same : p.0 ≡ encode_error.TooLarge n = err_is p.0 (encode_error.TooLarge n) (sym p.1 ∙ e) in
    instance_large imports c.args.output.now c.args.output.now w c.args.instance c.args.component c.args.args.now h n (c.in_err-index.ensures.too_large n (ap (λ (x : EncodeError). Err x) (sym p.2 ∙ same)))

pub returns-clause-written : goal.returns-clause-written
returns-clause-written c = λ imports w h.
    let small : c.args.component < 2 ^ 32 = omega arith in
    instance_made imports c.args.output.now c.note_instance.new.self w c.args.instance c.args.component c.args.args.now h c.in_ok-index.index c.instantiate.new.self c.in_ok-index.ensures.index c.in_ok-index.ensures.added
    small c.in_ok-index.ensures.fits c.in_ok-note_instance.ensures.noted c.in_ok-note_instance.ensures.builder c.in_ok-note_instance.ensures.parts
