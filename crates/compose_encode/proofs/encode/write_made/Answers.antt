use Rattle.std.proofs.Common.{◌≡◌, ◌∙◌, Err, sym, ap}
use Rattle.std.specs.List.{fold}
use Rattle.std.proofs.lemmas.Result.{err_from_is_err_and}
use Rattle.comp_format.specs.declared.error.EncodeError.{EncodeError}
use Rattle.comp_format.specs.declared.error.EncodeError.TheVariants as encode_error
use Rattle.compose_image.specs.Instances.{exported_parts, with_export, with_instance}
use Rattle.compose_encode.specs.Looked.{lent_tree}
use Rattle.compose_encode.proofs.Errors.{err_is}
use Rattle.compose_encode.proofs.HeldLaws.{export_extends, extends_fold, large_still}
use Rattle.compose_encode.proofs.encode.write_made.Goals as goal

pub returns-in_err-write_instances-clause-too_large : goal.returns-in_err-write_instances-clause-too_large
returns-in_err-write_instances-clause-too_large c = λ define imports w n t h e.
    let p = err_from_is_err_and c.from_residual.result c.from_residual.ensures.1 in
    let same : p.0 ≡ encode_error.TooLarge n = err_is p.0 (encode_error.TooLarge n) (sym p.1 ∙ e) in
    let k = lent_tree c.args.tables.now in
    let made = fold (with_instance k define imports) w c.args.order.now in
    let parts = exported_parts k c.args.export in
    large_still n imports made (fold (with_export k) made parts) (extends_fold (with_export k) (export_extends k) parts made)
    (c.in_err-write_instances.ensures.too_large define imports w n t h (ap (λ (x : EncodeError). Err x) (sym p.2 ∙ same)))
