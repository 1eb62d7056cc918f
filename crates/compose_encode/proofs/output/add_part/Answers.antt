use Rattle.std.proofs.Common.{◌≡◌, ◌∙◌, Err, sym, ap}
use Rattle.std.proofs.lemmas.Result.{err_from_is_err_and}
use Rattle.comp_format.specs.declared.error.EncodeError.{EncodeError}
use Rattle.comp_format.specs.declared.error.EncodeError.TheVariants as encode_error
use Rattle.compose_check.specs.Composition.{composition_tree}
use Rattle.compose_encode.proofs.Errors.{err_is}
use Rattle.compose_encode.proofs.HeldLaws.{part_added, part_large}
use Rattle.compose_encode.proofs.output.add_part.Goals as goal

pub returns-in_err-index-clause-too_large : goal.returns-in_err-index-clause-too_large
returns-in_err-index-clause-too_large c = λ imports w n h e.
    let p = err_from_is_err_and c.from_residual.result c.from_residual.ensures.1 in
    let same : p.0 ≡ encode_error.TooLarge n = err_is p.0 (encode_error.TooLarge n) (sym p.1 ∙ e) in
    part_large (composition_tree c.args.composition.now) imports c.args.output.now w c.args.part h n c.export_of-sort.result.1 c.instance_index-instance.result c.export_of-sort.result.0.now c.requires.fresh c.export_of-sort.ensures.name c.export_of-sort.ensures.sort
    (c.in_err-index.ensures.too_large n (ap (λ (x : EncodeError). Err x) (sym p.2 ∙ same)))

pub returns-clause-written : goal.returns-clause-written
returns-clause-written c = λ imports w h.
    part_added (composition_tree c.args.composition.now) imports c.args.output.now w c.args.part h c.export_of-sort.result.1 c.instance_index-instance.result c.in_ok-index.index c.export_of-sort.result.0.now c.alias_export.new.self c.insert.new.self
    c.requires.fresh c.export_of-sort.ensures.name c.export_of-sort.ensures.sort (c.instance_index-instance.ensures imports w h) c.in_ok-index.ensures.index c.in_ok-index.ensures.added c.in_ok-index.ensures.fits c.in_ok-insert.ensures.updates
