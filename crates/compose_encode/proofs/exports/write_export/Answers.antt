use Rattle.std.proofs.Common.{◌≡◌, ◌∙◌, Err, sym, ap}
use Rattle.std.proofs.lemmas.Result.{err_from_is_err_and}
use Rattle.comp_format.specs.declared.error.EncodeError.{EncodeError}
use Rattle.comp_format.specs.declared.error.EncodeError.TheVariants as encode_error
use Rattle.compose_check.specs.Composition.{composition_tree}
use Rattle.compose_encode.specs.Parts.{part_of}
use Rattle.compose_encode.proofs.Errors.{err_is}
use Rattle.compose_encode.proofs.HeldLaws.{export_added, export_behind, export_large, large_still}
use Rattle.compose_image.specs.Instances.{with_export, with_part}
use Rattle.compose_encode.proofs.exports.write_export.Goals as goal

pub returns-in_err-write_part-clause-too_large : goal.returns-in_err-write_part-clause-too_large
returns-in_err-write_part-clause-too_large c = λ imports w n h e.
    let p = err_from_is_err_and c.from_residual.result c.from_residual.ensures.1 in
    let same : p.0 ≡ encode_error.TooLarge n = err_is p.0 (encode_error.TooLarge n) (sym p.1 ∙ e) in
    large_still n imports (with_part (composition_tree c.args.composition.now) w (part_of c.args.part)) (with_export (composition_tree c.args.composition.now) w (part_of c.args.part))
    (export_behind (composition_tree c.args.composition.now) w (part_of c.args.part))
    (c.in_err-write_part.ensures.too_large imports w n h (ap (λ (x : EncodeError). Err x) (sym p.2 ∙ same)))

pub returns-in_err-export-clause-too_large : goal.returns-in_err-export-clause-too_large
returns-in_err-export-clause-too_large c = λ imports w n h e.
    let p = err_from_is_err_and c.from_residual-in_err-export.result c.from_residual-in_err-export.ensures.1 in
    let same : p.0 ≡ encode_error.TooLarge n = err_is p.0 (encode_error.TooLarge n) (sym p.1 ∙ e) in
    export_large (composition_tree c.args.composition.now) imports c.write_part.new.output w c.args.part (c.in_ok-write_part.ensures.written imports w h) n c.export_of-sort.result.1 c.part_index-index.result c.export_of-sort.result.0.now
    c.export_of-sort.ensures.name c.export_of-sort.ensures.sort (c.in_err-export.ensures.too_large n (ap (λ (x : EncodeError). Err x) (sym p.2 ∙ same)))

pub returns-clause-written : goal.returns-clause-written
returns-clause-written c = λ imports w h.
    let held = c.in_ok-write_part.ensures.written imports w h in
    export_added (composition_tree c.args.composition.now) imports c.write_part.new.output w c.args.part held c.export_of-sort.result.1 c.part_index-index.result c.export_of-sort.result.0.now c.export.new.self
    c.export_of-sort.ensures.name c.export_of-sort.ensures.sort (c.part_index-index.ensures imports (with_part (composition_tree c.args.composition.now) w (part_of c.args.part)) held) c.in_ok-export.ensures.added c.in_ok-export.ensures.fits
