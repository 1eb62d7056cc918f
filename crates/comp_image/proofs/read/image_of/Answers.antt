use Rattle.std.proofs.Common.{Result, Ok, Err, map, sym, ◌∙◌, ap}
use Rattle.std.proofs.lemmas.Result.{err_from_is_err_and}
use Rattle.comp_entity.specs.Views.{named_entities}
use Rattle.comp_format.specs.Items.{item_tree}
use Rattle.comp_image.specs.declared.error.ImageError.{ImageError}
use Rattle.comp_image.specs.declared.error.ImageError.TheVariants as errors
use Rattle.comp_image.specs.declared.image.Image.{Image}
use Rattle.comp_image.specs.Progress.{is_among}
use Rattle.comp_image.proofs.ReadLaws.{stops_none, image_shown}
use Rattle.comp_image.proofs.read.image_of.Goals as goal

abbrev error_in : Result Image ImageError → ImageError
error_in (Ok image) = errors.Memory
error_in (Err e) = e

pub returns-in_err-components-clause-none : goal.returns-in_err-components-clause-none
returns-in_err-components-clause-none c = λ number is.
    let imports = named_entities c.args.imports.items in
    let p = err_from_is_err_and c.from_residual.result c.from_residual.ensures.1 in
    stops_none (is_among c.args.components.now.keys) imports (map item_tree c.args.items.now) number
    (c.in_err-components.ensures.not_carried number (ap (λ (e : ImageError). Err e) (sym p.2 ∙ ap error_in (sym p.1 ∙ is))) imports)

pub returns-clause-found : goal.returns-clause-found
returns-clause-found c =
    image_shown (is_among c.args.components.now.keys) c.args.imports (map item_tree c.args.items.now) c.in_ok-components.field-0 (c.in_ok-components.ensures.seen (named_entities c.args.imports.items))
