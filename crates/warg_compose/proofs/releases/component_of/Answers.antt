use Rattle.std.proofs.Common.{◌∙◌, ap, Err}
use Rattle.compose_component.specs.declared.error.ComponentError.TheVariants.{BadComponent}
use Rattle.warg_compose.proofs.releases.component_of.Goals as goal

pub unreachable-requires-in-Err-BadComponent : goal.unreachable-requires-in-Err-BadComponent
unreachable-requires-in-Err-BadComponent c =
    let answered = c.in-Err-BadComponent.is ∙ ap Err c.in-Err-BadComponent.field-0-is in
    let refused = c.from_bytes.ensures.bad_component c.in-Err-BadComponent.field-0-0 answered in
    let short = c.shapes_are_read.ensures c.in-Err-BadComponent.field-0-0 c.args.content.now c.requires.shape.0 refused c.requires.shape.1 in
    c.from_bytes.ensures.not_for_memory (answered ∙ ap (λ e. Err (BadComponent e)) short)
