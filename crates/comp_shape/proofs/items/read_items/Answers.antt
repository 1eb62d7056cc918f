use Rattle.std.proofs.Common.{ap, ◌∙◌}
use Rattle.comp_shape.specs.Refusal.{as_shape}
use Rattle.comp_shape.proofs.items.read_items.Goals as goal

pub returns-in-Err-clause-only : goal.returns-in-Err-clause-only
returns-in-Err-clause-only c = λ items h. c.from.ensures ∙ ap as_shape (c.in-Err.ensures.only items h)
