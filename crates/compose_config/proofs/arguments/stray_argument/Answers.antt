use Rattle.std.proofs.Common.{sym, ap, ◌∙◌, arith}
use Rattle.compose_config.specs.View.{argument_of}
use Rattle.compose_config.specs.Arguments.{arguments_view, stray}
use Rattle.compose_config.specs.MapLaws.{none_there}
use Rattle.compose_config.proofs.ArgumentSteps.{stray_here, stray_next}
use Rattle.compose_config.proofs.arguments.stray_argument.Goals as goal
use Rattle.compose_config.proofs.arguments.stray_argument.Goals.{in-Some-get_index+else-not-contains, in_default-get_index}

pub returns-then-not-contains : goal.returns-then-not-contains
returns-then-not-contains c =
    stray_here argument_of c.args.imports.now c.in-Some.arguments.now.entries c.loop-index.index (c.in-Some-get_index.name.now, c.in-Some-get_index.field-0-1.now) (sym c.in-Some-get_index.ensures.entry)
    (sym (c.in_ok-names.ensures c.in-Some-get_index.name.now) ∙ sym c.contains.ensures ∙ c.if-not-contains.true)
    ∙ c.loop-index.invariant
    ∙ ap (λ a. stray (arguments_view a) c.args.imports.now) (sym c.in-Some.is)

pub loop-index-preserved : goal.loop-index-preserved
loop-index-preserved c =
    elim c.match-get_index.branch [
      | in-Some-get_index+else-not-contains w ↦
          stray_next argument_of c.args.imports.now c.in-Some.arguments.now.entries c.loop-index.index (w.in-Some-get_index.name.now, w.in-Some-get_index.field-0-1.now) (sym w.in-Some-get_index.ensures.entry)
          (sym (c.in_ok-names.ensures w.in-Some-get_index.name.now) ∙ sym w.contains.ensures ∙ w.if-not-contains.false)
          ∙ c.loop-index.invariant
      | in_default-get_index w ↦ absurd (none_there c.in-Some.arguments.now.entries c.loop-index.index (omega arith) (sym w.in_default-get_index.ensures.entry))
    ]
