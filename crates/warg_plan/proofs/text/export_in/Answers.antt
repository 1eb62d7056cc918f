use Rattle.std.proofs.Common.{sym, ◌∙◌, arith}
use Rattle.compose_config.specs.View.{argument_of}
use Rattle.compose_config.specs.MapLaws.{none_there}
use Rattle.warg_plan.proofs.TextSteps.{export_here, export_next}
use Rattle.warg_plan.proofs.text.export_in.Goals as goal
use Rattle.warg_plan.proofs.text.export_in.Goals.{in-Some+else-is_some, in_default}

pub returns-then-is_some : goal.returns-then-is_some
returns-then-is_some c = λ instance.
    export_here argument_of c.args.arguments.now.entries c.loop-index.index (c.in-Some.name.now, c.in-Some.argument.now) (sym c.in-Some.ensures.entry) (sym c.is_some.ensures ∙ c.if-is_some.true) instance
    ∙ c.loop-index.invariant instance

pub loop-index-preserved : goal.loop-index-preserved
loop-index-preserved c = λ instance.
    elim c.match-get_index.branch [
      | in-Some+else-is_some w ↦
          export_next argument_of c.args.arguments.now.entries c.loop-index.index (w.in-Some.name.now, w.in-Some.argument.now) (sym w.in-Some.ensures.entry) (sym w.is_some.ensures ∙ w.if-is_some.false) instance
          ∙ c.loop-index.invariant instance
      | in_default w ↦ absurd (none_there c.args.arguments.now.entries c.loop-index.index (omega arith) (sym w.in_default.ensures.entry))
    ]
