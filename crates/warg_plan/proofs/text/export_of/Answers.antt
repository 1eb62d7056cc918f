use Rattle.std.proofs.Common.{sym, ◌∙◌, arith}
use Rattle.compose_config.specs.View.{instance_of}
use Rattle.warg_plan.specs.Form.{Export}
use Rattle.compose_config.specs.MapLaws.{none_there}
use Rattle.warg_plan.proofs.TextSteps.{instance_here, instance_next}
use Rattle.warg_plan.proofs.text.export_of.Goals as goal
use Rattle.warg_plan.proofs.text.export_of.Goals.{in-Some+in_default-export_in, in_default}

pub returns-in-Some-export_in : goal.returns-in-Some-export_in
returns-in-Some-export_in c =
    instance_here instance_of c.args.instantiations.now.entries c.loop-index.index (c.in-Some.instance.now, c.in-Some.instantiation.now) (Export c.in-Some.instance.now c.in-Some-export_in.argument.now) (sym c.in-Some.ensures.entry)
    (rw c.in-Some-export_in.is at (c.export_in.ensures c.in-Some.instance.now))
    ∙ c.loop-index.invariant

pub loop-index-preserved : goal.loop-index-preserved
loop-index-preserved c =
    elim c.match-get_index.branch [
      | in-Some+in_default-export_in w ↦
          instance_next instance_of c.args.instantiations.now.entries c.loop-index.index (w.in-Some.instance.now, w.in-Some.instantiation.now) (sym w.in-Some.ensures.entry)
          (rw w.in_default-export_in.is at (w.export_in.ensures w.in-Some.instance.now))
          ∙ c.loop-index.invariant
      | in_default w ↦ absurd (none_there c.args.instantiations.now.entries c.loop-index.index (omega arith) (sym w.in_default.ensures.entry))
    ]
