use Rattle.std.proofs.Common.{◌∙◌, ap}
use Rattle.warg_compose.proofs.StepLaws.{argument_open, argument_wired}
use Rattle.warg_compose.proofs.wires.add_wires.Goals.{in-Entry+in_ok-push, in_default}
use Rattle.warg_compose.proofs.wires.add_wires.Goals as goal

pub loop-import-preserved : goal.loop-import-preserved
loop-import-preserved c =
    elim c.match-argument.branch [
      | in-Entry+in_ok-push w ↦
          ap (λ v. v.items) w.wires-is
          ∙ argument_wired c.args.target c.args.arguments.now c.loop-import.import c.index-arguments-import.result c.loop-import-test.true c.index-arguments-import.is c.args.wires.now.items c.loop-import.wires.items c.loop-import.invariant w.in-Entry.source w.push.new.self.items w.in-Entry.is w.in_ok-push.ensures.items
      | in_default w ↦
          ap (λ v. v.items) w.wires-is
          ∙ argument_open c.args.target c.args.arguments.now c.loop-import.import c.index-arguments-import.result c.loop-import-test.true c.index-arguments-import.is c.args.wires.now.items c.loop-import.wires.items c.loop-import.invariant w.in_default.is
    ]
