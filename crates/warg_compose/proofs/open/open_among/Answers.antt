use Rattle.std.proofs.Common.{sym}
use Rattle.warg_compose.proofs.StepLaws.{argument_found, arguments_more}
use Rattle.warg_compose.proofs.open.open_among.Goals as goal

pub returns-in-Left : goal.returns-in-Left
returns-in-Left c = sym (argument_found c.args.arguments.now c.loop-name.name-index c.loop-name-item.result c.loop-name-test.true c.loop-name-item.is c.loop-name.invariant c.in-Left.is)

pub loop-name-preserved : goal.loop-name-preserved
loop-name-preserved c = arguments_more c.args.arguments.now c.loop-name.name-index c.loop-name-item.result c.loop-name-test.true c.loop-name-item.is c.loop-name.invariant c.in-Entry.field-0 c.in-Entry.is
