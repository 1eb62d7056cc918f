use Rattle.yaml_scan.proofs.Quotes.{each_double}
use Rattle.yaml_scan.proofs.quoted.double_quoted.Goals as goal

pub returns-clause-each : goal.returns-clause-each
returns-clause-each c = each_double c.args.line.now c.double_scan.result c.double_scan.ensures
