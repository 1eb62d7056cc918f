use Rattle.yaml_scan.proofs.Quotes.{each_single}
use Rattle.yaml_scan.proofs.quoted.single_quoted.Goals as goal

pub returns-clause-each : goal.returns-clause-each
returns-clause-each c = each_single c.args.line.now c.single_scan.result c.single_scan.ensures
