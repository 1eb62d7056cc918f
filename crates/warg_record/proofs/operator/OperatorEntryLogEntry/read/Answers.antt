use Rattle.std.proofs.Common.{arith}
use Rattle.warg_record.specs.Record.{Operator}
use Rattle.warg_record.specs.View.{operator_entry_view}
use Rattle.warg_record.specs.EntryLaws.{entry_found, entry_refused}
use Rattle.warg_record.proofs.operator.OperatorEntryLogEntry.read.Goals as goal

pub returns-clause-ok : goal.returns-clause-ok
returns-clause-ok c = entry_found operator_entry_view Operator c.args.bytes.now c.read_entry.result c.read_entry.ensures

pub returns-clause-form : goal.returns-clause-form
returns-clause-form c = entry_refused operator_entry_view Operator c.args.bytes.now c.read_entry.result c.read_entry.ensures (omega arith)
