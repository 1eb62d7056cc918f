use Rattle.std.proofs.Common.{arith}
use Rattle.warg_record.specs.View.{record_view}
use Rattle.warg_record.specs.RecordLaws.{gives_found, gives_form}
use Rattle.warg_record.proofs.envelope.checked_record_of.Goals as goal

pub returns-clause-ok : goal.returns-clause-ok
returns-clause-ok g c = gives_found (record_view g.E.LogEntry.plain) g.E.LogEntry.kind c.args.contents.now c.record_of.result c.record_of.ensures

pub returns-clause-form : goal.returns-clause-form
returns-clause-form g c = gives_form (record_view g.E.LogEntry.plain) g.E.LogEntry.kind c.args.contents.now c.record_of.result c.record_of.ensures (omega arith)
