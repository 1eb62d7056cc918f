use Rattle.std.proofs.Common.{arith}
use Rattle.warg_record.specs.Record.{Package}
use Rattle.warg_record.specs.View.{package_entry_view}
use Rattle.warg_record.specs.EntryLaws.{entry_found, entry_refused}
use Rattle.warg_record.proofs.package.PackageEntryLogEntry.read.Goals as goal

pub returns-clause-ok : goal.returns-clause-ok
returns-clause-ok c = entry_found package_entry_view Package c.args.bytes.now c.read_entry.result c.read_entry.ensures

pub returns-clause-form : goal.returns-clause-form
returns-clause-form c = entry_refused package_entry_view Package c.args.bytes.now c.read_entry.result c.read_entry.ensures (omega arith)
