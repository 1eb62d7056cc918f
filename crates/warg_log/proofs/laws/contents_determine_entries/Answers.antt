use Rattle.warg_log.proofs.ReadLaws.{same_entries}
use Rattle.warg_log.proofs.laws.contents_determine_entries.Goals as goal

pub returns : goal.returns
returns c = same_entries c.one_record.ensures
