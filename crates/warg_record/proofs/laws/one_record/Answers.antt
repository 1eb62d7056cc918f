use Rattle.warg_record.specs.RecordLaws.{one_record_lem}
use Rattle.warg_record.proofs.laws.one_record.Goals as goal

pub returns : goal.returns
returns c = one_record_lem
