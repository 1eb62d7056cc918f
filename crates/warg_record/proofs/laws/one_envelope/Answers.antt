use Rattle.warg_record.specs.RecordLaws.{one_envelope_lem}
use Rattle.warg_record.proofs.laws.one_envelope.Goals as goal

pub returns : goal.returns
returns c = one_envelope_lem
