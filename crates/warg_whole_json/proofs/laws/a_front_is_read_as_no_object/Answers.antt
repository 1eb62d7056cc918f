-- What is read of a front.
use Rattle.warg_whole_json.proofs.ReadLaws.{no_front_is_read}
use Rattle.warg_whole_json.proofs.laws.a_front_is_read_as_no_object.Goals as goal

pub returns : goal.returns
returns c = no_front_is_read
