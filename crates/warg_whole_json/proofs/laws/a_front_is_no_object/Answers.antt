-- The fronts of both layouts.
use Rattle.warg_whole_json.proofs.FrontLaws.{compact_front, front_in_lines}
use Rattle.warg_whole_json.proofs.laws.a_front_is_no_object.Goals as goal

pub returns-clause-compact : goal.returns-clause-compact
returns-clause-compact c = compact_front

pub returns-clause-in_lines : goal.returns-clause-in_lines
returns-clause-in_lines c = front_in_lines
