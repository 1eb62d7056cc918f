use Rattle.warg_assemble.specs.SessionLaws.{session_plan}
use Rattle.warg_assemble.proofs.laws.a_session_finds_a_plan.Goals as goal

pub returns : goal.returns
returns g c = λ accepts asker known w parts xs later es. session_plan accepts asker g.C.ContentReader.Reads known w parts xs later es
