use Rattle.warg_assemble.specs.SessionLaws.{session_more}
use Rattle.warg_assemble.proofs.laws.a_session_goes_on.Goals as goal

pub returns : goal.returns
returns g c = λ accepts asker known w f parts p. session_more accepts asker g.C.ContentReader.Reads known w known f parts p
