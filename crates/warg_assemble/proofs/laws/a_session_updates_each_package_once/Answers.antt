use Rattle.warg_assemble.specs.SessionLaws.{once}
use Rattle.warg_assemble.proofs.laws.a_session_updates_each_package_once.Goals as goal

pub returns : goal.returns
returns g c = λ accepts asker known w f parts. once accepts asker g.C.ContentReader.Reads w known f parts
