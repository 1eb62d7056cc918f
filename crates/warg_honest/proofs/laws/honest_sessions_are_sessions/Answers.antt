use Rattle.warg_honest.proofs.SessionLaws.{honest-session}
use Rattle.warg_honest.proofs.laws.honest_sessions_are_sessions.Goals as goal

pub returns : goal.returns
returns g c accepts asker world w known f parts registries s = honest-session c.honest_updates_prove.ensures accepts asker world g.C.ContentReader.Reads registries w known f parts s
