use Rattle.std.proofs.Common.{sym, subst, refl, []}
use Rattle.warg_log.specs.Agrees.{Agrees}
use Rattle.warg_log.proofs.AgreesLaws.{nothing-agrees}
use Rattle.warg_log.proofs.state.LogState.new.Goals as goal

pub returns : goal.returns
returns g c = record { head = refl; agrees = subst (λ k. Agrees g.E.LogEntry.kind k []) (sym c.new.ensures) (nothing-agrees g.E.LogEntry.kind) }
