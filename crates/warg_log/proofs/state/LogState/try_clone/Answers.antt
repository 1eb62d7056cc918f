use Rattle.std.proofs.Common.{sym, subst}
use Rattle.warg_log.specs.Agrees.{Agrees}
use Rattle.warg_log.specs.Rules.{entries_of}
use Rattle.warg_log.proofs.state.LogState.try_clone.Goals as goal

pub returns : goal.returns
returns g c = λ log. (
  λ f. record { head = f.head; agrees = subst (λ k. Agrees g.E.LogEntry.kind k (entries_of log)) c.in_ok-facts.ensures f.agrees },
  λ f. record { head = f.head; agrees = subst (λ k. Agrees g.E.LogEntry.kind k (entries_of log)) (sym c.in_ok-facts.ensures) f.agrees },
)
