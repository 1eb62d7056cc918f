-- A session with honest registries is a session.
use Rattle.std.proofs.Common.{List, [], ◌∷◌}
use Rattle.warg_log.specs.Rules.{Accepts}
use Rattle.warg_exchange.specs.Requests.{Asker}
use Rattle.warg_store.specs.Held.{Registry}
use Rattle.warg_plan.specs.Walk.{Content, Facts}
use Rattle.warg_assemble.specs.Known.{Known}
use Rattle.warg_assemble.specs.Parts.{Part, Updated, Loaded, known_after, learnt, IsPart}
use Rattle.warg_assemble.specs.Session.{Wanted, IsSession}
use Rattle.warg_ledger.specs.Registry.{Registry as Ledger, IsRegistry}
use Rattle.warg_honest.specs.HonestSession.{IsHonestPart, IsHonestSession}
use Rattle.warg_honest.proofs.UpdateLaws.{WholeLaw, update-proves}

module _ (law : WholeLaw) (accepts : Accepts) (asker : Registry → Asker) (world : Registry → Ledger) (Reads : Content → Type 0) (registries : (r : Registry) → IsRegistry accepts (world r)) where
  honest-part : (known : Known) (p : Part) → IsHonestPart accepts asker world Reads known p → IsPart accepts asker Reads known p
  honest-part known (Updated u) h = update-proves law accepts asker world known u (registries u.registry) h
  honest-part known (Loaded l) h = h

  pub honest-session : (w : Wanted) (known : Known) (f : Facts) (parts : List Part) → IsHonestSession accepts asker world Reads w known f parts → IsSession accepts asker Reads w known f parts
  unfolding IsSession IsHonestSession
  honest-session w known f [] s = s
  honest-session w known f (p ∷ ps) s = (s.0, honest-part known p s.1, honest-session w (known_after known p) (learnt f p) ps s.2)
