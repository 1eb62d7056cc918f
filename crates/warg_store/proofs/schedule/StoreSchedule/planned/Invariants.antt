-- what is found among all listed calls is found among those that are left
use Rattle.std.proofs.Common.{◌≡◌, drop, nat_eq}
use Rattle.std.specs.Map.{lookup}
use Rattle.warg_store.proofs.schedule.StoreSchedule.planned.Given as goal

abbrev pub invariant-loop-call : goal.invariant-loop-call
invariant-loop-call l = lookup (λ n. nat_eq n l.next) (drop l.call-index l.call-items) ≡ lookup (λ n. nat_eq n l.next) l.call-items
