use Rattle.std.proofs.Common.{◌≡◌, take, true}
use Rattle.std.specs.Prelude.{is_some}
use Rattle.std.specs.List.{AllByRecursion}
use Rattle.std.specs.BTreeMap.{get}
use Rattle.compose_left.specs.Wired.{wiring_of}
use Rattle.compose_left.specs.Origins.{table_of}
use Rattle.compose_left.specs.Numbers.{AreNumbers, FindsOrigins, held_cmp}
use Rattle.compose_left.proofs.finding.noted.Given as goal

abbrev pub invariant-loop-held : goal.invariant-loop-held
invariant-loop-held l = record {
  finds : FindsOrigins l.places l.table.items;
  table : l.table.items ≡ table_of (wiring_of l.wired) (take l.held-index l.brought);
  numbers : AreNumbers (wiring_of l.wired) l.table.items l.numbers;
  all : AllByRecursion (λ h. is_some (get held_cmp l.numbers h) ≡ true) (take l.held-index l.brought);
}
