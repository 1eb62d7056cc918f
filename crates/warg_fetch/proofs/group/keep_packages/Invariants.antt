-- The packages so far are kept.
use Rattle.std.proofs.Common.{◌≤◌, IfSome, take}
use Rattle.std.specs.Option.{option_copied}
use Rattle.warg_store.specs.Held.{Tells}
use Rattle.warg_fetch.specs.Groups.{package_writes}
use Rattle.warg_fetch.specs.Writes.{with_writes}
use Rattle.warg_fetch.proofs.group.keep_packages.Given as goal

abbrev pub invariant-loop-info : goal.invariant-loop-info
invariant-loop-info g l = record {
  faults : g.R.RegistryStorage.faults l.fn.registries ≤ g.R.RegistryStorage.faults l.registries;
  kept : IfSome (g.R.RegistryStorage.told l.fn.registries) (λ held. Tells (g.R.RegistryStorage.told l.registries) (with_writes held (package_writes (option_copied l.registry) (take l.info-index l.packages))));
}
