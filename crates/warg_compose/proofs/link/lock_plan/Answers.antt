use Rattle.std.proofs.Common.{[], subst, sym}
use Rattle.std.specs.Prelude.{All}
use Rattle.warg_compose.specs.Held.{HasComponent}
use Rattle.warg_compose.proofs.LockLaws.{each_component}
use Rattle.warg_compose.proofs.link.lock_plan.Goals as goal

pub releases_of-requires : goal.releases_of-requires
releases_of-requires c = subst (All HasComponent) (sym c.deref-2.ensures.value) (each_component [] c.args.plan.now.entries.items c.requires.each)
