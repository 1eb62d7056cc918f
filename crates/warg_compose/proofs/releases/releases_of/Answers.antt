use Rattle.std.proofs.Common.{map, sym, subst, take}
use Rattle.warg_plan.specs.View.{entry_view}
use Rattle.warg_compose.specs.Held.{AreReleases, HasComponent}
use Rattle.warg_compose.proofs.EntryLaws.{none_yet}
use Rattle.warg_compose.proofs.StepLaws.{map_more}
use Rattle.warg_compose.proofs.releases.releases_of.Goals as goal

pub loop-entry-init : goal.loop-entry-init
loop-entry-init c = none_yet _ c.new.ensures.empty c.new-2.ensures.items c.new-3.ensures.items

pub add_entry-requires : goal.add_entry-requires
add_entry-requires c = subst HasComponent (sym c.entry-item.is) (c.requires c.loop-entry.entry-index c.entry-item.result c.loop-entry-test.true)

pub loop-entry-preserved : goal.loop-entry-preserved
loop-entry-preserved c =
    subst (AreReleases c.add_entry.new.releases) (sym (map_more entry_view c.args.entries.now c.loop-entry.entry-index c.entry-item.result c.loop-entry-test.true c.entry-item.is))
    (c.in_ok-add_entry.ensures (map entry_view (take c.loop-entry.entry-index c.args.entries.now)) c.loop-entry.invariant)
