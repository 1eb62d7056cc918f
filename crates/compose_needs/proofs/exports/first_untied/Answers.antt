use Rattle.std.proofs.Common.{◌++◌, sym, ap, subst, ◌∙◌, take}
use Rattle.comp_entity.specs.Views.{named_entities}
use Rattle.compose_needs.specs.Exports.{side_hides, sides_named}
use Rattle.compose_needs.specs.Seen.{Holds}
use Rattle.compose_needs.proofs.ExportLaws.{side_passes, sides_more}
use Rattle.std.proofs.Common.{drop, ◌+◌}
use Rattle.compose_needs.proofs.exports.first_untied.Goals as goal

pub loop-entry-preserved : goal.loop-entry-preserved
loop-entry-preserved c =
    record {
      seen = λ s h.
          subst (λ ts. Holds c.is_side_tied.new.seen ts) (sym (sides_more s c.args.entries.now c.loop-entry.entry-index c.entry-item.result c.loop-entry-test.true c.entry-item.is))
          (c.in_ok-is_side_tied.ensures.seen (s ++ sides_named (named_entities (take c.loop-entry.entry-index c.args.entries.now))) (c.loop-entry.invariant.seen s h) c.if-not-branch.false);
      found = λ s h.
          let before = s ++ sides_named (named_entities (take c.loop-entry.entry-index c.args.entries.now)) in
          ap (λ ts. side_hides ts (named_entities (drop (c.loop-entry.entry-index + 1) c.args.entries.now))) (sides_more s c.args.entries.now c.loop-entry.entry-index c.entry-item.result c.loop-entry-test.true c.entry-item.is)
          ∙ side_passes before c.args.entries.now c.loop-entry.entry-index c.entry-item.result c.loop-entry-test.true c.entry-item.is _
          (sym (c.in_ok-is_side_tied.ensures.tied before (c.loop-entry.invariant.seen s h)) ∙ c.if-not-branch.false) (c.loop-entry.invariant.found s h);
    }
