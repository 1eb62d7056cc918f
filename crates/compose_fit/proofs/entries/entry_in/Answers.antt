use Rattle.std.proofs.Common.{◌∙◌, ap, sym, subst, true}
use Rattle.std.specs.Prelude.{Some, None}
use Rattle.comp_entity.specs.Names.{entity_by}
use Rattle.comp_table.specs.Plain.{plain_entity}
use Rattle.comp_table.specs.Trees.{below_root}
use Rattle.compose_fit.specs.Seen.{IsEntryFound}
use Rattle.compose_fit.proofs.ExportLaws.{entry_among}
use Rattle.compose_fit.proofs.EntryLaws.{entry_nth, no_entry_nth}
use Rattle.compose_fit.proofs.entries.entry_in.Goals as goal

pub returns-then-place-parts : goal.returns-then-place-parts
returns-then-place-parts c = λ ch es s.
    subst (IsEntryFound c.args.table.now ch None) (sym (no_entry_nth c.args.table.now ch c.parts-parts.result.now es c.args.place (c.parts-parts.ensures.parts ∙ ap below_root s.tree_is) c.if-place-parts.true)) tt

pub entry_at-requires-clause-entry : goal.entry_at-requires-clause-entry
entry_at-requires-clause-entry c =
    let known = c.requires in
    entry_among c.args.table.now c.parts-parts.result.now known.0 c.args.place 0 c.if-place-parts.false (c.parts-parts.ensures.parts ∙ ap below_root known.1.tree_is)

pub returns : goal.returns
returns c = λ ch es s.
    let x = entry_nth c.args.table.now ch c.parts-parts.result.now es c.args.place 0 (c.parts-parts.ensures.parts ∙ ap below_root s.tree_is) c.if-place-parts.false in
    let item = c.entry_at.ensures x.item.0 (ch.mark true) (plain_entity (entity_by ch 0 x.item.1)) x.here in
    subst (IsEntryFound c.args.table.now ch (Some c.entry_at.result)) (sym x.at) item
