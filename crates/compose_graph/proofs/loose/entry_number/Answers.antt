use Rattle.std.proofs.Common.{◌∙◌, ap, sym, subst, true}
use Rattle.std.specs.Prelude.{Some, None}
use Rattle.comp_fit.specs.Loose.{loose_tree}
use Rattle.comp_table.specs.Plain.{plain_entity}
use Rattle.comp_table.specs.Trees.{below_root}
use Rattle.compose_graph.specs.Loose.{IsEntryNumber}
use Rattle.compose_graph.proofs.LooseLaws.{entry_nth, no_entry_nth}
use Rattle.compose_graph.proofs.loose.entry_number.Goals as goal

pub returns-then-place-parts : goal.returns-then-place-parts
returns-then-place-parts c = λ es s.
    subst (IsEntryNumber c.args.table.now None)
    (sym (no_entry_nth c.args.table.now c.parts-parts.result.now es c.args.place (c.parts-parts.ensures.parts ∙ ap below_root s.tree_is) c.if-place-parts.true)) tt

pub entry_at-entity-requires-clause-entry : goal.entry_at-entity-requires-clause-entry
entry_at-entity-requires-clause-entry c =
    let known = c.requires in
    let x = entry_nth c.args.table.now c.parts-parts.result.now known.0 c.args.place 0 (c.parts-parts.ensures.parts ∙ ap below_root known.1.tree_is) c.if-place-parts.false in
    (x.item.0, true, loose_tree (plain_entity x.item.1), x.here)

pub returns : goal.returns
returns c = λ es s.
    let x = entry_nth c.args.table.now c.parts-parts.result.now es c.args.place 0 (c.parts-parts.ensures.parts ∙ ap below_root s.tree_is) c.if-place-parts.false in
    let item = c.entry_at-entity.ensures x.item.0 true (loose_tree (plain_entity x.item.1)) x.here in
    subst (IsEntryNumber c.args.table.now (Some c.entry_at-entity.result.1)) (sym x.at) item.1
