use Rattle.std.proofs.Common.{rules, subst, ◌<◌, length}
use Rattle.std.specs.Prelude.{ℕ, List}
use Rattle.std.specs.List.{All}
use Rattle.std.proofs.lemmas.List.{take_all}
use Rattle.std.proofs.lemmas.List.Elements.{All-more}
use Rattle.comp_entity.specs.declared.entity.Entity.{Entity}
use Rattle.comp_entity.specs.Views.{entity_tree}
use Rattle.compose_writing.specs.Conditions.{KeepsForm}
use Rattle.test_types.proofs.form.+entities.Goals as goal

pub keep_entries-loop-entry-preserved : goal.keep_entries-loop-entry-preserved
keep_entries-loop-entry-preserved t c =
    let P = λ (e : List ℕ × Entity). (0 < length e.0) × KeepsForm (entity_tree e.1) in
    All-more P c.args.entries.now c.loop-entry.entry-index c.entry-item.result c.loop-entry-test.true c.loop-entry.invariant (subst P c.entry-item.is (search rules))

pub keep_entries-returns : goal.keep_entries-returns
keep_entries-returns t c = λ u. subst (All (λ (e : List ℕ × Entity). (0 < length e.0) × KeepsForm (entity_tree e.1))) (take_all c.loop-entry.entry-index c.args.entries.now c.loop-entry-test.false) c.loop-entry.invariant
