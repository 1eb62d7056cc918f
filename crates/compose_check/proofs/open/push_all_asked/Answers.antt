use Rattle.std.proofs.Common.{◌++◌, ap, ◌∙◌, take}
use Rattle.std.proofs.lemmas.List.{append_assoc}
use Rattle.comp_entity.specs.Views.{entity_tree, named_entities}
use Rattle.compose_check.specs.Open.{asked_by, asked_from}
use Rattle.compose_check.proofs.AskedLaws.{asked_more}
use Rattle.compose_check.proofs.open.push_all_asked.Goals as goal

pub loop-import-preserved : goal.loop-import-preserved
loop-import-preserved c = λ w origins no_circle finds.
    let i = c.loop-import.import in
    let e = c.index-imports-import.result in
    let first = named_entities c.args.asked.now.items in
    let so_far = asked_from w c.args.target 0 (named_entities (take i c.args.imports.now)) in
    let next = asked_by w c.args.target i (e.0, entity_tree e.1) in
    c.in_ok-push_asked.ensures w origins no_circle finds ∙ ap (λ xs. xs ++ next) (c.loop-import.invariant w origins no_circle finds) ∙ append_assoc first so_far next
    ∙ ap (λ xs. first ++ xs) (asked_more w c.args.target c.args.imports.now i e c.loop-import-test.true c.index-imports-import.is)
