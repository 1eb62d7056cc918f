use Rattle.std.proofs.Common.{rules, ap, sym, ◌∙◌, subst}
use Rattle.comp_entity.specs.Entity.{IsInstance}
use Rattle.comp_entity.specs.Views.{entries_of, named_entities}
use Rattle.compose_left.specs.Merging.{union}
use Rattle.compose_left.specs.Merged.{FindsNames, absent_from}
use Rattle.compose_left.proofs.MergeLaws.{front_is, union_is}
use Rattle.compose_left.proofs.merge.merge_instance.Goals as goal

pub note_names-requires-clause-names : goal.note_names-requires-clause-names
note_names-requires-clause-names c =
    subst (λ es. FindsNames c.args.names.now es)
    (sym (front_is c.deref-2.result.now c.args.exports.now.items (absent_from (named_entities c.args.exports.now.items) (named_entities c.in-Some.asked.now)) c.len-first.result (ap named_entities c.deref-2.ensures.value ∙ c.in_ok-push_new.ensures) (search rules)))
    c.requires

pub returns-clause-merged : goal.returns-clause-merged
returns-clause-merged c =
    union_is (named_entities c.args.exports.now.items) (named_entities c.in-Some.asked.now) (named_entities c.push_new.new.exports.items) c.in_ok-push_new.ensures
    ∙ ap (union (IsInstance (entries_of (named_entities c.args.exports.now.items)))) (sym c.in-Some.ensures)
