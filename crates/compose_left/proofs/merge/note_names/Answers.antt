use Rattle.std.proofs.Common.{sym, subst, ap, arith, take}
use Rattle.comp_entity.specs.Views.{entity_tree, named_entities}
use Rattle.compose_left.specs.Merged.{FindsNames}
use Rattle.compose_left.proofs.MergeLaws.{named_more, named_count}
use Rattle.compose_left.proofs.merge.note_names.Goals as goal

pub loop-place-preserved : goal.loop-place-preserved
loop-place-preserved c =
    subst (λ es. FindsNames c.note_name.new.names es) (sym (named_more c.args.exports.now c.loop-place.place c.index-exports-place.result c.loop-place-test.true c.index-exports-place.is))
    (c.in_ok-note_name.ensures (named_entities (take c.loop-place.place c.args.exports.now)) (c.index-exports-place.result.0, entity_tree c.index-exports-place.result.1) c.loop-place.invariant
    (ap (λ e. e.0) (sym c.index-exports-place.is)) (named_count c.args.exports.now c.loop-place.place (let lt = c.loop-place-test.true in omega (arith, lt))))
