use Rattle.std.proofs.Common.{◌≡◌, ◌∷◌, rules, subst}
use Rattle.comp_entity.specs.Views.{entity_tree, named_entities}
use Rattle.compose_check.specs.Merging.{AreMerged, lefts_in}
use Rattle.compose_check.proofs.MergeLaws.{merged_more}
use Rattle.compose_check.proofs.open.merged.Goals as goal

pub loop-name-preserved : goal.loop-name-preserved
loop-name-preserved c =
    let next : c.loop-name.name-iterator.rest.items ≡ (c.in-Some.name, c.in-Some.entity) ∷ c.next.new.self.rest.items = search rules in
    record {
      merging = c.in_ok-take.ensures.merging;
      so_far = merged_more (named_entities c.args.asked.items) (named_entities c.next.new.self.rest.items) (c.in-Some.name, entity_tree c.in-Some.entity) (lefts_in c.loop-name.merging.list.items) (lefts_in c.take.new.merging.list.items)
          (subst (λ xs. AreMerged (named_entities c.args.asked.items) (named_entities xs) (lefts_in c.loop-name.merging.list.items)) next c.loop-name.invariant.so_far) c.in_ok-take.ensures.takes.lefts c.in_ok-take.ensures.takes.agrees;
    }
