use Rattle.std.proofs.Common.{ap, ◌∙◌}
use Rattle.comp_entity.specs.Names.{counts_at}
use Rattle.comp_scope.specs.Spaces.{counts_sum}
use Rattle.comp_instance.proofs.InstanceLaws.{component_mentions}
use Rattle.comp_instance.proofs.instances.new_counts.Goals as goal

pub counts_of-requires : goal.counts_of-requires
counts_of-requires c = let sides = c.requires.2 in (sides.imports.there, (sides.exports.there, tt))

pub counts_of-requires-2 : goal.counts_of-requires-2
counts_of-requires-2 c = let sides = c.requires.2 in (sides.imports.there, (sides.exports.there, tt))

pub returns : goal.returns
returns c = λ imports exports sides.
    let mentions = component_mentions c.args.table.now c.args.sides imports exports sides c.trees_mention_as_entities.ensures in
    record {
      makes = c.in_ok-makes.ensures ∙ ap (counts_at 0) mentions;
      all = c.in_ok-all.ensures ∙ (λ i. counts_sum ((c.in_ok-makes.ensures ∙ ap (counts_at 0) mentions) i) ((c.in_ok-brings.ensures ∙ ap (counts_at 1) mentions) i));
    }
