use Rattle.std.proofs.Common.{◌∙◌, sym}
use Rattle.comp_table.specs.Changes.{tree_by}
use Rattle.comp_table.specs.StandLaws.{stands_kept, same_stands}
use Rattle.compose_fit.specs.Seen.{changes, instance_of}
use Rattle.compose_fit.proofs.naming.shape_in.Goals as goal

pub returns-clause-seen : goal.returns-clause-seen
returns-clause-seen c = λ s n.
    let change = changes c.args.naming c.args.at in
    let later = stands_kept c.args.table.now c.entity_in.new.table c.in_ok-imports.ensures.kept c.args.numbers.exports _ n.exports in
    record {
      imports = stands_kept c.entity_in.new.table c.entity_in-2.new.table c.in_ok-exports.ensures.kept c.in_ok-imports.imports _
          (same_stands c.entity_in.new.table c.in_ok-imports.imports _ _ ((λ i. tree_by change 0 (n.imports.tree_is i)) ∙ sym (c.changed_entities_have_changed_trees.ensures change 0 (instance_of s.imports))) c.in_ok-imports.ensures.number);
      exports = same_stands c.entity_in-2.new.table c.in_ok-exports.exports _ _ ((λ i. tree_by change 0 (later.tree_is i)) ∙ sym (c.changed_entities_have_changed_trees.ensures change 0 (instance_of s.exports))) c.in_ok-exports.ensures.number;
      shown = n.shown;
    }
