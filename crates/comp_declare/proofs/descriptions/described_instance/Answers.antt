use Rattle.std.proofs.Common.{ap, sym, ◌∙◌}
use Rattle.comp_entity.specs.Names.{counts_at}
use Rattle.comp_scope.specs.Descriptions.{opening}
use Rattle.comp_declare.specs.Heads.{is_instance_type}
use Rattle.comp_declare.specs.Naming.{new_names}
use Rattle.comp_declare.proofs.CountLaws.{mentioned_by}
use Rattle.comp_declare.proofs.DescribedLaws.{instance_found}
use Rattle.comp_declare.proofs.descriptions.described_instance.Goals as goal

pub returns-clause-found : goal.returns-clause-found
returns-clause-found c = λ e stands.
    instance_found (new_names c.args.new.now) c.args.standing.named c.args.table.now c.with_head.new.table c.renamed.new.table c.args.standing.number c.in_ok-closed.closed c.in_ok-number.number c.in_ok-brings.brings e stands
    (ap is_instance_type (sym c.head.ensures) ∙ sym c.is_instance_type.ensures ∙ c.if-not-is_instance_type.false)
    c.in_ok-closed.ensures.number (λ e s. c.in_ok-brings.ensures ∙ ap (counts_at 0) (mentioned_by c.with_head.new.table c.in_ok-closed.closed e s c.trees_mention_as_entities.ensures)) (λ e. c.changed_entities_have_changed_trees.ensures (opening (new_names c.args.new.now)) 0 e) c.in_ok-number.ensures.number
