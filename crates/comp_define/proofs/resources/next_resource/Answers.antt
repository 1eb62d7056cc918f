use Rattle.std.proofs.Common.{◌∙◌, ap}
use Rattle.comp_entity.specs.Entity.{made}
use Rattle.comp_entity.specs.Names as names
use Rattle.comp_table.specs.declared.head.Head.TheVariants as head
use Rattle.comp_table.specs.Plain.{leaf}
use Rattle.comp_table.specs.StandLaws.{number_of_same}
use Rattle.comp_define.proofs.resources.next_resource.Goals as goal

pub returns-in-Some-clause-number : goal.returns-in-Some-clause-number
returns-in-Some-clause-number c = λ s shows.
    number_of_same c.leaf.result c.leaf.new.table _ _ (ap (λ r. leaf (head.Resource r)) (c.in-Some.ensures.some ∙ ap (λ (n : names.Counts). made n.resources) shows.made)) c.leaf.ensures.number
