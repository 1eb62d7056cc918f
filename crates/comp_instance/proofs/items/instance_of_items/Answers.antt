use Rattle.comp_instance.specs.Items.{items_of}
use Rattle.comp_instance.proofs.ItemLaws.{instance_shown}
use Rattle.comp_instance.proofs.items.instance_of_items.Goals as goal

pub returns-clause-found : goal.returns-clause-found
returns-clause-found c = λ s shows.
    instance_shown c.items_of.new.table c.node.new.table c.in_ok-numbers.field-0 c.in_ok-number.number (items_of s c.args.args.now) (c.in_ok-numbers.ensures.found s shows) c.in_ok-number.ensures.number
