use Rattle.std.proofs.Common.{◌∙◌, ap, sym}
use Rattle.comp_table.specs.declared.head.Head.TheVariants as head
use Rattle.comp_table.specs.StandLaws.{node_is, same_stands}
use Rattle.comp_table.specs.Trees.{tree, node_tree}
use Rattle.compose_fit.proofs.RowLaws.{entries_plain}
use Rattle.compose_fit.proofs.numbered.instance_number.Goals as goal

pub returns-clause-number : goal.returns-clause-number
returns-clause-number c =
    same_stands c.number_of.new.self c.in_ok-number.number _ _
    ((λ i. node_tree c.entry_numbers.new.table head.Instance (c.from_vec.ensures i))
    ∙ node_is c.entry_numbers.new.table head.Instance c.in_ok-parts.parts.items _ c.in_ok-parts.ensures.numbers
    ∙ ap (tree head.Instance) (sym (entries_plain c.args.entries.now)))
    c.in_ok-number.ensures.number
