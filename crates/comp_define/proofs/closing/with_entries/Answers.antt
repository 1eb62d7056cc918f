use Rattle.std.proofs.Common.{◌∙◌, ap, length, map, subst, sym}
use Rattle.comp_declare.specs.Scopes.{plain_entry}
use Rattle.comp_define.proofs.ClosingLaws.{entries_are}
use Rattle.comp_table.specs.StandLaws.{node_is, number_of_same}
use Rattle.comp_table.specs.Trees.{IsBelow, node_tree, tree}
use Rattle.comp_define.proofs.closing.with_entries.Goals as goal

pub node-requires : goal.node-requires
node-requires c =
    let all = c.numbers.ensures c.args.table.now c.requires.0 c.requires.1 in
    subst (IsBelow (length c.args.table.now)) (sym c.in_ok-parts.ensures.items) all.all_there

pub returns-clause-number : goal.returns-clause-number
returns-clause-number c = λ es shows.
    let all = c.numbers.ensures c.args.table.now es shows in
    number_of_same c.node.result c.node.new.table _ _ (ap (node_tree c.args.table.now c.args.head) c.in_ok-parts.ensures.items ∙ node_is c.args.table.now c.args.head c.numbers.result.now (map plain_entry es) all ∙ ap (tree c.args.head) (entries_are es)) c.node.ensures.number
