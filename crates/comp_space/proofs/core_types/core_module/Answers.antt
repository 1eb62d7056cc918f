use Rattle.std.proofs.lemmas.Result.{IfOk-weaker}
use Rattle.std.proofs.Common.{◌∙◌, ◌≡◌, map}
use Rattle.comp_table.specs.declared.head.Head.TheVariants as head
use Rattle.comp_table.specs.Plain.{around_two, plain_export, plain_import}
use Rattle.comp_table.specs.StandLaws.{all_kept, node_is, number_of_same, stands_kept}
use Rattle.comp_table.specs.Trees.{tree, tree_at, trees_of}
use Rattle.comp_space.proofs.core_types.core_module.Goals as goal

pub returns-clause-number : goal.returns-clause-number
returns-clause-number c = λ known shows.
    let imports : tree_at c.node-2.new.table c.in_ok-imports.imports ≡ tree head.Entries (trees_of (map plain_import known.imports)) =
    (stands_kept c.node.new.table c.node-2.new.table c.node-2.ensures.extends c.in_ok-imports.imports _ c.in_ok-imports.ensures.number).tree_is ∙ node_is c.args.table.now head.Entries c.args.own.imports.items _ shows.imports in
    let exports : tree_at c.node-2.new.table c.in_ok-exports.exports ≡ tree head.Entries (trees_of (map plain_export known.exports)) =
    c.in_ok-exports.ensures.number.tree_is ∙ node_is c.node.new.table head.Entries c.args.own.exports.items _ (all_kept c.args.table.now c.node.new.table c.node.ensures.extends c.args.own.exports.items _ shows.exports) in
    number_of_same c.around_two.result c.around_two.new.table _ _ (λ i. around_two head.Module (imports i) (exports i)) c.around_two.ensures.number

pub returns-clause-there : goal.returns-clause-there
returns-clause-there c = IfOk-weaker c.around_two.result _ _ (λ n s. s.there) c.around_two.ensures.number
