use Rattle.std.proofs.Common.{ap, sym, subst, ◌∙◌, ◌∷◌, map, length}
use Rattle.comp_table.specs.declared.head.Head.TheVariants as head
use Rattle.comp_table.specs.Rows.{held_plain, field_plain}
use Rattle.comp_table.specs.Trees.{IsBelow, node_tree, tree, trees_of}
use Rattle.comp_table.specs.StandLaws.{stands_kept, all_first, number_of_same, node_is}
use Rattle.comp_table.proofs.InternLaws.{func_is}
use Rattle.comp_table.proofs.intern.intern_func.Goals as goal

pub node-requires : goal.node-requires
node-requires c =
    let first = stands_kept _ _ c.in_ok-params.ensures.extends _ _ c.in_ok-result.ensures.number in
    rw c.in_ok-parts.ensures (first.there, subst (IsBelow (length c.intern_fields.new.table)) (sym c.deref-2.ensures.value) c.in_ok-params.ensures.numbers.all_there)

pub returns-clause-number : goal.returns-clause-number
returns-clause-number c =
    let first = stands_kept _ _ c.in_ok-params.ensures.extends _ _ c.in_ok-result.ensures.number in
    let all = all_first c.intern_fields.new.table c.in_ok-result.result _ c.in_ok-params.params.items _ first c.in_ok-params.ensures.numbers in
    number_of_same c.node.result c.node.new.table _ _
    (ap (node_tree c.intern_fields.new.table head.FuncType) (c.in_ok-parts.ensures ∙ ap (λ xs. c.in_ok-result.result ∷ xs) c.deref-2.ensures.value)
    ∙ node_is c.intern_fields.new.table head.FuncType (c.in_ok-result.result ∷ c.in_ok-params.params.items) _ all
    ∙ ap (λ xs. tree head.FuncType (trees_of (held_plain c.args.func.now.result ∷ map field_plain xs))) c.deref.ensures.value
    ∙ sym (func_is c.args.func.now))
    c.node.ensures.number
