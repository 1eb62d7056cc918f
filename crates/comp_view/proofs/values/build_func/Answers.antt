use Rattle.std.proofs.Common.{sym, ◌∙◌, ◌∷◌, map}
use Rattle.comp_table.specs.declared.head.Head.TheVariants as head
use Rattle.comp_table.specs.Trees.{below_root, root, tree, tree_at, trees_of}
use Rattle.comp_view.specs.Kinds as kind
use Rattle.comp_view.specs.RowLaws.{func_is}
use Rattle.comp_view.proofs.PartLaws.{func_below, opened, whole}
use Rattle.comp_view.proofs.values.build_func.Goals as goal

pub first_part-first-requires-clause-first : goal.first_part-first-requires-clause-first
first_part-first-requires-clause-first c =
    let t = tree_at c.args.table.now c.args.number in
    (kind.Held, kind.Field, (func_below (root t) (below_root t) (opened kind.FuncType t c.requires.is_one)).1)

pub returns : goal.returns
returns c =
    let t = tree_at c.args.table.now c.args.number in
    sym (func_is (record { params = c.in_ok-params.params; result = c.in_ok-result.result })
    ∙ (λ i. tree head.FuncType (trees_of (sym c.in_ok-result.ensures i ∷ c.in_ok-params.ensures i)))
    ∙ whole t head.FuncType (trees_of (map (tree_at c.args.table.now) (c.first_part-first.result.0 ∷ c.first_part-first.result.1.now))) (func_below (root t) (below_root t) (opened kind.FuncType t c.requires.is_one)).0 c.first_part-first.ensures.parts)
