use Rattle.std.proofs.Common.{rules, ◌≡◌, ap, subst, arith}
use Rattle.comp_table.specs.Trees.{IsOnce, tree_at}
use Rattle.comp_table.proofs.TableLaws.{once}
use Rattle.comp_table.proofs.table.TypeTable.is_same.Goals as goal

pub returns : goal.returns
returns c =
    let one : IsOnce c.args.self.now = subst IsOnce c.self.view_is (once c.self.inside.nodes.items c.self.inside.numbers c.self.invariant) in (
      λ h. let same : c.args.a ≡ c.args.b = search rules in ap (tree_at c.args.self.now) same,
      λ e. let same = one c.args.a c.args.b c.requires.left c.requires.right e in grind (arith, same),
    )
