use Rattle.std.proofs.Common.{sym}
use Rattle.comp_table.specs.declared.head.Head.TheVariants as head
use Rattle.comp_table.specs.Trees.{tree_at}
use Rattle.comp_view.specs.Kinds as kind
use Rattle.comp_view.proofs.PartLaws.{below_is}
use Rattle.comp_view.proofs.modules.build_module.Goals as goal

pub two_parts-first-requires-clause-two : goal.two_parts-first-requires-clause-two
two_parts-first-requires-clause-two c = (kind.CoreImports, kind.CoreExports, below_is kind.AnyEntity (tree_at c.args.table.now c.args.number) head.Module c.requires.number.is_one (sym c.requires.module))
