use Rattle.comp_table.specs.Trees.{below_root, root, tree_at}
use Rattle.comp_view.specs.Kinds as kind
use Rattle.comp_view.proofs.PartLaws.{labelled, opened}
use Rattle.comp_view.proofs.modules.build_core_import.Goals as goal

pub only_part-requires-clause-one : goal.only_part-requires-clause-one
only_part-requires-clause-one c =
    let t = tree_at c.args.table.now c.args.number in (kind.CoreExport, labelled (kind.one kind.CoreExport) (root t) (below_root t) (opened kind.CoreImport t c.requires.is_one))
