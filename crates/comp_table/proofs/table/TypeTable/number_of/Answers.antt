use Rattle.std.proofs.Common.{subst, sym, List, length}
use Rattle.comp_table.specs.Trees.{PlainTree, IsBelow}
use Rattle.comp_table.proofs.TableLaws.{nodes_below, once}
use Rattle.comp_table.proofs.table.TypeTable.number_of.Goals as goal

pub place-requires-clause-below : goal.place-requires-clause-below
place-requires-clause-below c =
    nodes_below c.self.inside.nodes.items c.args.parts (subst (λ (ts : List PlainTree). IsBelow (length ts) c.args.parts) (sym c.self.view_is) c.requires.below)

pub returns-clause-once : goal.returns-clause-once
returns-clause-once c = once c.place.new.nodes.items c.place.new.numbers c.place.ensures.table
