use Rattle.std.proofs.Common.{sym, subst}
use Rattle.comp_view.specs.Kinds.{AreTreesOf, all}
use Rattle.comp_view.proofs.PartLaws.{all_are}
use Rattle.comp_view.proofs.parts.all_parts.Goals as goal

pub returns-clause-kind : goal.returns-clause-kind
returns-clause-kind c = λ k a. all_are c.args.table.now c.args.number k c.parts.result.now c.requires c.parts.ensures.below (subst (AreTreesOf (all k)) (sym c.parts.ensures.parts) a)
