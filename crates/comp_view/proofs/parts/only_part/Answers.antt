use Rattle.std.proofs.Common.{sym, subst}
use Rattle.comp_view.specs.Kinds.{AreTreesOf, one}
use Rattle.comp_view.proofs.PartLaws.{one_is}
use Rattle.comp_view.proofs.parts.only_part.Goals as goal

pub returns-clause-kind : goal.returns-clause-kind
returns-clause-kind c = λ k a. one_is c.args.table.now c.args.number k c.parts-parts.result.now c.requires.there c.parts-parts.ensures.below (subst (AreTreesOf (one k)) (sym c.parts-parts.ensures.parts) a)
