use Rattle.std.proofs.Common.{sym, ◌∙◌, subst}
use Rattle.comp_view.specs.Kinds.{AreTreesOf, two}
use Rattle.comp_view.proofs.PartLaws.{two_are, two_parts, two_there}
use Rattle.comp_view.proofs.parts.two_parts.Goals as goal

pub bounds-parts-1 : goal.bounds-parts-1
bounds-parts-1 c =
    let known = c.requires.two in two_there c.args.table.now known.0 known.1 c.parts-parts.result.now (subst (AreTreesOf (two known.0 known.1)) (sym c.parts-parts.ensures.parts) known.2)

pub returns-clause-parts : goal.returns-clause-parts
returns-clause-parts c =
    let known = c.requires.two in
    sym c.parts-parts.ensures.parts ∙ two_parts c.args.table.now known.0 known.1 c.parts-parts.result.now (subst (AreTreesOf (two known.0 known.1)) (sym c.parts-parts.ensures.parts) known.2)

pub returns-clause-kinds : goal.returns-clause-kinds
returns-clause-kinds c = λ k l a. two_are c.args.table.now c.args.number k l c.parts-parts.result.now c.requires.there c.parts-parts.ensures.below (subst (AreTreesOf (two k l)) (sym c.parts-parts.ensures.parts) a)
