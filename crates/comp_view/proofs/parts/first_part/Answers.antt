use Rattle.std.proofs.Common.{sym, subst}
use Rattle.comp_view.specs.Kinds.{AreNumbersOf, AreTreesOf, first}
use Rattle.comp_view.proofs.PartLaws.{first_are, first_there, others}
use Rattle.comp_view.proofs.parts.first_part.Goals as goal

pub returns-clause-kinds : goal.returns-clause-kinds
returns-clause-kinds c = λ k l a.
    let here = subst (AreTreesOf (first k l)) (sym c.parts-parts.ensures.parts) a in
    let all = first_are c.args.table.now c.args.number k l c.parts-parts.result.now c.requires.there c.parts-parts.ensures.below here in
    (all.0, subst (AreNumbersOf l c.args.table.now) (sym (others c.parts-parts.result.now (first_there c.args.table.now k l c.parts-parts.result.now here))) all.1)
