use Rattle.std.proofs.Common.{ap, arith, ◌∙◌, ◌<◌, length}
use Rattle.comp_table.specs.Trees.{below_root}
use Rattle.comp_instance.proofs.InstanceLaws.{halves_are, two_there}
use Rattle.comp_instance.proofs.instances.halves.Goals as goal

pub bounds-parts-0 : goal.bounds-parts-0
bounds-parts-0 c =
    let two : 1 < length c.parts-parts.result.now = two_there c.args.table.now c.parts-parts.result.now _ _ (c.parts-parts.ensures.parts ∙ ap below_root c.requires.2.tree_is) in
    omega (arith, two)

pub bounds-parts-1 : goal.bounds-parts-1
bounds-parts-1 c = two_there c.args.table.now c.parts-parts.result.now _ _ (c.parts-parts.ensures.parts ∙ ap below_root c.requires.2.tree_is)

pub returns : goal.returns
returns c = λ imports exports s.
    halves_are c.args.table.now c.args.component c.parts-parts.result.now _ _ imports exports s c.parts-parts.ensures.below c.parts-parts.ensures.parts
