use Rattle.std.proofs.Common.{rules, ◌∙◌, ◌<◌, ◌||◌, length, sym}
use Rattle.comp_instance.proofs.OwnLaws.{none_there, part_holds, part_more}
use Rattle.comp_instance.proofs.CoreLaws.{below_wider}
use Rattle.comp_instance.proofs.own_modules.+looking.Goals as goal

pub look-returns-then-contains-clause-found : goal.look-returns-then-contains-clause-found
look-returns-then-contains-clause-found t c = sym (none_there c.args.within c.args.table.now c.args.without.now.keys c.args.number c.requires.without (sym c.contains.ensures ∙ c.if-contains.true))

pub look-look_below-requires : goal.look-look_below-requires
look-look_below-requires t c =
    let fewer : c.in_ok-levels.levels < c.args.levels = c.in_ok-levels.ensures in
    (search (rules, fewer), (below_wider c.args.number (length c.args.table.now) c.parts.result.now c.requires.there c.parts.ensures.below, c.requires.without))

pub look_below-returns-then-branch-clause-found : goal.look_below-returns-then-branch-clause-found
look_below-returns-then-branch-clause-found t c = part_holds c.args.within c.args.table.now c.args.parts.now c.loop-part.part-index _ c.loop-part-test.true (sym c.in_ok-look.ensures.found ∙ c.if-branch.true)

pub look_below-loop-part-preserved : goal.look_below-loop-part-preserved
look_below-loop-part-preserved t c =
    let none = sym c.in_ok-look.ensures.found ∙ c.if-branch.false in
    record {
      without = c.in_ok-look.ensures.without;
      none = part_more c.args.within c.args.table.now c.args.parts.now c.loop-part.part-index _ c.loop-part-test.true ∙ (λ i. c.loop-part.invariant.none i || none i);
    }
