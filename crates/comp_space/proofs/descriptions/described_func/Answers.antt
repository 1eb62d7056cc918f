use Rattle.std.proofs.Common.{ap, sym, ◌∙◌, ◌&&◌}
use Rattle.comp_space.proofs.DescriptionLaws.{func_found}
use Rattle.comp_space.proofs.descriptions.described_func.Goals as goal

pub returns-clause-found : goal.returns-clause-found
returns-clause-found c = λ e stands. rw c.plainly.ensures
    (func_found c.args.table.now c.around.new.table c.args.standing.number c.in_ok-number.number c.head.result.now e c.args.standing.named c.head.ensures stands c.in_ok-number.ensures.number
    (ap (λ b. c.args.standing.named && b) (sym c.is_func_type.ensures) ∙ sym c.both.ensures ∙ c.if-not-both.false))
