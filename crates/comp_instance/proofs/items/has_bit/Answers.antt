use Rattle.std.proofs.Common.{ap, ◌∙◌, ◌&&◌}
use Rattle.comp_instance.proofs.ItemLaws.{bit_is}
use Rattle.comp_instance.proofs.items.has_bit.Goals as goal

pub returns : goal.returns
returns c = λ e stands.
    bit_is c.args.table.now c.args.standing.number c.args.standing.named c.both.result c.head.result.now e
    (c.both.ensures ∙ ap (λ b. c.args.standing.named && b) c.has_name.ensures) c.head.ensures stands
