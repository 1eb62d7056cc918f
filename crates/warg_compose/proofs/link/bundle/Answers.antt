use Rattle.std.proofs.Common.{◌∙◌, Err, ap}
use Rattle.warg_compose.proofs.LockLaws.{not_bad}
use Rattle.warg_compose.proofs.link.bundle.Goals as goal

pub unreachable-requires : goal.unreachable-requires
unreachable-requires c =
    not_bad c.each_component_is_read.ensures c.in-Err-BadComponent.field-0-0 c.args.lock.now c.requires.lock
    (c.bundle.ensures.bad_component c.in-Err-BadComponent.field-0-0 (c.in-Err-BadComponent.is ∙ ap Err c.in-Err-BadComponent.field-0-is))
