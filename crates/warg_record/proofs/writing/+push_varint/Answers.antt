use Rattle.std.proofs.Common.{arith}
use Rattle.warg_record.specs.WireLaws.{varint_in-appended}
use Rattle.warg_record.proofs.writing.+push_varint.Goals as goal

pub returns : goal.returns
returns t c =
    rw (c.in_ok-push_varint.ensures, c.in_ok-push-2.ensures.items) (varint_in-appended c.args.left c.args.n c.args.out.now.items (omega arith) (omega arith))
