use Rattle.std.proofs.Common.{append_assoc, arith}
use Rattle.comp_encoder.proofs.WriteLaws.{leb_text_next}
use Rattle.comp_encoder.proofs.sink.+write_leb.Goals as goal

pub returns-clause-text : goal.returns-clause-text
returns-clause-text t c =
    rw (leb_text_next c.args.most c.args.number (omega arith) (omega arith), c.in_ok-write_leb.ensures.text, c.in_ok-push-2.ensures.items, append_assoc)
