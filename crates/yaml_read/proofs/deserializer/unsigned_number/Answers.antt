use Rattle.yaml_read.specs.NumberLaws.{unsigned_is, unsigned_large, unsigned_none}
use Rattle.std.proofs.Common.{sym, arith}
use Rattle.yaml_read.proofs.deserializer.unsigned_number.Goals as goal

pub returns-in-Ok-clause-number : goal.returns-in-Ok-clause-number
returns-in-Ok-clause-number c =
    sym (unsigned_is c.args.most c.in-Ok.number c.args.text.now c.in-Ok.ensures.value.0.0.0 c.in-Ok.ensures.value.0.1 (omega arith))

pub returns-in_default-clause-number : goal.returns-in_default-clause-number
returns-in_default-clause-number c = sym (unsigned_large c.args.most c.in-Ok.number c.args.text.now c.in-Ok.ensures.value.0.1 (omega arith))

pub returns-in_default-2-clause-number : goal.returns-in_default-2-clause-number
returns-in_default-2-clause-number c = sym (unsigned_none c.args.most c.args.text.now (omega arith) c.in_default.ensures.value.0)
