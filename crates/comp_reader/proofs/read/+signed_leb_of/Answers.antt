use Rattle.std.proofs.Common.{arith, ◌-◌}
use Rattle.comp_reader.proofs.Powers.{power_next, power_some, power_bound}
use Rattle.comp_reader.proofs.read.+signed_leb_of.Goals as goal

pub returns-then-byte-lt64-clause-below : goal.returns-then-byte-lt64-clause-below
returns-then-byte-lt64-clause-below t c = omega (arith, power_next c.args.left (omega arith), power_some (c.args.left - 1))

pub overflow_mul-result : goal.overflow_mul-result
overflow_mul-result t c = omega (arith, c.in_ok-high-in-len1-up.ensures.below, power_bound (c.args.left - 1) (omega arith))

pub overflow_add-result : goal.overflow_add-result
overflow_add-result t c = omega (arith, c.in_ok-high-in-len1-up.ensures.below, power_bound (c.args.left - 1) (omega arith), c.type_inv.bytes 0)

pub returns-in_ok-high-in-len1-up-clause-below : goal.returns-in_ok-high-in-len1-up-clause-below
returns-in_ok-high-in-len1-up-clause-below t c = omega (arith, c.in_ok-high-in-len1-up.ensures.below, power_next c.args.left (omega arith), c.type_inv.bytes 0)
