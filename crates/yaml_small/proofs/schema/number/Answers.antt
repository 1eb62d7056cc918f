use Rattle.std.proofs.Common.{refl, sym, ap, ◌∙◌, arith}
use Rattle.std.specs.Char.{digit_value}
use Rattle.yaml_small.proofs.Digits.{read_over}
use Rattle.yaml_small.proofs.schema.number.Goals as goal

pub returns-then-next-from-clause-number : goal.returns-then-next-from-clause-number
returns-then-next-from-clause-number c =
    let byte = c.from.ensures in
    sym (read_over c.args.radix c.args.limit c.loop-byte.value c.in-Some.digit _ c.loop-byte.byte-index c.args.digits.now (omega arith)
    (rw byte at c.in-Some.ensures.value.0) (sym (ap digit_value byte) ∙ sym c.in-Some.ensures.value.1) refl
    (rw (c.from-in-loop-byte.ensures, c.from-in-loop-byte-2.ensures, c.from-in-loop-byte-3.ensures, c.from-in-loop-byte-4.ensures) at c.if-next-from.true) (omega arith))
    ∙ c.loop-byte.invariant.0
