use Rattle.std.proofs.Common.{arith}
use Rattle.compose_check.specs.Composition.{composition_tree}
use Rattle.compose_imports.specs.Begun.{imports_at}
use Rattle.compose_imports.proofs.AddedLaws.{added_next, added_none, all_next, all_written, next_refused, next_writable}
use Rattle.compose_imports.proofs.RefusalLaws.{told}
use Rattle.compose_imports.proofs.begun.add_components.Goals as goal

pub loop-number-init : goal.loop-number-init
loop-number-init c =
    added_none (imports_at (composition_tree c.args.composition.now)) c.args.numbers.now c.args.begun.now c.requires

pub add_numbered-requires : goal.add_numbered-requires
add_numbered-requires c =
    next_writable (imports_at (composition_tree c.args.composition.now)) c.args.numbers.now c.loop-number.number-index 0
    c.args.begun.now c.loop-number.begun c.loop-number-test.true c.loop-number.invariant

pub loop-number-preserved : goal.loop-number-preserved
loop-number-preserved c =
    added_next (imports_at (composition_tree c.args.composition.now)) c.args.numbers.now c.loop-number.number-index 0
    c.args.begun.now c.loop-number.begun c.add_numbered.new.begun c.loop-number-test.true c.loop-number.invariant
    c.in_ok-add_numbered.ensures.next c.in_ok-add_numbered.ensures.written

pub returns-in_err-add_numbered-clause-among : goal.returns-in_err-add_numbered-clause-among
returns-in_err-add_numbered-clause-among c = λ n next e is.
    next_refused (imports_at (composition_tree c.args.composition.now)) c.args.numbers.now
    c.what_is_written_for_imports_only_grows.ensures.lefts n c.loop-number.number-index 0 c.args.begun.now
    c.loop-number.begun next c.loop-number-test.true c.loop-number.invariant
    (λ ms. c.in_err-add_numbered.ensures.among n ms (told c.from_residual.result _ n c.from_residual.ensures.1 e)) is

pub returns-clause-written : goal.returns-clause-written
returns-clause-written c =
    all_written (imports_at (composition_tree c.args.composition.now)) c.args.numbers.now c.loop-number.number-index
    c.args.begun.now c.loop-number.begun (omega arith) c.loop-number.invariant

pub returns-clause-next : goal.returns-clause-next
returns-clause-next c =
    all_next (imports_at (composition_tree c.args.composition.now)) c.args.numbers.now c.loop-number.number-index
    c.args.begun.now c.loop-number.begun (omega arith) c.loop-number.invariant
