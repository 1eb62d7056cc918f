use Rattle.std.proofs.Common.{map}
use Rattle.compose_order.specs.Known.{left_tree}
use Rattle.compose_check.specs.Bits.{IsBitRefusal}
use Rattle.compose_check.specs.Checked.{IsAgreement, IsCheckRefusal}
use Rattle.compose_check.specs.Composition.{wiring}
use Rattle.compose_check.proofs.RefusalLaws.{agreement, bits_refuse, err_then, ok_then}
use Rattle.compose_check.proofs.checking.in_order.Goals as goal

pub returns-clause-agree : goal.returns-clause-agree
returns-clause-agree c = λ k origins is merges.
    ok_then c.with_bits.result _ (λ out. IsAgreement (wiring k) (map left_tree out.items))
    (λ out bits. agreement (wiring k) _ _ bits.0 (c.in_ok-lefts.ensures.ordered k origins is merges) bits.1) c.with_bits.ensures.bits

pub returns-clause-refused : goal.returns-clause-refused
returns-clause-refused c = λ k origins is merges no_circle fit.
    err_then c.with_bits.result (IsBitRefusal (map left_tree c.in_ok-lefts.lefts.items)) (IsCheckRefusal k)
    (λ e lacks. bits_refuse k _ e (c.in_ok-lefts.ensures.ordered k origins is merges) no_circle fit lacks) c.with_bits.ensures.refused
