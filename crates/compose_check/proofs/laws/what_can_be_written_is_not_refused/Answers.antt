use Rattle.compose_check.proofs.RefusalLaws.{not_refused}
use Rattle.compose_check.proofs.laws.what_can_be_written_is_not_refused.Goals as goal

pub returns : goal.returns
returns c =
    let needs = c.outcomes_exclude_each_other.ensures in
    not_refused (record {
      fit = c.what_does_not_fit.ensures;
      clash = needs.clash;
      unbrought = needs.unbrought;
      ordered = c.outcomes_are_one.ensures.ordered;
      bits = c.functions_have_bits_or_not.ensures;
      circle = needs.circle;
    })
