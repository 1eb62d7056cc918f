use Rattle.std.proofs.Common.{ap, sym, ◌∙◌}
use Rattle.warg_plan.specs.Keys.{same_key}
use Rattle.warg_plan.specs.KeyLaws.{same_itself, same_is}
use Rattle.warg_plan.proofs.laws.the_same_keys_are_equal.Goals as goal

pub returns : goal.returns
returns c = λ a b. (same_is a b, λ same. ap (same_key a) (sym same) ∙ same_itself a)
