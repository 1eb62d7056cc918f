use Rattle.warg_plan.specs.OnwardLaws.{still_on_way}
use Rattle.warg_plan.proofs.laws.more_facts_leave_the_way.Goals as goal

pub returns : goal.returns
returns c = λ s less more depth root es ext way. still_on_way s less more depth root es ext way
