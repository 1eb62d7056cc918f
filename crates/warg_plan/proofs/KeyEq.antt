-- When keys are the same, as a map of them finds them.
use Rattle.std.proofs.Common.{◌≡◌, refl}
use Rattle.warg_plan.specs.declared.key.PlanKey.{PlanKey}
use Rattle.warg_plan.specs.declared.key.PlanKey.TheVariants as made
use Rattle.warg_plan.specs.contracts.key.PlanKeyPartialEq.TheImpl as of_key
use Rattle.warg_plan.specs.ImportLaws.{equal_imports}
use Rattle.warg_plan.specs.Keys.{same_key}
use Rattle.warg_plan.specs.View.{key_view}

pub eq_is : (a b : PlanKey) → of_key.ghosts.eq a b ≡ same_key (key_view a) (key_view b)
eq_is (made.Named a) (made.Named b) = refl
eq_is (made.Named a) (made.Parsed b) = refl
eq_is (made.Parsed a) (made.Named b) = refl
eq_is (made.Parsed a) (made.Parsed b) = equal_imports a b
