use Rattle.std.proofs.Common.{rules, tests, ◌||◌}
use Rattle.std.proofs.lemmas.Iterator.{YieldsList-from_slice}
use Rattle.std.proofs.lemmas.Iterator.Search.{all_from_yields_List}
use Rattle.warg_hash.specs.Name.{is_lower, is_digit}
use Rattle.warg_hash.proofs.name.are_letters_and_digits.Goals as goal

pub returns : goal.returns
returns c = all_from_yields_List (λ b. is_lower b || is_digit b) _ _ c.all.result c.all.ensures.ran (YieldsList-from_slice c.args.text.now cc) (λ x b q k. search (rules, tests))
