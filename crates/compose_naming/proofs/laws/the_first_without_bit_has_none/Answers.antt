use Rattle.compose_naming.proofs.FirstLaws.{first_of, had_before, not_had}
use Rattle.compose_naming.proofs.laws.the_first_without_bit_has_none.Goals as goal

pub returns-clause-before : goal.returns-clause-before
returns-clause-before c = had_before

pub returns-clause-not_with_it : goal.returns-clause-not_with_it
returns-clause-not_with_it c = not_had

pub returns-clause-no_other : goal.returns-clause-no_other
returns-clause-no_other c = first_of
