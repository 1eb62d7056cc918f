use Rattle.std.proofs.Common.{[]}
use Rattle.warg_search.specs.SearchLaws.{none_learnt}
use Rattle.warg_search.proofs.plan.search_plan.Goals as goal

pub returns-in-Err-clause-refused : goal.returns-in-Err-clause-refused
returns-in-Err-clause-refused g c = record { parts = []; are = none_learnt _ _ _ _ _ }
