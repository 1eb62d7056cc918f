use Rattle.std.proofs.Common.{[], refl}
use Rattle.std.proofs.lemmas.Result.{err_from_is_err_and}
use Rattle.warg_search.specs.SearchLaws.{none_learnt}
use Rattle.warg_learn.specs.SearchError.TheVariants as search
use Rattle.warg_client.proofs.client.Client.find_package_plan.Goals as goal

pub returns-in_err-root-clause-refused : goal.returns-in_err-root-clause-refused
returns-in_err-root-clause-refused g c =
    let q = err_from_is_err_and c.from_residual.result c.from_residual.ensures.1 in
    rw (q.1, q.2) (record { refusal = search.Memory; told = refl; cause = record { parts = []; are = none_learnt _ _ _ _ _ } })
