-- How a learner tells the errors of a fetch.
use Rattle.warg_fetch.specs.declared.error.FetchError.{FetchError}
use Rattle.warg_fetch.specs.declared.error.FetchError.TheVariants as fetch
use Rattle.warg_fetch.specs.declared.error.LoadError.{LoadError}
use Rattle.warg_fetch.specs.declared.error.LoadError.TheVariants as load
use Rattle.warg_learn.specs.declared.error.LearnError.{LearnError}
use Rattle.warg_learn.specs.declared.error.LearnError.TheVariants as error

-- that a package is not fetched
abbrev pub fetch_refusal : {E : Type 0} → FetchError → LearnError E
fetch_refusal fetch.Memory = error.Memory
fetch_refusal e = error.Fetch e

-- that a content is not fetched
abbrev pub load_refusal : {E : Type 0} → LoadError → LearnError E
load_refusal load.Memory = error.Memory
load_refusal e = error.Load e
