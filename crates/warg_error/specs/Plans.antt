-- How a client tells the errors of plans.
use Rattle.comp_shape.specs.declared.error.ShapeError.{ShapeError}
use Rattle.comp_shape.specs.declared.error.ShapeError.TheVariants as shape
use Rattle.warg_learn.specs.declared.error.LearnError.{LearnError}
use Rattle.warg_learn.specs.declared.error.LearnError.TheVariants as learn
use Rattle.warg_compose.specs.declared.error.ComposeError.{ComposeError}
use Rattle.warg_compose.specs.declared.error.ComposeError.TheVariants as compose
use Rattle.warg_plan.specs.declared.stop.Stop.{Stop}
use Rattle.warg_plan.specs.declared.stop.Stop.TheVariants as stop
use Rattle.warg_learn.specs.SearchError.{SearchError}
use Rattle.warg_learn.specs.SearchError.TheVariants as search
use Rattle.warg_error.specs.Calls.{load_refusal}
use Rattle.warg_error.specs.Updates.{fetch_refusal}
use Rattle.warg_error.specs.declared.error.PlanFault.TheVariants as fault
use Rattle.warg_error.specs.declared.error.ClientError.{ClientError}
use Rattle.warg_error.specs.declared.error.ClientError.TheVariants as error

-- that a content is no component
abbrev pub shape_refusal : ShapeError → ClientError
shape_refusal shape.Memory = error.Memory
shape_refusal e = error.BadComponent e

-- that the walk finds no plan. What it needs, a search learns; and its depth takes the stack, which is memory
abbrev pub stop_refusal : Stop → ClientError
stop_refusal (stop.NeedsLog name) = error.Memory
stop_refusal (stop.NeedsContent name digest) = error.Memory
stop_refusal (stop.NoPackage key) = error.BadPlan (fault.NoPackage key)
stop_refusal (stop.NoRelease name) = error.PackageVersionRequirementDoesNotExist name
stop_refusal (stop.BadImportName name) = error.BadImportName name
stop_refusal (stop.NoSuchImport key name) = error.BadPlan (fault.NoSuchImport key name)
stop_refusal (stop.Cycle key) = error.DependencyCycle key
stop_refusal stop.TooDeep = error.Memory
stop_refusal stop.Memory = error.Memory

-- that something is not learnt
abbrev pub learn_refusal : LearnError ShapeError → ClientError
learn_refusal (learn.Fetch e) = fetch_refusal e
learn_refusal (learn.Load e) = load_refusal e
learn_refusal (learn.Content e) = shape_refusal e
learn_refusal learn.Memory = error.Memory

-- that a search finds no plan
abbrev pub search_refusal : SearchError (LearnError ShapeError) → ClientError
search_refusal (search.NoPlan stop) = stop_refusal stop
search_refusal (search.Refused e) = learn_refusal e
search_refusal search.Memory = error.Memory

-- that a plan is not linked
abbrev pub compose_refusal : ComposeError → ClientError
compose_refusal (compose.ImportsDisallowed name) = error.ImportsDisallowed name
compose_refusal (compose.Incompatible why) = error.Incompatible why
compose_refusal (compose.TooLarge number) = error.TooLarge number
compose_refusal compose.Memory = error.Memory
