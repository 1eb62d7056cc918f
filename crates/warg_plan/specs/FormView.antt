-- What clauses see of a refused text.
use Rattle.warg_plan.specs.declared.text.TextError.{TextError}
use Rattle.warg_plan.specs.declared.text.TextError.TheVariants as refused
use Rattle.warg_plan.specs.Form.{Misfit, Definitions, SearchPaths, Dependencies, ImportComponents, Export}

abbrev pub misfit_view : TextError → Misfit
misfit_view refused.Definitions = Definitions
misfit_view refused.SearchPaths = SearchPaths
misfit_view refused.Dependencies = Dependencies
misfit_view refused.ImportComponents = ImportComponents
misfit_view (refused.Export instance argument) = Export instance.now argument.now
