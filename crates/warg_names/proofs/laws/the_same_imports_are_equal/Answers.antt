use Rattle.std.proofs.Common.{ap, sym, ◌∙◌}
use Rattle.warg_names.specs.Same.{same_import}
use Rattle.warg_names.specs.SameLaws.{imports}
use Rattle.warg_names.proofs.laws.the_same_imports_are_equal.Goals as goal

pub returns : goal.returns
returns c = λ a b. (imports.1 a b, λ same. ap (same_import a) (sym same) ∙ imports.0 a)
