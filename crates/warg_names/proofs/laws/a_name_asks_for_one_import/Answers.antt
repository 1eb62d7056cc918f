use Rattle.warg_names.specs.ImportLaws.{names_read, one_import}
use Rattle.warg_names.specs.ReadLaws.{import_of-sound}
use Rattle.warg_names.proofs.laws.a_name_asks_for_one_import.Goals as goal

pub returns-clause-exact : goal.returns-clause-exact
returns-clause-exact c = λ text tree. (import_of-sound text tree, names_read text tree)

pub returns-clause-one : goal.returns-clause-one
returns-clause-one c = one_import
