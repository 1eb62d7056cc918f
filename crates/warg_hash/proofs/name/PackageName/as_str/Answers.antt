use Rattle.warg_hash.specs.NameLaws.{is_package_name-name}
use Rattle.warg_hash.proofs.name.PackageName.as_str.Goals as goal

pub returns-clause-is_name : goal.returns-clause-is_name
returns-clause-is_name c = rw (← c.self.view_is) (is_package_name-name c.self.inside.text c.self.invariant)
