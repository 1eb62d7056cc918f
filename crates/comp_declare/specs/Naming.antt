-- How what is new in a description is called, as the definitions have it.
use Rattle.std.specs.Prelude.{◌+◌}
use Rattle.comp_scope.specs.Descriptions as scope
use Rattle.comp_declare.specs.declared.new_names.NewNames.{NewNames}

abbrev pub new_names : NewNames → scope.NewNames
new_names new = record {
  resource = λ n. record { out = new.out; number = new.counts.resources + n };
  place = λ n. record { out = new.out; number = new.counts.places + n };
}
