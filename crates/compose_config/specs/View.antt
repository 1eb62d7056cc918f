-- What a configuration and its parts say, without where they lie in memory.
use Rattle.std.specs.Prelude.{map}
use Rattle.yaml_read.specs.Entries.{seen_entry}
use Rattle.compose_config.specs.declared.parts.Dependency.{Dependency}
use Rattle.compose_config.specs.declared.parts.InstantiationArg.{InstantiationArg}
use Rattle.compose_config.specs.declared.parts.Instantiation.{Instantiation}
use Rattle.compose_config.specs.declared.config.Config.{Config}
use Rattle.compose_config.specs.Plan.{Name, Argument, Instance, Settings}

abbrev pub argument_of : InstantiationArg → Argument
argument_of a = record { instance = a.instance; export = a.export }

abbrev pub path_of : Dependency → Name
path_of d = d.path

abbrev pub instance_of : Instantiation → Instance
instance_of i = record { dependency = i.dependency; arguments = map (seen_entry argument_of) i.arguments.entries }

abbrev pub settings_of : Config → Settings
settings_of c = record {
  definitions = c.definitions.items;
  search_paths = c.search_paths.items;
  skip_validation = c.skip_validation;
  import_components = c.import_components;
  disallow_imports = c.disallow_imports;
  dependencies = map (seen_entry path_of) c.dependencies.entries;
  instantiations = map (seen_entry instance_of) c.instantiations.entries;
}
