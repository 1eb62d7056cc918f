use Rattle.std.proofs.Common.{◌≡◌, drop, map}
use Rattle.yaml_read.specs.Entries.{seen_entry}
use Rattle.compose_config.specs.View.{argument_of}
use Rattle.compose_config.specs.Arguments as spec
use Rattle.compose_config.proofs.arguments.stray_argument.Given as goal

abbrev pub invariant-loop-index : goal.invariant-loop-index
invariant-loop-index l = spec.stray (map (seen_entry argument_of) (drop l.index l.arguments.entries)) l.imports ≡ spec.stray (map (seen_entry argument_of) l.arguments.entries) l.imports
