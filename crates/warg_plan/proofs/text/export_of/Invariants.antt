use Rattle.std.proofs.Common.{◌≡◌, drop, map}
use Rattle.yaml_read.specs.Entries.{seen_entry}
use Rattle.compose_config.specs.View.{instance_of}
use Rattle.warg_plan.specs.Form as form
use Rattle.warg_plan.proofs.text.export_of.Given as goal

abbrev pub invariant-loop-index : goal.invariant-loop-index
invariant-loop-index l = form.export_of (map (seen_entry instance_of) (drop l.index l.instantiations.entries)) ≡ form.export_of (map (seen_entry instance_of) l.instantiations.entries)
