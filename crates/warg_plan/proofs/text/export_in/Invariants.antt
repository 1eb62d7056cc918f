use Rattle.std.proofs.Common.{◌≡◌, ℕ, List, drop, map}
use Rattle.yaml_read.specs.Entries.{seen_entry}
use Rattle.compose_config.specs.View.{argument_of}
use Rattle.warg_plan.specs.Form as form
use Rattle.warg_plan.proofs.text.export_in.Given as goal

abbrev pub invariant-loop-index : goal.invariant-loop-index
invariant-loop-index l = (instance : List ℕ) → form.export_in instance (map (seen_entry argument_of) (drop l.index l.arguments.entries)) ≡ form.export_in instance (map (seen_entry argument_of) l.arguments.entries)
