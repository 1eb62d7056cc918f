use Rattle.std.proofs.Common.{◌≡◌, drop, map}
use Rattle.yaml_read.specs.Entries.{seen_entry}
use Rattle.compose_config.specs.Plan as plan
use Rattle.compose_config.specs.View.{instance_of}
use Rattle.compose_config.proofs.config.instance_named.Given as goal

-- the name is not among the entries so far
abbrev pub invariant-loop-index : goal.invariant-loop-index
invariant-loop-index l =
    plan.instance_named (map (seen_entry instance_of) (drop l.index l.all.entries)) l.name ≡ plan.instance_named (map (seen_entry instance_of) l.all.entries) l.name
