use Rattle.std.proofs.Common.{◌≡◌, take}
use Rattle.compose_config.proofs.copy.copied_names.Given as goal

-- the names up to the index were copied
abbrev pub invariant-loop-name : goal.invariant-loop-name
invariant-loop-name l = l.copy.items ≡ take l.name-index l.names.items
