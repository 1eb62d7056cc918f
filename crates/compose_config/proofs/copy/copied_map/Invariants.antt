use Rattle.std.proofs.Common.{◌≡◌, take, map, bytes_eq}
use Rattle.std.specs.List.{IsDistinct}
use Rattle.std.specs.Map.{keys_of}
use Rattle.yaml_read.specs.Entries.{seen_entry}
use Rattle.compose_config.proofs.copy.copied_map.Given as goal

-- the entries up to the index were copied
abbrev pub invariant-loop-index : goal.invariant-loop-index
invariant-loop-index g l = record {
  distinct : IsDistinct bytes_eq (keys_of l.source.entries);
  done : map (seen_entry g.V.Copied.seen) l.copy.entries ≡ take l.index (map (seen_entry g.V.Copied.seen) l.source.entries);
}
