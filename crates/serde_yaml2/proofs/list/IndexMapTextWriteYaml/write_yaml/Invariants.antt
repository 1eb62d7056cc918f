use Rattle.std.proofs.Common.{◌≡◌, ◌+◌, ◌≤◌}
use Rattle.serde_yaml2.specs.Output.{appended, output_of, map_output, map_name}
use Rattle.serde_yaml2.specs.MapLaws.{map_so_far, deep_map_so_far}
use Rattle.serde_yaml2.proofs.list.IndexMapTextWriteYaml.write_yaml.Given as goal

-- the entries up to the index were written
abbrev pub invariant-loop-index : goal.invariant-loop-index
invariant-loop-index g l = record {
  same : map_name l.map ≡ map_name l.initial.map;
  done : map_output l.map ≡ appended (output_of l.fn.ser) (map_so_far g.V.WriteYaml.written l.self.entries l.index (output_of l.fn.ser).level);
  fits : (output_of l.fn.ser).level + deep_map_so_far g.V.WriteYaml.written l.self.entries l.index ≤ 64;
}
