use Rattle.std.proofs.Common.{◌≡◌, ◌+◌, ◌≤◌}
use Rattle.serde_yaml2.specs.Output.{appended, output_of, list_output, list_name}
use Rattle.serde_yaml2.specs.ListLaws.{so_far, deep_so_far}
use Rattle.serde_yaml2.proofs.list.VecWriteYaml.write_yaml.Given as goal

-- the items up to the index were written
abbrev pub invariant-loop-item : goal.invariant-loop-item
invariant-loop-item g l = record {
  same : list_name l.list ≡ list_name l.initial.list;
  done : list_output l.list ≡ appended (output_of l.fn.ser) (so_far g.T.WriteYaml.written l.self.items l.item-index (output_of l.fn.ser).level);
  fits : (output_of l.fn.ser).level + deep_so_far g.T.WriteYaml.written l.self.items l.item-index ≤ 64;
}
