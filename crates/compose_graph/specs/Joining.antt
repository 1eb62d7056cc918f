-- Connections by what the calls are given.
use Rattle.std.specs.Prelude.{Option, option_map}
use Rattle.compose_component.specs.declared.export.ExportIndex.{ExportIndex}
use Rattle.compose_component.specs.declared.import.ImportIndex.{ImportIndex}
use Rattle.compose_graph.specs.declared.connection.Connection.{Connection}
use Rattle.compose_graph.specs.declared.ids.InstanceId.{InstanceId}

abbrev pub joining : InstanceId → Option ExportIndex → InstanceId → ImportIndex → Connection
joining source export target import = record {
  source = source.0;
  export = option_map (λ (e : ExportIndex). e.0) export;
  target = target.0;
  import = import.0;
}
