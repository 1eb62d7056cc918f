use Rattle.std.proofs.Common.{◌≡◌, ◌-◌}
use Rattle.yaml_read.specs.Collections as spec
use Rattle.yaml_read.specs.Answers.{source_of}
use Rattle.yaml_read.proofs.deserializer.YamlDeserializer.entries.Given as goal

-- the entries from here on are those from the start on
abbrev pub invariant-loop : goal.invariant-loop
invariant-loop g l =
    let fill = g.F.MapFill in
    spec.entries_at fill.fills (l.most - l.counter) (fill.seen l.fill) (source_of l.self)
    ≡ spec.entries_at fill.fills l.most (fill.seen l.fn.fill) (source_of l.fn.self)
