use Rattle.std.proofs.Common.{◌≡◌, ◌-◌}
use Rattle.yaml_read.specs.Collections as spec
use Rattle.yaml_read.specs.Answers.{source_of}
use Rattle.yaml_read.proofs.deserializer.YamlDeserializer.items.Given as goal

-- the items from here on are those from the start on
abbrev pub invariant-loop-at : goal.invariant-loop-at
invariant-loop-at g l =
    let fill = g.F.SeqFill in
    spec.items_at fill.fills (l.most - l.at) l.at (fill.seen l.fill) (source_of l.self)
    ≡ spec.items_at fill.fills l.most 0 (fill.seen l.fn.fill) (source_of l.fn.self)
