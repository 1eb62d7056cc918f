use Rattle.std.proofs.Common.{rules}
use Rattle.yaml_read.specs.EntryLaws.{seen_insert}
use Rattle.yaml_read.proofs.list.EntryFillMapFill.entry.Goals as goal

pub returns : goal.returns
returns g c = rw c.in_ok-insert.ensures.entries (rw (seen_insert g.V.ReadYaml.seen c.args.self.now.entries.entries c.args.key c.in_ok-value.value) (search rules))
