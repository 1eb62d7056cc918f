use Rattle.std.proofs.Common.{◌∙◌}
use Rattle.comp_declare.proofs.EntryLaws.{taken_by}
use Rattle.comp_declare.proofs.entries.Entries.is_taken.Goals as goal

pub returns : goal.returns
returns c = λ table entries given shows low. c.contains.ensures ∙ taken_by given c.args.name.now entries c.args.self.now.names.keys shows.names_are low
