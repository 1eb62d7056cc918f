use Rattle.comp_declare.proofs.EntryLaws.{names_push, numbers_push}
use Rattle.comp_declare.proofs.entries.Entries.push.Goals as goal

pub returns-in-Ok-clause-pushed : goal.returns-in-Ok-clause-pushed
returns-in-Ok-clause-pushed c = λ table entries e shows free low stands. record {
  stand = numbers_push table c.args.self.now.numbers.items c.push.new.self.items c.args.number entries e shows.stand stands c.in_ok-push.ensures.items;
  names_are = names_push c.args.self.now.names.keys c.push_name.new.names.keys c.args.name entries e shows.names_are free low c.in-Ok.ensures.keys;
}
