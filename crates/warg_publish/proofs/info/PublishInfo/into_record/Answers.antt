-- The form of the record, part by part.
use Rattle.std.proofs.Common.{◌<◌, ℕ, map, sym, subst, arith, rules}
use Rattle.std.proofs.lemmas.List.{length-map}
use Rattle.warg_publish.specs.Publish.{record_entry}
use Rattle.warg_publish.specs.Shown.{entry_view}
use Rattle.warg_publish.proofs.FormedLaws.{all_formed}
use Rattle.warg_publish.proofs.info.PublishInfo.into_record.Goals as goal

pub returns-clause-formed : goal.returns-clause-formed
returns-clause-formed c can short =
    let es = map entry_view c.args.self.entries.items in record {
      prev = search rules;
      version = omega arith;
      seconds = search (rules, arith);
      nanos = short;
      some_entry = subst (λ (n : ℕ). 0 < n) (sym (length-map es (record_entry c.args.signer.now))) can.some_entry;
      entries = all_formed c.args.signer.now es c.in_ok-record_entries.ensures.formed can.entries;
    }
