use Rattle.std.proofs.Common.{rules, ◌≡◌, None, [], refl, sym, ◌∙◌, ap, take, length}
use Rattle.warg_model.specs.Held.{registry_of}
use Rattle.warg_model.specs.State.{held}
use Rattle.warg_model.proofs.ListLaws.{no-items}
use Rattle.warg_model.proofs.RequestLaws.{empty-published, published-empty}
use Rattle.warg_model.proofs.registry.ModelRegistry.records_asked.Goals as goal

pub returns-then-is_empty-clause-err : goal.returns-then-is_empty-clause-err
returns-then-is_empty-clause-err c =
    let id = c.args.id.now in
    let entries = take c.args.length (registry_of (held c.args.self.now)).entries in
    let zero : length c.in_ok-records.records.items ≡ 0 = search rules in
    let empty : c.in_ok-records.records.items ≡ [] = no-items c.in_ok-records.records.items zero in
    (refl, search rules, published-empty id 0 entries (sym c.in_ok-records.ensures.records ∙ empty))

pub returns-clause-records : goal.returns-clause-records
returns-clause-records c =
    let id = c.args.id.now in
    let entries = take c.args.length (registry_of (held c.args.self.now)).entries in
    record {
      place = None;
      named = search rules;
      of_log = tt;
      some = λ none. let empty : c.in_ok-records.records.items ≡ [] = c.in_ok-records.ensures.records ∙ empty-published id None 0 entries none in let zero : length c.in_ok-records.records.items ≡ 0 = ap length empty in search rules;
      all = c.in_ok-records.ensures.records;
    }
