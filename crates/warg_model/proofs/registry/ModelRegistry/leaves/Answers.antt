use Rattle.std.proofs.Common.{◌≡◌, ◌∷◌, rules, ◌∙◌, ap, map, take}
use Rattle.std.proofs.lemmas.List.{take-map, take_all}
use Rattle.warg_hash.specs.Hash.{operator_log_id}
use Rattle.warg_record.specs.View.{envelope_view, operator_entry_view}
use Rattle.warg_model.specs.Hashes.{leaf_of}
use Rattle.warg_model.specs.Held.{registry_of}
use Rattle.warg_model.specs.State.{held, logged_view}
use Rattle.warg_model.proofs.registry.ModelRegistry.leaves.Goals as goal

pub returns : goal.returns
returns c =
    let items = c.args.self.now.records.items in
    let first = leaf_of (operator_log_id, envelope_view operator_entry_view c.args.self.now.opening) in
    let all : take c.loop-record.record-index c.deref-record-items.result.now ≡ items = search (rules, take_all) in
    c.truncate.ensures.items ∙ ap (take c.args.length) (c.loop-record.invariant ∙ ap (λ l. first ∷ map leaf_of (map logged_view l)) all)
    ∙ take-map leaf_of c.args.length (registry_of (held c.args.self.now)).entries
