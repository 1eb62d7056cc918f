use Rattle.std.proofs.Common.{sym, ◌∙◌, ap, map, take}
use Rattle.std.proofs.lemmas.List.{take-map}
use Rattle.warg_model.specs.State.{logged_view}
use Rattle.warg_model.proofs.registry.ModelRegistry.first.Goals as goal

pub returns-then-count-len : goal.returns-then-count-len
returns-then-count-len c =
    let items = c.args.self.now.records.items in
    ap (λ l. map logged_view (take c.args.count l)) c.deref.ensures.value ∙ sym (take-map logged_view c.args.count items)
