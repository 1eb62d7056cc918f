use Rattle.std.proofs.Common.{sym, ap, ◌∙◌, map, reverse}
use Rattle.warg_plan.specs.View.{key_view}
use Rattle.warg_plan.specs.Steps.{node_view}
use Rattle.warg_plan.specs.Found.{found_view}
use Rattle.warg_plan.proofs.FoundSteps.{closes, ok_entries}
use Rattle.warg_plan.proofs.walk.close.Goals as goal

pub returns-clause-gives : goal.returns-clause-gives
returns-clause-gives c = λ path key here new.
    let es = c.args.walk.now.entries.entries in
    ap ok_entries (closes es c.pop.new.self.keys c.in-Some.key _ (node_view c.args.node) path key (ap (λ ks. reverse (map key_view ks)) (sym c.in-Some.ensures.keys) ∙ here) new (c.in_ok-found.ensures c.in-Some.key)
    ∙ ap (map found_view) (sym c.in_ok-insert.ensures.entries))
