use Rattle.std.proofs.Common.{◌≡◌, ◌∙◌, ℕ, List, ap, map, sym, Some}
use Rattle.std.specs.Prelude.{option_map}
use Rattle.warg_plan.specs.declared.plan.PlanArg.{PlanArg}
use Rattle.warg_compose.specs.Open.{open_among}
use Rattle.warg_compose.proofs.StepLaws.{entries_more, entry_found, open_entry, view}
use Rattle.warg_compose.proofs.open.first_open.Goals as goal

pub returns-in-Some : goal.returns-in-Some
returns-in-Some c =
    let lent = ap (λ (xs : List (List ℕ × PlanArg)). open_among (map view xs)) c.deref.ensures.value in
    let here : open_entry c.entry-item.result ≡ Some c.in-Some.name.now = sym lent ∙ sym c.open_among.ensures ∙ ap (option_map (λ name. name.now)) c.in-Some.is in
    sym (entry_found c.args.entries.now c.loop-entry.entry-index c.entry-item.result c.loop-entry-test.true c.entry-item.is c.loop-entry.invariant c.in-Some.name.now here)

pub loop-entry-preserved : goal.loop-entry-preserved
loop-entry-preserved c =
    let lent = ap (λ (xs : List (List ℕ × PlanArg)). open_among (map view xs)) c.deref.ensures.value in
    entries_more c.args.entries.now c.loop-entry.entry-index c.entry-item.result c.loop-entry-test.true c.entry-item.is c.loop-entry.invariant (sym lent ∙ sym c.in_default.ensures)
