use Rattle.std.proofs.Common.{◌≡◌, List, ℕ, Option, ap}
use Rattle.std.specs.Prelude.{option_copied}
use Rattle.std.proofs.lemmas.Result.{IfOk-weaker}
use Rattle.warg_exchange.specs.Requests.{Asker}
use Rattle.url.specs.Parts.{serialize}
use Rattle.warg_api.specs.declared.client.Client.{Client}
use Rattle.warg_update.specs.Standing.{asker_of}
use Rattle.warg_update.proofs.AdvanceLaws.{sound-of, asks-if-ok}
use Rattle.warg_update.proofs.step.UpdateStep.next_request.Goals as goal

-- who asks the registry of a name
named : Client → Option (List ℕ) → Asker
named client registry = record { base = serialize client.url; token = client.auth_token; registry = registry }

pub returns-in-Page-clause-asks : goal.returns-in-Page-clause-asks
unfolding named
returns-in-Page-clause-asks c accepts start xs stands =
    let step = c.args.self.now in
    let client = c.args.client.now in
    let k = named client (option_copied c.as_ref.result) in
    let who : k ≡ asker_of client step = ap (named client) c.as_ref.ensures.value in
    asks-if-ok c.ask_page.result k accepts (asker_of client step) start step xs who
    (IfOk-weaker c.ask_page.result _ _ (λ r exact. exact c.in-Page.is stands.ready.ids) c.ask_page.ensures.exact) stands

pub returns-in-Inclusion-clause-asks : goal.returns-in-Inclusion-clause-asks
unfolding named
returns-in-Inclusion-clause-asks c accepts start xs stands =
    let step = c.args.self.now in
    let client = c.args.client.now in
    let k = named client (option_copied c.as_ref.result) in
    let who : k ≡ asker_of client step = ap (named client) c.as_ref.ensures.value in
    asks-if-ok c.ask_inclusion.result k accepts (asker_of client step) start step xs who
    (IfOk-weaker c.ask_inclusion.result _ _ (λ r exact. exact c.in-Inclusion.is (sound-of accepts step.operator step.packages.items stands.ready.operator stands.ready.packages)) c.ask_inclusion.ensures.exact) stands

pub returns-in-Consistency-clause-asks : goal.returns-in-Consistency-clause-asks
unfolding named
returns-in-Consistency-clause-asks c accepts start xs stands =
    let step = c.args.self.now in
    let client = c.args.client.now in
    let k = named client (option_copied c.as_ref.result) in
    let who : k ≡ asker_of client step = ap (named client) c.as_ref.ensures.value in
    asks-if-ok c.ask_consistency.result k accepts (asker_of client step) start step xs who
    (IfOk-weaker c.ask_consistency.result _ _ (λ r exact. exact c.in-Consistency.is) c.ask_consistency.ensures.exact) stands
