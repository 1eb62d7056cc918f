use Rattle.std.proofs.Common.{rules, ◌≡◌, ◌≢◌, ◌≤◌, ◌+◌, ◌++◌, ◌∷◌, [], List, ℕ, false, sym, ◌∙◌, ap, subst, length, map, take, arith}
use Rattle.std.proofs.lemmas.List.{map_push, take_more, take_all, length-map, length-take-le}
use Rattle.warg_hash.specs.Hash.{operator_log_id}
use Rattle.warg_record.specs.Envelope.{Signed}
use Rattle.warg_record.specs.View.{envelope_view, operator_entry_view}
use Rattle.warg_model.specs.Held.{registry_of}
use Rattle.warg_model.specs.Pages.{published_behind}
use Rattle.warg_model.specs.State.{held, logged_view}
use Rattle.warg_exchange.specs.declared.logs.PublishedRecord.{PublishedRecord}
use Rattle.warg_ledger.specs.Registry.{BringsBehind, log_below}
use Rattle.warg_model.proofs.BehindLaws.{brings-behind}
use Rattle.warg_model.proofs.PageLaws.{none-behind, behind-more, first-taken}
use Rattle.warg_model.proofs.registry.ModelRegistry.records_behind.Goals as goal

pub returns-then-length-eq0-clause-records : goal.returns-then-length-eq0-clause-records
returns-then-length-eq0-clause-records c =
    let id = c.args.id.now in
    let after = c.args.after in
    c.new-published.ensures.items
    ∙ sym (ap (λ (n : ℕ). published_behind id after 0 (take n (registry_of (held c.args.self.now)).entries)) c.if-length-eq0.true ∙ none-behind id after 0)

pub loop-record-preserved : goal.loop-record-preserved
loop-record-preserved c =
    let id = c.args.id.now in
    let after = c.args.after in
    let i = c.loop-record.record-index in
    let items = c.first-record-items.result.now in
    let x = c.record-item.result in
    let first : List ℕ × Signed = (operator_log_id, envelope_view operator_entry_view c.args.self.now.opening) in
    let front = first ∷ map logged_view (take i items) in
    let before = c.loop-record.invariant in
    let within : i ≤ length items = search rules in
    let count = length-map (take i items) logged_view ∙ length-take-le i items within in
    let place = before.place in
    let at : c.loop-record.place ≡ length front = omega (arith, place, count) in
    let e : take (i + 1) items ≡ take i items ++ x ∷ [] = search (rules, take_more) in
    let more : first ∷ map logged_view (take (i + 1) items) ≡ front ++ logged_view x ∷ [] = ap (λ (l : List (List ℕ × Signed)). first ∷ l) (ap (map logged_view) e ∙ map_push logged_view (take i items) x) in
    record {
      place = ap (λ (n : ℕ). n + 1) place;
      published = behind-more id after c.loop-record.published.items c.push_behind-in-loop-record.new.out.items front (first ∷ map logged_view (take (i + 1) items)) (logged_view x) c.loop-record.place before.published c.in_ok-push_behind-2.ensures at more;
    }

pub returns-clause-records : goal.returns-clause-records
returns-clause-records c =
    let id = c.args.id.now in
    let after = c.args.after in
    let items = c.first-record-items.result.now in
    let first : List ℕ × Signed = (operator_log_id, envelope_view operator_entry_view c.args.self.now.opening) in
    let all : take c.loop-record.record-index items ≡ items = search (rules, take_all) in
    let some : c.args.length ≢ 0 = c.if-length-eq0.false in
    c.loop-record.invariant.published
    ∙ ap (λ (l : List (List ℕ × Signed)). published_behind id after 0 (first ∷ l)) (ap (map logged_view) all ∙ c.first-record-items.ensures)
    ∙ ap (published_behind id after 0) (first-taken c.args.length first (held c.args.self.now).published some)

pub returns-then-length-eq0-clause-brings : goal.returns-then-length-eq0-clause-brings
returns-then-length-eq0-clause-brings c sound apart kind before rest is parts last =
    let h = held c.args.self.now in
    let id = c.args.id.now in
    subst (λ (l : List PublishedRecord). BringsBehind kind (log_below (registry_of h) c.args.length id) before l false) (sym (returns-then-length-eq0-clause-records c)) (brings-behind h kind id c.args.length c.args.after before rest sound apart is parts last)

pub returns-clause-brings : goal.returns-clause-brings
returns-clause-brings c sound apart kind before rest is parts last =
    let h = held c.args.self.now in
    let id = c.args.id.now in
    subst (λ (l : List PublishedRecord). BringsBehind kind (log_below (registry_of h) c.args.length id) before l false) (sym (returns-clause-records c)) (brings-behind h kind id c.args.length c.args.after before rest sound apart is parts last)
