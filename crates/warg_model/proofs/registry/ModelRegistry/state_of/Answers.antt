use Rattle.std.proofs.Common.{◌≡◌, ◌+◌, ◌++◌, ◌∷◌, [], rules, sym, ◌∙◌, ap, subst, map, take}
use Rattle.std.proofs.lemmas.List.{map_push, take_more, take_all}
use Rattle.warg_record.specs.Record.{Package}
use Rattle.warg_log.specs.Follows.{Follows}
use Rattle.warg_model.specs.Records.{records_of}
use Rattle.warg_model.specs.State.{logged_view}
use Rattle.warg_model.proofs.RecordLaws.{records-append, records-none}
use Rattle.warg_model.proofs.registry.ModelRegistry.state_of.Goals as goal

pub loop-record-init : goal.loop-record-init
loop-record-init c = subst (Follows Package c.new-state.result) (sym (records-none c.package_log-id.result)) c.new-state.ensures

pub loop-record-preserved : goal.loop-record-preserved
loop-record-preserved c =
    let id = c.package_log-id.result in
    let i = c.loop-record.record-index in
    let items = c.deref-record-items.result.now in
    let x = c.record-item.result in
    let before = map logged_view (take i items) in
    let e : take (i + 1) items ≡ take i items ++ x ∷ [] = search (rules, take_more) in
    let more : records_of id (map logged_view (take (i + 1) items)) ≡ records_of id before ++ records_of id (logged_view x ∷ []) = ap (λ l. records_of id (map logged_view l)) e ∙ ap (records_of id) (map_push logged_view (take i items) x) ∙ records-append id before (logged_view x ∷ []) in
    subst (Follows Package c.follow_in.new.state) (sym more) (c.in_ok-follow_in.ensures (records_of id before) c.loop-record.invariant)

pub returns : goal.returns
returns c =
    let items = c.args.self.now.records.items in
    let e : take c.loop-record.record-index c.deref-record-items.result.now ≡ items = search (rules, take_all) in
    rw (sym c.package_log-id.ensures) (subst (λ l. Follows Package c.loop-record.state (records_of c.package_log-id.result (map logged_view l))) e c.loop-record.invariant)
