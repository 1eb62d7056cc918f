use Rattle.std.proofs.Common.{◌≡◌, ◌+◌, ◌++◌, ◌∷◌, [], List, ℕ, rules, ◌∙◌, ap, map, take}
use Rattle.std.proofs.lemmas.List.{map_push, take_more}
use Rattle.warg_record.specs.Envelope.{Signed}
use Rattle.warg_record.specs.Record.{Package}
use Rattle.warg_log.specs.Rules.{signed_text}
use Rattle.warg_model.specs.Signatures.{signature_on}
use Rattle.warg_model.specs.State.{logged_view}
use Rattle.warg_model.proofs.SignatureLaws.{listed-more}
use Rattle.warg_model.proofs.registry.ModelRegistry.list_records.Goals as goal

pub loop-record-preserved : goal.loop-record-preserved
loop-record-preserved c =
    let k = c.args.self.now.key in
    let i = c.loop-record.record-index in
    let items = c.deref-record-items.result.now in
    let r = c.record-item.result in
    let sign : List ℕ × Signed → List ℕ × List ℕ × List ℕ = λ e. signature_on k (signed_text Package e.1.contents) in
    let e : take (i + 1) items ≡ take i items ++ r ∷ [] = search (rules, take_more) in
    let more : map logged_view (take (i + 1) items) ≡ map logged_view (take i items) ++ logged_view r ∷ [] = ap (map logged_view) e ∙ map_push logged_view (take i items) r in
    let is : c.in_ok-sign.field-0 ≡ sign (logged_view r) = c.in_ok-sign.ensures ∙ ap (signature_on k) (c.as_slice.ensures.value ∙ c.in_ok-text.ensures) in
    listed-more sign c.args.listed.now.items c.loop-record.listed.items c.push.new.self.items (map logged_view (take i items)) (map logged_view (take (i + 1) items)) (logged_view r) c.in_ok-sign.field-0 c.loop-record.invariant c.in_ok-push.ensures.items is more
