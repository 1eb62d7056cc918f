use Rattle.std.proofs.Common.{◌≡◌, ◌+◌, ◌++◌, ◌∷◌, [], List, ℕ, rules, take}
use Rattle.std.proofs.lemmas.List.{take_more}
use Rattle.warg_exchange.specs.declared.checkpoint.Checkpoint.{Checkpoint}
use Rattle.warg_update.specs.Proved.{checkpoint_text}
use Rattle.warg_model.specs.Signatures.{signature_on}
use Rattle.warg_model.proofs.SignatureLaws.{listed-more}
use Rattle.warg_model.proofs.registry.ModelRegistry.list_checkpoints.Goals as goal

pub loop-checkpoint-preserved : goal.loop-checkpoint-preserved
loop-checkpoint-preserved c =
    let k = c.args.self.now.key in
    let i = c.loop-checkpoint.checkpoint-index in
    let items = c.deref-checkpoint-items.result.now in
    let r = c.checkpoint-item.result in
    let sign : Checkpoint → List ℕ × List ℕ × List ℕ = λ x. signature_on k (checkpoint_text x) in
    let e : take (i + 1) items ≡ take i items ++ r ∷ [] = search (rules, take_more) in
    let is : c.in_ok-sign.field-0 ≡ sign r = search (rules, c.in_ok-sign.ensures, c.in_ok-text.ensures) in
    listed-more sign c.args.listed.now.items c.loop-checkpoint.listed.items c.push.new.self.items (take i items) (take (i + 1) items) r c.in_ok-sign.field-0 c.loop-checkpoint.invariant c.in_ok-push.ensures.items is e
