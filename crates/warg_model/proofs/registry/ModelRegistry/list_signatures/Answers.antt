use Rattle.std.proofs.Common.{◌≡◌, ◌++◌, ◌∷◌, [], ℕ, List, refl, sym, ◌∙◌, ap, map, append_assoc}
use Rattle.warg_record.specs.Record.{Operator, Package}
use Rattle.warg_log.specs.Rules.{signed_text}
use Rattle.warg_update.specs.Proved.{checkpoint_text}
use Rattle.warg_model.specs.Held.{signatures_of}
use Rattle.warg_model.specs.Signatures.{signature_on}
use Rattle.warg_model.specs.State.{held}
use Rattle.warg_model.proofs.RegistryLaws.{signatures-in-turn}
use Rattle.warg_model.proofs.registry.ModelRegistry.list_signatures.Goals as goal

pub returns : goal.returns
returns c =
    let Triples = List (List ℕ × List ℕ × List ℕ) in
    let h = held c.args.self.now in
    let x = c.in_ok-sign.field-0 in
    let old : Triples = c.args.listed.now.items in
    let records : Triples = map (λ e. signature_on h.key (signed_text Package e.1.contents)) h.published in
    let checkpoints : Triples = map (λ c. signature_on h.key (checkpoint_text c)) h.checkpoints in
    let is : x ≡ signature_on h.key (signed_text Operator h.opening.contents) = c.in_ok-sign.ensures ∙ ap (signature_on h.key) (c.as_slice.ensures.value ∙ c.in_ok-opening.ensures) in
    let all : (x ∷ records) ++ checkpoints ≡ signatures_of h = signatures-in-turn h [] (x ∷ []) (x ∷ records) ((x ∷ records) ++ checkpoints) x refl refl is refl refl in
    let first : c.list_records.new.listed.items ≡ old ++ (x ∷ records) =
    c.in_ok-list_records.ensures ∙ ap (λ (l : Triples). l ++ records) c.in_ok-push.ensures.items ∙ append_assoc old (x ∷ []) records in
    c.in_ok-list_checkpoints.ensures ∙ ap (λ (l : Triples). l ++ checkpoints) first ∙ append_assoc old (x ∷ records) checkpoints ∙ ap (λ (l : Triples). old ++ l) all
