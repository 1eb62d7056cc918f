use Rattle.std.proofs.Common.{◌≡◌, ◌∷◌, ◌++◌, [], ℕ, List, length, sym, ap, subst, ◌∙◌, append_assoc}
use Rattle.std.proofs.lemmas.List.{length-append}
use Rattle.comp_format.specs.Numbers.{number_text}
use Rattle.comp_encoder.specs.Builder.{Kept, IsLaid, kept, kind_id, kepts_of}
use Rattle.comp_encoder.proofs.RunLaws.{history_push, cut_is, laid_alone}
use Rattle.comp_encoder.proofs.built.Built.push_section.Goals as goal

kepts_are : (c : goal.After-clear) → kepts_of c.and-self-inside.result.items ≡ kepts_of c.self.inside.history.items ++ kept c.args.kind (c.args.head.now ++ c.args.content.now) ∷ []
kepts_are c =
    let ended = c.in-Ok.ensures.ended in
    let content : List ℕ = c.args.head.now ++ c.args.content.now in
    let head : List ℕ = kind_id c.args.kind ∷ number_text (length content) in
    history_push c.self.inside.history.items c.and-self-inside.result.items c.args.kind _ (ended.0 ++ head) content c.write_alone.new.out c.and-self-inside.ensures (sym (length-append c.args.head.now c.args.content.now)) (ended.2 ∙ sym (append_assoc ended.0 head content))

pub invariant_of-self : goal.invariant_of-self
invariant_of-self c =
    let built = c.self.inside in
    let ended = c.in-Ok.ensures.ended in
    let content : List ℕ = c.args.head.now ++ c.args.content.now in
    let whole = cut_is (kepts_of built.history.items) built.out.items built.run.id built.run.count built.run.bytes.items built.too_large ended.0 c.in-Ok.too_large c.self.invariant ended.1 in
    let laid : IsLaid (kepts_of built.history.items ++ kept c.args.kind content ∷ []) c.write_alone.new.out.items built.run.id 0 [] c.in-Ok.too_large =
    laid_alone (kepts_of built.history.items) ended.0 built.run.id c.in-Ok.too_large c.args.kind content c.write_alone.new.out.items whole c.self.invariant.shared c.requires.kept c.requires.alone ended.2 c.in-Ok.ensures.short in
    rw (c.clear.ensures.id, c.clear.ensures.count, c.clear.ensures.bytes) (subst (λ (ks : List Kept). IsLaid ks c.write_alone.new.out.items built.run.id 0 [] c.in-Ok.too_large) (sym (kepts_are c)) laid)

pub returns-in-Ok-clause-added : goal.returns-in-Ok-clause-added
returns-in-Ok-clause-added c = kepts_are c ∙ ap (λ (ks : List Kept). ks ++ kept c.args.kind (c.args.head.now ++ c.args.content.now) ∷ []) c.self.view_is
