use Rattle.std.proofs.Common.{◌≡◌, ◌∷◌, ◌++◌, [], List, refl, sym, ap, subst, ◌∙◌}
use Rattle.comp_encoder.specs.declared.built.Kind.TheVariants as kind
use Rattle.comp_encoder.specs.declared.sections.Run.{Run}
use Rattle.comp_encoder.specs.Builder.{Kept, Item, IsLaid, kepts_of}
use Rattle.comp_encoder.proofs.RunLaws.{history_push, cut_is, joins_laid, laid_begins}
use Rattle.comp_encoder.proofs.built.Built.push_item.Goals as goal

pub invariant_of-self-then-id-self : goal.invariant_of-self-then-id-self
invariant_of-self-then-id-self c =
    let built = c.self.inside in
    let item : List _ = c.args.bytes.items in
    let kepts_are : kepts_of c.and-self-inside.result.items ≡ kepts_of built.history.items ++ Item c.args.id item ∷ [] =
    history_push built.history.items c.and-self-inside.result.items (kind.Item c.args.id) c.len.result [] item c.args.bytes c.and-self-inside.ensures (c.len.ensures ∙ c.args.bytes.ok.0) refl in
    joins_laid (kepts_of built.history.items) _ built.out.items built.run.id c.push.new.self.id c.args.id built.run.count c.push.new.self.count built.run.bytes.items c.push.new.self.bytes.items built.too_large item c.self.invariant c.requires.kept
    kepts_are c.if-id-self.true c.in_ok-push.ensures.id c.in_ok-push.ensures.count (c.in_ok-push.ensures.bytes ∙ ap (λ (t : List _). built.run.bytes.items ++ t) c.deref.ensures.value)

pub invariant_of-self-2 : goal.invariant_of-self-2
invariant_of-self-2 c =
    let built = c.self.inside in
    let item : List _ = c.args.bytes.items in
    let kepts_are : kepts_of c.and-self-inside-2.result.items ≡ kepts_of built.history.items ++ Item c.args.id item ∷ [] =
    history_push built.history.items c.and-self-inside-2.result.items (kind.Item c.args.id) c.len.result [] item c.args.bytes c.and-self-inside-2.ensures (c.len.ensures ∙ c.args.bytes.ok.0) refl in
    let whole = cut_is (kepts_of built.history.items) built.out.items built.run.id built.run.count built.run.bytes.items built.too_large c.end_run.new.out.items c.in-Ok.too_large c.self.invariant c.in-Ok.ensures.ended in
    let laid : IsLaid (kepts_of built.history.items ++ Item c.args.id item ∷ []) c.end_run.new.out.items c.args.id 1 item c.in-Ok.too_large =
    laid_begins (kepts_of built.history.items) c.end_run.new.out.items built.run.id c.args.id c.in-Ok.too_large item whole c.requires.kept c.requires.shared c.if-id-self.false in
    subst (λ (run : Run). IsLaid (kepts_of c.and-self-inside-2.result.items) c.end_run.new.out.items run.id run.count run.bytes.items c.in-Ok.too_large) (sym c.replace-ended.ensures.after)
    (subst (λ (ks : List Kept). IsLaid ks c.end_run.new.out.items c.args.id 1 item c.in-Ok.too_large) (sym kepts_are) laid)
