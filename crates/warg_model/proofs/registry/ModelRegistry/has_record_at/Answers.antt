use Rattle.std.proofs.Common.{rules, ◌≡◌, ◌<◌, List, ℕ, Some, sym, ◌∙◌, ap}
use Rattle.std.specs.Prelude.{bytes_eq}
use Rattle.std.proofs.lemmas.Slice.Eq.{bytes_eq-Decides}
use Rattle.warg_model.specs.Held.{registry_of}
use Rattle.warg_model.specs.State.{held}
use Rattle.warg_model.proofs.RequestLaws.{in-front}
use Rattle.warg_model.proofs.registry.ModelRegistry.has_record_at.Goals as goal

some-same : {A : Type 0} {x y : A} → Some x ≡ Some y → x ≡ y
some-same e = cc

pub returns-in-Some : goal.returns-in-Some
returns-in-Some c =
    let entries = (registry_of (held c.args.self.now)).entries in
    let within : c.args.place < c.args.length = search rules in
    let found = in-front c.args.length entries c.args.place within ∙ sym c.log_at.ensures ∙ c.in-Some.is in
    let same : c.eq.result ≡ bytes_eq c.in-Some.log_id c.args.id.now = search rules in (
      (λ is. found ∙ ap (λ (id : List ℕ). Some id) ((bytes_eq-Decides c.in-Some.log_id c.args.id.now).0 (sym same ∙ is))),
      (λ there. let own : c.in-Some.log_id ≡ c.args.id.now = some-same (sym found ∙ there) in same ∙ (bytes_eq-Decides c.in-Some.log_id c.args.id.now).1 own),
    )

pub returns-in-None : goal.returns-in-None
returns-in-None c =
    let entries = (registry_of (held c.args.self.now)).entries in
    let within : c.args.place < c.args.length = search rules in
    let none = in-front c.args.length entries c.args.place within ∙ sym c.log_at.ensures ∙ c.in-None.is in
    ((λ is. absurd cc), (λ there. let wrong = sym none ∙ there in absurd cc))
