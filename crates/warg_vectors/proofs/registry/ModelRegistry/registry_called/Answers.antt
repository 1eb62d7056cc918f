use Rattle.std.proofs.Common.{sym, ◌∙◌, ap}
use Rattle.std.specs.Prelude.{find, option_copied, option_map}
use Rattle.warg_model.specs.State.{held}
use Rattle.warg_vectors.specs.Named.{same_name}
use Rattle.warg_vectors.specs.State.{IsSound, IsSoundNamed}
use Rattle.warg_vectors.specs.declared.registry.NamedRegistry.{NamedRegistry}
use Rattle.warg_vectors.proofs.ListLaws.{registry-seen, found-lent, mapped-lent}
use Rattle.warg_vectors.proofs.registry.ModelRegistry.registry_called.Goals as goal

pub returns-clause-held : goal.returns-clause-held
returns-clause-held c =
    mapped-lent (λ (r : NamedRegistry). held r.registry) c.registry_named.result
    ∙ ap (option_map (λ (r : NamedRegistry). held r.registry))
    (c.registry_named.ensures ∙ (λ k. find (λ (r : NamedRegistry). same_name r.name (c.name_in.ensures k)) (c.as_slice.ensures.value k)))
    ∙ sym (registry-seen (option_map (λ v. v.now.bytes) c.args.header) c.args.self.now.registries.items)

pub returns-clause-sound : goal.returns-clause-sound
returns-clause-sound c =
    let test = λ (r : NamedRegistry). same_name r.name (option_copied c.name_in.result) in
    found-lent {K = IsSound c.args.self.now} IsSoundNamed test c.args.self.now.registries.items c.registry_named.result (λ sound. sound.registries) (c.registry_named.ensures ∙ ap (find test) c.as_slice.ensures.value)
