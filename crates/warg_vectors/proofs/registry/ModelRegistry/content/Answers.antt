use Rattle.std.proofs.Common.{List, ℕ, Some, sym, ◌∙◌, ap}
use Rattle.std.specs.Prelude.{find, bytes_eq, option_map}
use Rattle.warg_vectors.specs.declared.registry.Content.{Content}
use Rattle.warg_vectors.proofs.ListLaws.{content-seen}
use Rattle.warg_vectors.proofs.registry.ModelRegistry.content.Goals as goal

pub returns-in-Some : goal.returns-in-Some
returns-in-Some c =
    let digest = c.args.digest.now in
    ap (λ (bytes : List ℕ). Some bytes) c.as_slice-in-Some.ensures
    ∙ ap (option_map (λ (x : Content). x.bytes)) (c.in-Some.ensures ∙ ap (find (λ (x : Content). bytes_eq x.digest digest)) c.as_slice.ensures.value) ∙ sym (content-seen digest c.args.self.now.contents.items)

pub returns-in-None : goal.returns-in-None
returns-in-None c =
    let digest = c.args.digest.now in
    ap (option_map (λ (x : Content). x.bytes)) (c.in-None.ensures ∙ ap (find (λ (x : Content). bytes_eq x.digest digest)) c.as_slice.ensures.value) ∙ sym (content-seen digest c.args.self.now.contents.items)
