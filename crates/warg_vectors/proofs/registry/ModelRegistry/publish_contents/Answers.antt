use Rattle.std.proofs.Common.{◌≡◌, ◌∙◌, ℕ, sym, ap, length, map, take, arith}
use Rattle.std.proofs.lemmas.List.{length-map, take-map}
use Rattle.warg_vectors.specs.State.{named_view, content_view}
use Rattle.warg_vectors.proofs.registry.ModelRegistry.publish_contents.Goals as goal

pub returns-in-Err-clause-same : goal.returns-in-Err-clause-same
returns-in-Err-clause-same c =
    let rs = c.args.self.now.registries.items in
    let cs = c.args.self.now.contents.items in
    let now = c.publish.new.self in
    let many : c.len-registries.result ≡ length (map named_view rs) = omega (arith, c.len-registries.ensures, c.args.self.now.registries.ok.0, length-map rs named_view) in
    let count : c.len-contents.result ≡ length (map content_view cs) = omega (arith, c.len-contents.ensures, c.args.self.now.contents.ok.0, length-map cs content_view) in
    let registries_are =
    ap (map named_view) c.truncate.ensures.items ∙ sym (take-map named_view c.len-registries.result now.registries.items)
    ∙ ap (λ (n : ℕ). take n (map named_view now.registries.items)) many ∙ c.in-Err.ensures.registries in
    let contents_are =
    ap (map content_view) c.truncate-in-Err.ensures.items ∙ sym (take-map content_view c.len-contents.result now.contents.items)
    ∙ ap (λ (n : ℕ). take n (map content_view now.contents.items)) count ∙ c.in-Err.ensures.contents in
    (λ k. record { registries = registries_are k; contents = contents_are k })
