use Rattle.std.proofs.Common.{◌++◌, ◌∷◌, [], sym, ◌∙◌, ap, map}
use Rattle.std.specs.Prelude.{find, bytes_eq, is_some}
use Rattle.std.proofs.lemmas.List.{map_push}
use Rattle.warg_vectors.specs.State.{content_view}
use Rattle.warg_vectors.specs.declared.registry.Content.{Content}
use Rattle.warg_vectors.proofs.ListLaws.{kept-there, kept-new, some-lent}
use Rattle.warg_vectors.proofs.registry.keep.Goals as goal

pub returns-then-is_some-clause-kept : goal.returns-then-is_some-clause-kept
returns-then-is_some-clause-kept c =
    let found = c.content_of.ensures ∙ (λ k. find (λ (x : Content). bytes_eq x.digest (c.sha256_of-digest.ensures k)) (c.as_slice.ensures.value k)) in
    sym (kept-there c.args.contents.now.items c.args.content.now (sym (ap is_some found) ∙ some-lent c.content_of.result ∙ sym c.if-is_some.ensures))

pub returns-clause-kept : goal.returns-clause-kept
returns-clause-kept c =
    let cs = c.args.contents.now.items in
    let content = c.args.content.now in
    let found = c.content_of.ensures ∙ (λ k. find (λ (x : Content). bytes_eq x.digest (c.sha256_of-digest.ensures k)) (c.as_slice.ensures.value k)) in
    ap (map content_view) c.in_ok-push.ensures.items ∙ map_push content_view cs _
    ∙ (λ k. map content_view cs ++ (c.sha256_of-digest.ensures k, (c.from_vec-bytes.ensures ∙ c.in_ok-from_slice.ensures.items) k) ∷ [])
    ∙ sym (kept-new cs content (sym (ap is_some found) ∙ some-lent c.content_of.result ∙ sym c.if-is_some.ensures))
