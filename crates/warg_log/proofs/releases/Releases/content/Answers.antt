use Rattle.std.proofs.Common.{◌<◌, length, sym, ap, ◌∙◌, arith}
use Rattle.std.proofs.lemmas.List.{length-map}
use Rattle.warg_log.specs.declared.release.Release.{Release}
use Rattle.warg_log.specs.Places.{content_at, release_view}
use Rattle.warg_log.proofs.PlacedLaws.{content_at-views}
use Rattle.warg_log.proofs.releases.Releases.content.Goals as goal

pub returns : goal.returns
returns c =
    let rs = c.self.inside.items.items in
    let within : c.args.place < length rs = omega (arith, ap length c.self.view_is, length-map rs release_view) in
    ap (λ (r : Release). r.content) c.index.ensures ∙ sym (content_at-views rs c.args.place c.index.result.now within) ∙ ap (λ xs. content_at xs c.args.place) c.self.view_is
