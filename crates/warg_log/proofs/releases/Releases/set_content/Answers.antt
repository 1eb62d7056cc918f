use Rattle.std.proofs.Common.{length, ap, ◌∙◌, arith}
use Rattle.std.proofs.lemmas.List.{length-map}
use Rattle.semver.specs.Identifiers.{parts_of}
use Rattle.warg_log.specs.declared.release.Release.{Release}
use Rattle.warg_log.specs.Places.{with_content, release_view}
use Rattle.warg_log.proofs.PlacedLaws.{ArePlaced-set, views-set}
use Rattle.warg_log.proofs.releases.Releases.set_content.Goals as goal

pub invariant_of-self : goal.invariant_of-self
invariant_of-self c =
    let rs = c.self.inside.items.items in
    let made : Release = record { version = c.index_mut.result.now.version; content = c.args.content } in
    ArePlaced-set rs c.args.place made c.index_mut.result.now c.self.inside.places c.self.invariant (ap (λ (r : Release). parts_of r.version) c.index_mut.ensures.value) (omega (arith, ap length c.self.view_is, length-map rs release_view))

pub returns : goal.returns
returns c =
    let rs = c.self.inside.items.items in
    let made : Release = record { version = c.index_mut.result.now.version; content = c.args.content } in
    views-set rs c.args.place made c.index_mut.result.now (ap (λ (r : Release). parts_of r.version) c.index_mut.ensures.value) (omega (arith, ap length c.self.view_is, length-map rs release_view))
    ∙ ap (λ xs. with_content xs c.args.place c.args.content) c.self.view_is
