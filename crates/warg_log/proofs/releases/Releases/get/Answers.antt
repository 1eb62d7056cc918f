use Rattle.std.proofs.Common.{◌≡◌, ◌<◌, length, get_or, Some, sym, ap, ◌∙◌, arith}
use Rattle.std.proofs.lemmas.List.{length-map, get_or-map}
use Rattle.semver.specs.Identifiers.{parts_of}
use Rattle.warg_log.specs.Places.{release_view, release_views}
use Rattle.warg_log.proofs.FactsLaws.{place_among-within, none_found, some_found}
use Rattle.warg_log.proofs.releases.Releases.get.Goals as goal

pub bounds-as_slice-place : goal.bounds-as_slice-place
bounds-as_slice-place c =
    let within = place_among-within (parts_of c.args.version.now) c.args.self.now c.in-Some.place (sym c.in-Some.ensures) in
    let long : length (release_views c.as_slice.result.now) ≡ length c.args.self.now = ap length c.as_slice.ensures in
    let same : length (release_views c.as_slice.result.now) ≡ length c.as_slice.result.now = length-map c.as_slice.result.now release_view in
    omega (arith, within, long, same)

pub offset_bounds-as_slice-place : goal.offset_bounds-as_slice-place
offset_bounds-as_slice-place c =
    let within = place_among-within (parts_of c.args.version.now) c.args.self.now c.in-Some.place (sym c.in-Some.ensures) in
    let long : length (release_views c.as_slice.result.now) ≡ length c.args.self.now = ap length c.as_slice.ensures in
    let same : length (release_views c.as_slice.result.now) ≡ length c.as_slice.result.now = length-map c.as_slice.result.now release_view in
    let small = c.as_slice.type_inv.1 in
    omega (arith, within, long, same, small)

pub returns-in-Some : goal.returns-in-Some
returns-in-Some c =
    let within = place_among-within (parts_of c.args.version.now) c.args.self.now c.in-Some.place (sym c.in-Some.ensures) in
    let long : length (release_views c.as_slice.result.now) ≡ length c.args.self.now = ap length c.as_slice.ensures in
    let same : length (release_views c.as_slice.result.now) ≡ length c.as_slice.result.now = length-map c.as_slice.result.now release_view in
    let lt : c.in-Some.place < length c.as_slice.result.now = omega (arith, within, long, same) in
    sym (some_found (parts_of c.args.version.now) c.args.self.now c.in-Some.place (release_view c.index-as_slice-place.result) (sym c.in-Some.ensures)
    ∙ ap (λ rs. Some (get_or rs c.in-Some.place (release_view c.index-as_slice-place.result))) (sym c.as_slice.ensures)
    ∙ ap Some (get_or-map release_view c.as_slice.result.now c.in-Some.place c.index-as_slice-place.result (release_view c.index-as_slice-place.result) lt)
    ∙ ap (λ r. Some (release_view r)) (sym c.index-as_slice-place.is))

pub returns-in-None : goal.returns-in-None
returns-in-None c = sym (none_found (parts_of c.args.version.now) c.args.self.now (sym c.place.ensures ∙ c.in-None.is))
