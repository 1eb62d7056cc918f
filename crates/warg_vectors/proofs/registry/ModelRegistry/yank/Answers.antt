use Rattle.std.proofs.Common.{◌≡◌, Option, None, sym, ◌∙◌, subst, map, arith}
use Rattle.std.specs.Prelude.{option_copied, IfSome}
use Rattle.semver.specs.Identifiers.{parts_of}
use Rattle.warg_model.specs.Held.{Held, content_in, with_yank}
use Rattle.warg_vectors.specs.State.{named_view, content_view}
use Rattle.warg_vectors.proofs.PlaceLaws.{place-none}
use Rattle.warg_vectors.proofs.ListLaws.{on-ok, on-err}
use Rattle.warg_vectors.proofs.MentionLaws.{called, within, lent-at, registry-at, changed-at, unchanged-at}
use Rattle.warg_vectors.proofs.registry.ModelRegistry.yank.Goals as goal

pub index_mut-requires : goal.index_mut-requires
index_mut-requires c =
    let name = option_copied c.args.registry in
    let rs = c.args.self.now.registries.items in
    let place = c.in-Some.place in
    let stands = called c.in-Some.ensures c.as_slice.ensures.value c.bytes_of.ensures in
    let below = within name rs place stands in
    omega (arith, below, c.args.self.now.registries.ok.0)

pub returns-clause-yanked : goal.returns-clause-yanked
returns-clause-yanked c =
    let name = option_copied c.args.registry in
    let package_name = c.args.name.now in
    let version = parts_of c.args.version.now in
    let rs = c.args.self.now.registries.items in
    let place = c.in-Some.place in
    let p = c.index_mut.result.now in
    let stands = called c.in-Some.ensures c.as_slice.ensures.value c.bytes_of.ensures in
    let there = lent-at name rs place p stands c.index_mut.ensures.value in
    on-ok c.yank_in.result
    (λ is. let are = changed-at name rs place p c.yank_in.new.named (λ h. with_yank h package_name version) stands there is in (λ k. record { registries = are k; contents = map content_view c.args.self.now.contents.items }))
    c.yank_in.ensures.yanked

pub returns-clause-same : goal.returns-clause-same
returns-clause-same c =
    let name = option_copied c.args.registry in
    let rs = c.args.self.now.registries.items in
    let place = c.in-Some.place in
    let p = c.index_mut.result.now in
    let stands = called c.in-Some.ensures c.as_slice.ensures.value c.bytes_of.ensures in
    let there = lent-at name rs place p stands c.index_mut.ensures.value in
    on-err c.yank_in.result
    (λ same. let are = unchanged-at rs place p c.yank_in.new.named there same in (λ k. record { registries = are k; contents = map content_view c.args.self.now.contents.items }))
    c.yank_in.ensures.same

pub returns-clause-standing : goal.returns-clause-standing
returns-clause-standing c =
    let name = option_copied c.args.registry in
    let rs = c.args.self.now.registries.items in
    let place = c.in-Some.place in
    let p = c.index_mut.result.now in
    let stands = called c.in-Some.ensures c.as_slice.ensures.value c.bytes_of.ensures in
    let there = lent-at name rs place p stands c.index_mut.ensures.value in
    on-ok c.yank_in.result (λ some. ((named_view p).held, registry-at name rs place p stands there, some)) c.yank_in.ensures.standing

pub returns-clause-not_released : goal.returns-clause-not_released
returns-clause-not_released c refused =
    let name = option_copied c.args.registry in
    let rs = c.args.self.now.registries.items in
    let place = c.in-Some.place in
    let p = c.index_mut.result.now in
    let stands = called c.in-Some.ensures c.as_slice.ensures.value c.bytes_of.ensures in
    let there = lent-at name rs place p stands c.index_mut.ensures.value in
    let none = c.yank_in.ensures.not_released refused in
    subst (λ (o : Option Held). IfSome o (λ h. content_in h c.args.name.now (parts_of c.args.version.now) ≡ None)) (sym (registry-at name rs place p stands there)) none

pub returns-in_default-clause-not_released : goal.returns-in_default-clause-not_released
returns-in_default-clause-not_released c refused =
    let name = option_copied c.args.registry in
    let rs = map named_view c.args.self.now.registries.items in
    let none = called (sym c.in_default.is ∙ c.place_of.ensures) c.as_slice.ensures.value c.bytes_of.ensures in
    subst (λ (o : Option Held). IfSome o (λ h. content_in h c.args.name.now (parts_of c.args.version.now) ≡ None)) (sym (place-none name rs none)) tt
