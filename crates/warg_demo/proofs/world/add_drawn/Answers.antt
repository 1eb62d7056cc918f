use Rattle.std.proofs.Common.{◌≡◌, ◌∙◌, subst}
use Rattle.warg_vectors.specs.State.{world}
use Rattle.warg_demo.specs.Needs.{needs_of}
use Rattle.warg_demo.specs.Releases.{Releases}
use Rattle.warg_demo.specs.World.{with_package}
use Rattle.warg_demo.proofs.WorldLaws.{drawn_added}
use Rattle.warg_demo.proofs.world.add_drawn.Goals as goal

pub returns-clause-added : goal.returns-clause-added
returns-clause-added c =
    let state = c.draw_releases-releases.new.draws.state in
    let releases : Releases = record { state = state; count = c.draw_releases-releases.result.count; yanks_last = c.draw_releases-releases.result.yanks_last } in
    drawn_added c.args.number (needs_of c.args.number c.args.pairs.now) releases (world c.args.registry.now) (world c.add_package.new.registry) c.args.draws.now.state c.draw_releases-releases.ensures
    (subst (λ needs. world c.add_package.new.registry ≡ with_package c.args.number needs releases (world c.args.registry.now)) (c.deref.ensures.value ∙ c.in_ok-needs.ensures) (c.in_ok-add_package.ensures.added state))
