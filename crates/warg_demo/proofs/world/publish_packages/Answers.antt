use Rattle.std.proofs.Common.{◌≡◌, ◌∙◌, ◌+◌, ℕ, suc, ap, arith}
use Rattle.warg_demo.specs.Needs.{needs_of}
use Rattle.warg_demo.specs.World.{packages_drawn, with_drawn}
use Rattle.warg_demo.proofs.world.publish_packages.Goals as goal

pub loop-number-preserved : goal.loop-number-preserved
loop-number-preserved c =
    let n = c.loop-number.number in
    let next : suc n ≡ n + 1 = omega arith in (
      c.in_ok-add_drawn.ensures.added
          ∙ ap (with_drawn n (needs_of n c.args.pairs.now)) c.loop-number.invariant.0
          ∙ ap (packages_drawn c.args.pairs.now c.args.draws.now.state) next,
      c.in_ok-add_drawn.ensures.sound c.loop-number.invariant.1,
    )

pub returns-clause-drawn : goal.returns-clause-drawn
returns-clause-drawn c =
    let all : c.loop-number.number ≡ c.args.count = omega (arith, c.loop-number-test.false, c.loop-number.auto.number-end) in
    c.loop-number.invariant.0 ∙ ap (packages_drawn c.args.pairs.now c.args.draws.now.state) all
