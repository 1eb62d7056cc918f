use Rattle.std.proofs.Common.{◌≡◌, ◌+◌, ◌-◌, ℕ, sym, ◌∙◌, subst, take, arith}
use Rattle.warg_url.specs.Label.{after_slashes, before_slashes}
use Rattle.warg_url.proofs.LabelLaws.{goes, stays}
use Rattle.warg_url.proofs.label.before_slashes.Goals as goal

pub returns-then-path-end-ne47 : goal.returns-then-path-end-ne47
returns-then-path-end-ne47 c =
    let end = c.loop-end.end in
    let same : end ≡ end - 1 + 1 = omega (arith, c.loop-end-test.true) in
    sym (stays c.args.path.now end (end - 1) same c.loop-end.invariant.0 c.if-path-end-ne47.true) ∙ c.loop-end.invariant.1

pub loop-end-preserved : goal.loop-end-preserved
loop-end-preserved c =
    let end = c.loop-end.end in
    let same : end ≡ end - 1 + 1 = omega (arith, c.loop-end-test.true) in
    (omega (arith, c.loop-end.invariant.0), sym (goes c.args.path.now end (end - 1) same c.loop-end.invariant.0 c.if-path-end-ne47.false) ∙ c.loop-end.invariant.1)

pub returns : goal.returns
unfolding after_slashes
returns c =
    let none : c.loop-end.end ≡ 0 = omega (arith, c.loop-end-test.false) in
    subst (λ (n : ℕ). before_slashes (take n c.args.path.now) ≡ before_slashes c.args.path.now) none c.loop-end.invariant.1
