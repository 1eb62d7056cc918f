use Rattle.std.proofs.Common.{◌∙◌, ◌+◌, ap, sym}
use Rattle.warg_demo.specs.Needs.{needs_among, with_package}
use Rattle.warg_demo.proofs.NeedLaws.{needs_end, needs_more}
use Rattle.warg_demo.proofs.needs.draw_needs.Goals as goal

pub loop-before-preserved : goal.loop-before-preserved
loop-before-preserved c = c.in_ok-add_package.ensures ∙ ap (with_package (c.loop-before.before + 1)) c.loop-before.invariant ∙ sym (needs_more c.args.draws.now.state c.loop-before.before)

pub returns : goal.returns
returns c =
    c.loop-before.invariant ∙ needs_end c.args.draws.now.state c.loop-before.before c.saturating_sub-before-end.result c.loop-before.auto.before-end c.loop-before-test.false
    ∙ ap (needs_among c.args.draws.now.state) c.saturating_sub-before-end.ensures
