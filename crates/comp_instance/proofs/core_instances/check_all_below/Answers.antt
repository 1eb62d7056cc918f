use Rattle.std.proofs.Common.{rules, refl}
use Rattle.comp_scope.specs.Instances.{all_below}
use Rattle.comp_space.specs.StandingLaws.{passed_on_as}
use Rattle.comp_instance.proofs.CoreLaws.{argument_fails, argument_goes, no_rows}
use Rattle.comp_instance.proofs.core_instances.check_all_below.Goals as goal

pub returns-in_err-check_below : goal.returns-in_err-check_below
returns-in_err-check_below c = λ s.
    passed_on_as _ c.from_residual.result c.in_err-check_below.field-0.0 _ c.from_residual.ensures.1
    (argument_fails c.args.count s c.args.args.now c.loop-index.index-index c.loop-index-item.result (search rules) c.loop-index-item.is (c.loop-index.invariant s) c.in_err-check_below.field-0.0 c.in_err-check_below.ensures)

pub loop-index-preserved : goal.loop-index-preserved
loop-index-preserved c = λ s.
    argument_goes c.args.count s c.args.args.now c.loop-index.index-index c.loop-index-item.result (search rules) c.loop-index-item.is (c.loop-index.invariant s) c.in_ok-check_below.ensures

pub returns : goal.returns
unfolding all_below
returns c = λ s. no_rows (λ xs. all_below c.args.count xs s) s c.args.args.now c.loop-index.index-index (search rules) refl (c.loop-index.invariant s)
