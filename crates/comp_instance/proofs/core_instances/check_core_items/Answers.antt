use Rattle.std.proofs.Common.{rules, refl}
use Rattle.comp_scope.specs.Instances.{core_members}
use Rattle.comp_space.specs.StandingLaws.{passed_on_as}
use Rattle.comp_instance.proofs.CoreLaws.{member_fails, member_goes, no_rows}
use Rattle.comp_instance.proofs.core_instances.check_core_items.Goals as goal

pub returns-in_err-check_below : goal.returns-in_err-check_below
returns-in_err-check_below c = λ table s shows.
    passed_on_as _ c.from_residual.result c.in_err-check_below.field-0.0 _ c.from_residual.ensures.1
    (member_fails c.core_count.result s c.args.items.now c.loop-sort.sort-index c.loop-sort-item.result (search rules) c.loop-sort-item.is (c.core_count.ensures table s shows) (c.loop-sort.invariant table s shows) c.in_err-check_below.field-0.0 c.in_err-check_below.ensures)

pub loop-sort-preserved : goal.loop-sort-preserved
loop-sort-preserved c = λ table s shows.
    member_goes c.core_count.result s c.args.items.now c.loop-sort.sort-index c.loop-sort-item.result (search rules) c.loop-sort-item.is (c.core_count.ensures table s shows) (c.loop-sort.invariant table s shows) c.in_ok-check_below.ensures

pub returns : goal.returns
unfolding core_members
returns c = λ table s shows. no_rows (λ xs. core_members s xs) s c.args.items.now c.loop-sort.sort-index (search rules) refl (c.loop-sort.invariant table s shows)
