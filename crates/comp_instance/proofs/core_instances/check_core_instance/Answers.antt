use Rattle.std.proofs.Common.{rules, ap, sym, ◌∙◌, Ok}
use Rattle.warg_values.specs.Reading.{◌>>=◌}
use Rattle.comp_scope.specs.Instances.{all_below, core_members, with_core_instance, with_one_core_instance}
use Rattle.comp_scope.specs.Spaces.{at_index}
use Rattle.comp_space.specs.StandingLaws.{fails_bind, passed_on_as}
use Rattle.comp_space.specs.Standings.{Shows}
use Rattle.comp_table.specs.Plain.{plain_entity}
use Rattle.comp_instance.proofs.CoreLaws.{at_fails_below, at_goes_below, gives_from, gives_on}
use Rattle.comp_instance.proofs.core_instances.check_core_instance.Goals as goal

pub returns-in_err-check_below-in-Instantiate : goal.returns-in_err-check_below-in-Instantiate
unfolding with_core_instance
returns-in_err-check_below-in-Instantiate c = λ table s shows. rw c.in-Instantiate.is
    (passed_on_as _ c.from_residual.result c.in_err-check_below-in-Instantiate.field-0.0 _ c.from_residual.ensures.1
    (fails_bind (at_index s.modules c.in-Instantiate.of) _ c.in_err-check_below-in-Instantiate.field-0.0
    (at_fails_below (Shows plain_entity table) c.args.space.now.modules.items s.modules c.in-Instantiate.of c.len.result tt shows.modules (search rules) c.in_err-check_below-in-Instantiate.field-0.0 c.in_err-check_below-in-Instantiate.ensures)))

pub returns-in_ok-check_below-in-Instantiate : goal.returns-in_ok-check_below-in-Instantiate
unfolding with_core_instance
returns-in_ok-check_below-in-Instantiate c = λ table s shows. rw c.in-Instantiate.is
    (let a = at_goes_below (Shows plain_entity table) c.args.space.now.modules.items s.modules c.in-Instantiate.of c.len.result tt shows.modules (search rules) c.in_ok-check_below-in-Instantiate.ensures in
    gives_from (with_one_core_instance s) c.check_all_below.result _ _
    (ap (λ n. all_below n.instances c.as_slice.result.now s >>= λ s. Ok (with_one_core_instance s)) shows.core
    ∙ ap (λ xs. all_below s.core.instances xs s >>= λ s. Ok (with_one_core_instance s)) c.as_slice.ensures
    ∙ sym (ap (λ r. r >>= λ of. all_below s.core.instances c.in-Instantiate.args s >>= λ s. Ok (with_one_core_instance s)) a.1))
    (gives_on with_one_core_instance s c.check_all_below.result (all_below c.args.space.now.core.instances c.as_slice.result.now s) (c.check_all_below.ensures s)))

pub returns-in-Exports : goal.returns-in-Exports
unfolding with_core_instance
returns-in-Exports c = λ table s shows. rw c.in-Exports.is
    (gives_from (with_one_core_instance s) c.check_core_items.result _ _
    (ap (λ xs. core_members s xs >>= λ s. Ok (with_one_core_instance s)) c.as_slice-in-Exports.ensures)
    (gives_on with_one_core_instance s c.check_core_items.result (core_members s c.as_slice-in-Exports.result.now) (c.check_core_items.ensures table s shows)))
