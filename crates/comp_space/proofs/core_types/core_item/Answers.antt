use Rattle.std.proofs.Common.{refl, length}
use Rattle.std.proofs.lemmas.Result.{IfOk-weaker}
use Rattle.comp_entity.specs.declared.module.CoreShape.TheVariants as shape
use Rattle.comp_scope.specs.CoreScopes.{as_core_func, core_item}
use Rattle.comp_scope.specs.Spaces.{at_index}
use Rattle.comp_space.specs.CoreStandings.{ShowsCore}
use Rattle.comp_table.specs.Plain.{plain_core}
use Rattle.comp_table.specs.Trees.{Stands}
use Rattle.comp_space.specs.CoreLaws.{core_there}
use Rattle.comp_space.specs.StandingLaws.{fails_bind, fails_same, found_bind, pairwise_at, pairwise_fails, passed_on}
use Rattle.comp_space.proofs.core_types.core_item.Goals as goal

pub returns-in_err-known-in-Func-clause-found : goal.returns-in_err-known-in-Func-clause-found
unfolding core_item
returns-in_err-known-in-Func-clause-found c = λ known shows. rw c.in-Func.is
    (passed_on _ c.from_residual.result c.in_err-known-in-Func.field-0.0 _ c.from_residual.ensures.1
    (fails_bind (at_index known c.in-Func.index) as_core_func _
    (fails_same (at_index c.args.types.now c.in-Func.index) _ _ (λ fault. pairwise_fails (ShowsCore c.args.table.now) c.args.types.now known c.in-Func.index fault shows) c.in_err-known-in-Func.ensures)))

pub returns-in_ok-known-in-Func-clause-there : goal.returns-in_ok-known-in-Func-clause-there
returns-in_ok-known-in-Func-clause-there c =
    IfOk-weaker c.as_core_func.result _ _ (λ n h. h (length c.args.table.now) (core_there c.args.table.now c.args.types.now c.in-Func.index c.in_ok-known-in-Func.known c.requires c.in_ok-known-in-Func.ensures)) c.as_core_func.ensures.there

pub returns-in_ok-known-in-Func-clause-found : goal.returns-in_ok-known-in-Func-clause-found
unfolding core_item
returns-in_ok-known-in-Func-clause-found c = λ known shows.
    let f = pairwise_at (ShowsCore c.args.table.now) c.args.types.now known c.in-Func.index c.in_ok-known-in-Func.known shows c.in_ok-known-in-Func.ensures in
    rw c.in-Func.is
    (found_bind (ShowsCore c.args.table.now) (λ n t. Stands c.args.table.now n (plain_core t)) c.in_ok-known-in-Func.known (at_index known c.in-Func.index) as_core_func c.as_core_func.result f
    (c.as_core_func.ensures.found c.args.table.now f.value f.shown))

pub returns-in_ok-leaf-in-Table-clause-found : goal.returns-in_ok-leaf-in-Table-clause-found
unfolding core_item
returns-in_ok-leaf-in-Table-clause-found c = λ known shows. rw c.in-Table.is (record { value = shape.Table c.in-Table.element c.in-Table.limits; given_is = refl; shown = c.in_ok-leaf-in-Table.ensures.number })

pub returns-in_ok-leaf-in-Memory-clause-found : goal.returns-in_ok-leaf-in-Memory-clause-found
unfolding core_item
returns-in_ok-leaf-in-Memory-clause-found c = λ known shows. rw c.in-Memory.is (record { value = shape.Memory c.in-Memory.limits; given_is = refl; shown = c.in_ok-leaf-in-Memory.ensures.number })

pub returns-in_ok-leaf-in-Global-clause-found : goal.returns-in_ok-leaf-in-Global-clause-found
unfolding core_item
returns-in_ok-leaf-in-Global-clause-found c = λ known shows. rw c.in-Global.is (record { value = shape.Global c.in-Global.value c.in-Global.mutable; given_is = refl; shown = c.in_ok-leaf-in-Global.ensures.number })
