use Rattle.std.proofs.Common.{sym}
use Rattle.comp_declare.proofs.IndexLaws.{item_found}
use Rattle.comp_declare.proofs.outer.item_at.Goals as goal

pub returns-in-Core : goal.returns-in-Core
returns-in-Core c = λ table s shows. rw c.in-Core.is (c.module_at.ensures table s shows)

pub returns-in-Func : goal.returns-in-Func
returns-in-Func c = λ table s shows. rw c.in-Func.is
    (item_found table c.args.space.now.funcs.items s.funcs c.args.index c.standing_at.result shows.funcs (rw (sym c.deref.ensures.value) c.standing_at.ensures))

pub returns-in-Ty : goal.returns-in-Ty
returns-in-Ty c = λ table s shows. rw c.in-Ty.is
    (item_found table c.args.space.now.types.items s.types c.args.index c.standing_at-in-Ty.result shows.types (rw (sym c.deref-in-Ty.ensures.value) c.standing_at-in-Ty.ensures))

pub returns-in-Component : goal.returns-in-Component
returns-in-Component c = λ table s shows. rw c.in-Component.is
    (item_found table c.args.space.now.components.items s.components c.args.index c.standing_at-in-Component.result shows.components (rw (sym c.deref-in-Component.ensures.value) c.standing_at-in-Component.ensures))

pub returns-in-Instance : goal.returns-in-Instance
returns-in-Instance c = λ table s shows. rw c.in-Instance.is
    (item_found table c.args.space.now.instances.items s.instances c.args.index c.standing_at-in-Instance.result shows.instances (rw (sym c.deref-in-Instance.ensures.value) c.standing_at-in-Instance.ensures))
