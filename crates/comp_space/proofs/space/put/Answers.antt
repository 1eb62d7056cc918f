use Rattle.std.proofs.Common.{sym, ◌∙◌}
use Rattle.comp_space.specs.SpaceLaws.{put_component, put_func, put_instance, put_module, put_type}
use Rattle.comp_space.proofs.space.put.Goals as goal

pub returns-in_ok-push-in-Core-clause-placed : goal.returns-in_ok-push-in-Core-clause-placed
returns-in_ok-push-in-Core-clause-placed c = λ ts s e shows stands is.
    put_module ts c.args.space.now s c.args.standing c.push.new.self shows c.in-Core.field-0 e stands (sym c.in-Core.is ∙ is) c.in_ok-push-in-Core.ensures.items

pub returns-in_ok-push-in-Func-clause-placed : goal.returns-in_ok-push-in-Func-clause-placed
returns-in_ok-push-in-Func-clause-placed c = λ ts s e shows stands is.
    put_func ts c.args.space.now s c.args.standing c.push-in-Func.new.self shows e stands (sym c.in-Func.is ∙ is) c.in_ok-push-in-Func.ensures.items

pub returns-in_ok-push-in-Ty-clause-placed : goal.returns-in_ok-push-in-Ty-clause-placed
returns-in_ok-push-in-Ty-clause-placed c = λ ts s e shows stands is.
    put_type ts c.args.space.now s c.args.standing c.push-in-Ty.new.self shows e stands (sym c.in-Ty.is ∙ is) c.in_ok-push-in-Ty.ensures.items

pub returns-in_ok-push-in-Component-clause-placed : goal.returns-in_ok-push-in-Component-clause-placed
returns-in_ok-push-in-Component-clause-placed c = λ ts s e shows stands is.
    put_component ts c.args.space.now s c.args.standing c.push-in-Component.new.self shows e stands (sym c.in-Component.is ∙ is) c.in_ok-push-in-Component.ensures.items

pub returns-in_ok-push-in-Instance-clause-placed : goal.returns-in_ok-push-in-Instance-clause-placed
returns-in_ok-push-in-Instance-clause-placed c = λ ts s e shows stands is.
    put_instance ts c.args.space.now s c.args.standing c.push-in-Instance.new.self shows e stands (sym c.in-Instance.is ∙ is) c.in_ok-push-in-Instance.ensures.items
