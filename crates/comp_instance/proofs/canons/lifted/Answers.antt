use Rattle.std.proofs.Common.{ap, sym, ◌∙◌}
use Rattle.comp_space.specs.Heads.{is_func_type}
use Rattle.comp_instance.proofs.CanonLaws.{lifted_found}
use Rattle.comp_instance.proofs.canons.lifted.Goals as goal

pub returns-clause-found : goal.returns-clause-found
returns-clause-found c = λ e stands.
    lifted_found c.args.table.now c.around.new.table c.args.ty.number c.in_ok-number.number c.args.ty.named e stands
    (ap is_func_type (sym c.head.ensures) ∙ sym c.is_func_type.ensures ∙ c.if-not-is_func_type.false) c.in_ok-number.ensures.number
