use Rattle.std.proofs.Common.{◌∙◌, sym}
use Rattle.comp_instance.proofs.ExportLaws.{typed, untyped}
use Rattle.comp_instance.proofs.exports.check_typed.Goals as goal

pub returns-then-branch : goal.returns-then-branch
returns-then-branch c = λ e s. untyped c.args.table.now c.args.item e s tt (sym c.in_ok-holds_own_module.ensures ∙ c.if-branch.true)

pub returns : goal.returns
returns c = λ e s. typed c.args.table.now c.args.item e s tt (sym c.in_ok-holds_own_module.ensures ∙ c.if-branch.false)
