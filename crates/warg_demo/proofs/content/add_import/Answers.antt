use Rattle.std.proofs.Common.{false, subst, sym}
use Rattle.comp_format.specs.Forms.{AreDecls}
use Rattle.warg_demo.proofs.ContentLaws.{exports_form}
use Rattle.warg_demo.proofs.content.add_import.Goals as goal

pub type_instance-requires : goal.type_instance-requires
type_instance-requires c = subst (AreDecls false) (sym c.in_ok-ty.ensures) (exports_form c.args.function.now c.requires.function)
