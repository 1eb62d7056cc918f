use Rattle.std.proofs.Common.{◌≡◌, sym, ap, ◌∙◌, length}
use Rattle.comp_format.specs.Definitions as tree
use Rattle.compose_types.specs.Bodies.{declared}
use Rattle.compose_types.specs.declared.body.Items.TheVariants as items
use Rattle.compose_types.proofs.RefusalLaws.{told}
use Rattle.comp_format.specs.Views.{component_type_tree}
use Rattle.compose_types.proofs.LargestLaws.{import_largest, named_refused}
use Rattle.compose_types.proofs.body.Body.import.Goals as goal

pub returns-in_err-import-in-OfComponent-clause-among : goal.returns-in_err-import-in-OfComponent-clause-among
returns-in_err-import-in-OfComponent-clause-among c = λ n e.
    let is : c.args.self.now ≡ items.OfComponent c.in-OfComponent.decls = sym c.self.view_is ∙ c.in-OfComponent.is in
    named_refused n (length c.args.name.now) (tree.Import c.args.name.now c.args.ty) (declared c.args.self.now) (component_type_tree c.in-OfComponent.decls) (ap declared is) (import_largest c.args.name.now c.args.ty) (c.in_err-import-in-OfComponent.ensures.too_large n (told c.from_residual.result _ n c.from_residual.ensures.1 e)).1
