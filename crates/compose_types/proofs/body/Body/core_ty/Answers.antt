use Rattle.std.proofs.Common.{◌≡◌, sym, ap, subst, ◌∙◌}
use Rattle.comp_format.specs.Definitions as tree
use Rattle.comp_encoder.specs.Builder.{entries_of}
use Rattle.compose_types.specs.Bodies.{AreWritten, declared}
use Rattle.compose_types.specs.declared.body.Items.TheVariants as items
use Rattle.compose_types.proofs.RefusalLaws.{told}
use Rattle.comp_format.specs.Views.{component_type_tree, instance_type_tree, module_tree}
use Rattle.comp_format.specs.declared.types.Sort.TheVariants as sort
use Rattle.comp_format.specs.declared.types.CoreSort.TheVariants as core_sort
use Rattle.comp_format.specs.CoreTypes as core
use Rattle.comp_encoder.specs.Largest.{core_largest}
use Rattle.compose_types.proofs.LargestLaws.{builder_refused, core_type_largest, counted_refused}
use Rattle.compose_types.proofs.body.Body.core_ty.Goals as goal

pub returns-in_err-core_type_module-in-OfBuilder-clause-among : goal.returns-in_err-core_type_module-in-OfBuilder-clause-among
returns-in_err-core_type_module-in-OfBuilder-clause-among c = λ n e.
    let is : c.args.self.now ≡ items.OfBuilder c.in-OfBuilder.builder = sym c.self.view_is ∙ c.in-OfBuilder.is in
    let written : AreWritten (items.OfBuilder c.in-OfBuilder.builder) = subst AreWritten c.in-OfBuilder.is c.self.invariant in
    builder_refused n (core_largest (core.Module (module_tree c.args.ty))) (tree.CoreTy (core.Module (module_tree c.args.ty))) (sort.Core core_sort.Ty) (declared c.args.self.now) (entries_of c.in-OfBuilder.builder) (ap declared is) written (core_type_largest (core.Module (module_tree c.args.ty)))
    (c.in_err-core_type_module-in-OfBuilder.ensures.too_large n (told c.from_residual.result _ n c.from_residual.ensures.1 e)).1

pub returns-in_err-core_ty-in-OfInstance-clause-among : goal.returns-in_err-core_ty-in-OfInstance-clause-among
returns-in_err-core_ty-in-OfInstance-clause-among c = λ n e.
    let is : c.args.self.now ≡ items.OfInstance c.in-OfInstance.decls = sym c.self.view_is ∙ c.in-OfInstance.is in
    counted_refused n (tree.CoreTy (core.Module (module_tree c.args.ty))) (declared c.args.self.now) (instance_type_tree c.in-OfInstance.decls) (ap declared is) (c.in_err-core_ty-in-OfInstance.ensures.too_large n (told c.from_residual-in_err-core_ty-in-OfInstance.result _ n c.from_residual-in_err-core_ty-in-OfInstance.ensures.1 e)).1

pub returns-in_err-core_ty-in-OfComponent-clause-among : goal.returns-in_err-core_ty-in-OfComponent-clause-among
returns-in_err-core_ty-in-OfComponent-clause-among c = λ n e.
    let is : c.args.self.now ≡ items.OfComponent c.in-OfComponent.decls = sym c.self.view_is ∙ c.in-OfComponent.is in
    counted_refused n (tree.CoreTy (core.Module (module_tree c.args.ty))) (declared c.args.self.now) (component_type_tree c.in-OfComponent.decls) (ap declared is) (c.in_err-core_ty-in-OfComponent.ensures.too_large n (told c.from_residual-in_err-core_ty-in-OfComponent.result _ n c.from_residual-in_err-core_ty-in-OfComponent.ensures.1 e)).1
