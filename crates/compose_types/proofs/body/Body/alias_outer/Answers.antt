use Rattle.std.proofs.Common.{◌≡◌, sym, ap, subst, ◌∙◌, inr, arith}
use Rattle.comp_format.specs.Definitions as tree
use Rattle.comp_encoder.specs.Builder.{entries_of}
use Rattle.compose_types.specs.Bodies.{AreWritten, declared}
use Rattle.compose_types.specs.declared.body.Items.TheVariants as items
use Rattle.compose_types.proofs.RefusalLaws.{told}
use Rattle.comp_format.specs.Views.{component_type_tree, instance_type_tree}
use Rattle.comp_format.specs.declared.types.Alias.TheVariants as alias
use Rattle.comp_format.specs.declared.types.Sort.TheVariants as sort
use Rattle.compose_types.proofs.LargestLaws.{builder_refused, counted_refused}
use Rattle.compose_types.proofs.body.Body.alias_outer.Goals as goal

pub returns-in_err-alias_outer-in-OfBuilder-clause-among : goal.returns-in_err-alias_outer-in-OfBuilder-clause-among
returns-in_err-alias_outer-in-OfBuilder-clause-among c = λ n e.
    let is : c.args.self.now ≡ items.OfBuilder c.in-OfBuilder.builder = sym c.self.view_is ∙ c.in-OfBuilder.is in
    let written : AreWritten (items.OfBuilder c.in-OfBuilder.builder) = subst AreWritten c.in-OfBuilder.is c.self.invariant in
    builder_refused n (0) (tree.Aliased (alias.Outer sort.Ty c.args.count c.args.index)) (sort.Ty) (declared c.args.self.now) (entries_of c.in-OfBuilder.builder) (ap declared is) written (omega arith)
    (inr (c.in_err-alias_outer-in-OfBuilder.ensures.too_large n (told c.from_residual.result _ n c.from_residual.ensures.1 e)).1)

pub returns-in_err-alias-in-OfInstance-clause-among : goal.returns-in_err-alias-in-OfInstance-clause-among
returns-in_err-alias-in-OfInstance-clause-among c = λ n e.
    let is : c.args.self.now ≡ items.OfInstance c.in-OfInstance.decls = sym c.self.view_is ∙ c.in-OfInstance.is in
    counted_refused n (tree.Aliased (alias.Outer sort.Ty c.args.count c.args.index)) (declared c.args.self.now) (instance_type_tree c.in-OfInstance.decls) (ap declared is) (c.in_err-alias-in-OfInstance.ensures.too_large n (told c.from_residual-in_err-alias-in-OfInstance.result _ n c.from_residual-in_err-alias-in-OfInstance.ensures.1 e)).1

pub returns-in_err-alias-in-OfComponent-clause-among : goal.returns-in_err-alias-in-OfComponent-clause-among
returns-in_err-alias-in-OfComponent-clause-among c = λ n e.
    let is : c.args.self.now ≡ items.OfComponent c.in-OfComponent.decls = sym c.self.view_is ∙ c.in-OfComponent.is in
    counted_refused n (tree.Aliased (alias.Outer sort.Ty c.args.count c.args.index)) (declared c.args.self.now) (component_type_tree c.in-OfComponent.decls) (ap declared is) (c.in_err-alias-in-OfComponent.ensures.too_large n (told c.from_residual-in_err-alias-in-OfComponent.result _ n c.from_residual-in_err-alias-in-OfComponent.ensures.1 e)).1
