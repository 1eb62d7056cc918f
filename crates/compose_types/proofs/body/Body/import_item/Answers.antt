use Rattle.std.proofs.Common.{◌≡◌, sym, subst, ◌∙◌}
use Rattle.comp_format.specs.Definitions as tree
use Rattle.comp_format.specs.Definitions.{with_decl}
use Rattle.comp_encoder.specs.Builder.{entries_of}
use Rattle.comp_encoder.specs.Writing.{described_sort}
use Rattle.compose_types.specs.Bodies.{AreWritten, declared}
use Rattle.compose_types.specs.Largest.{IsTooLarge, decls_size}
use Rattle.compose_types.specs.declared.body.Items.{Items}
use Rattle.compose_types.specs.declared.body.Items.TheVariants as items
use Rattle.compose_types.proofs.GrowLaws.{item_refused}
use Rattle.compose_types.proofs.RefusalLaws.{told}
use Rattle.compose_types.proofs.body.Body.import_item.Goals as goal

pub returns-in_err-index-in-OfBuilder-clause-too_large :
    goal.returns-in_err-index-in-OfBuilder-clause-too_large
returns-in_err-index-in-OfBuilder-clause-too_large c = λ n e.
    let refused = c.in_err-index-in-OfBuilder.ensures.too_large n (told c.from_residual.result _ n c.from_residual.ensures.1 e) in
    let is : c.args.self.now ≡ items.OfBuilder c.in-OfBuilder.builder = sym c.self.view_is ∙ c.in-OfBuilder.is in
    let written : AreWritten (items.OfBuilder c.in-OfBuilder.builder) = subst AreWritten c.in-OfBuilder.is c.self.invariant in
    subst (λ (x : Items). IsTooLarge n (decls_size (with_decl (declared x) (tree.Import c.args.name.now c.args.ty)))) (sym is)
    (item_refused n c.args.name.now c.args.ty (described_sort c.args.ty) (entries_of c.in-OfBuilder.builder) written refused.0 refused.1)
