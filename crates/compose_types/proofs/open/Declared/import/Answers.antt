use Rattle.std.proofs.Common.{◌≡◌, ap, subst}
use Rattle.comp_format.specs.Definitions as tree
use Rattle.comp_format.specs.Definitions.{Decls}
use Rattle.compose_writing.specs.Scopes.{WrittenScope}
use Rattle.compose_writing.specs.Scopes.{declared as declare}
use Rattle.compose_writing.specs.WriteEntities.{counted}
use Rattle.compose_types.specs.Largest.{IsTooLarge, scope_size}
use Rattle.compose_types.specs.Scopes.{with_names}
use Rattle.compose_types.proofs.RefusalLaws.{told}
use Rattle.compose_types.proofs.open.Declared.import.Goals as goal

pub returns-in_err-count-clause-too_large : goal.returns-in_err-count-clause-too_large
returns-in_err-count-clause-too_large c = λ width known n e.
    let d = c.args.self.now in
    let same : with_names width known (record d { body = c.import_item.new.self }) ≡ declare (tree.Import c.args.name.now c.args.ty) (with_names width known d) =
    ap (λ (ds : Decls). record { width = width; decls = ds; types = d.types; instances = d.instances; core_types = d.core_types; known = known }) c.in_ok-index.ensures.added in
    subst (λ (m : WrittenScope). IsTooLarge n (scope_size (counted c.args.ty m))) same
    (c.in_err-count.ensures.too_large width known n (told c.from_residual-in_err-count.result _ n c.from_residual-in_err-count.ensures.1 e))
