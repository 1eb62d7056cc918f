use Rattle.std.proofs.Common.{◌≡◌, refl, sym, subst, arith}
use Rattle.comp_format.specs.CoreTypes as tree
use Rattle.comp_format.specs.CoreTypes.{CoreTree, core_text}
use Rattle.comp_format.specs.Views.{module_tree}
use Rattle.comp_format.specs.Items.{CoreTy}
use Rattle.comp_encoder.specs.Builder.{IsBytesOf}
use Rattle.comp_encoder.proofs.KeepLaws.{bytes_core, if_written}
use Rattle.comp_encoder.proofs.TypeLaws.{core_fits}
use Rattle.comp_encoder.proofs.items.encode_core_module.Goals as goal

pub returns-clause-bytes : goal.returns-clause-bytes
returns-clause-bytes c =
    let ty : CoreTree = tree.Module (module_tree c.args.ty.now) in
    let text : c.write_module.new.out.bytes.items ≡ core_text ty = rw (c.in_ok-write_module.ensures.text, c.new-out.ensures.bytes) refl in
    if_written c.into_bytes.result _ c.write_module.new.out.largest (CoreTy ty) 3 c.into_bytes.ensures.bytes c.into_bytes.ensures.fits
    (λ small. subst (IsBytesOf (CoreTy ty) 3) (sym text) (bytes_core ty (core_fits ty c.requires c.in_ok-write_module.ensures.texts (omega (arith, c.in_ok-write_module.ensures.largest, small)))))
