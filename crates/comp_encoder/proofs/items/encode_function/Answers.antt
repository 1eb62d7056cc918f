use Rattle.std.proofs.Common.{◌≡◌, refl, sym, subst, arith}
use Rattle.comp_format.specs.Definitions as tree
use Rattle.comp_format.specs.Definitions.{TypeTree, definition_text}
use Rattle.comp_format.specs.Items.{Ty}
use Rattle.comp_encoder.specs.Builder.{IsBytesOf}
use Rattle.comp_encoder.proofs.KeepLaws.{bytes_type, if_written}
use Rattle.comp_encoder.proofs.TypeLaws.{func_fits}
use Rattle.comp_encoder.proofs.items.encode_function.Goals as goal

pub returns-clause-bytes : goal.returns-clause-bytes
unfolding definition_text
returns-clause-bytes c =
    let ty : TypeTree = tree.Func c.args.ty.now in
    let text : c.write_func.new.out.bytes.items ≡ definition_text ty = rw (c.in_ok-write_func.ensures.text, c.in_ok-write.ensures.text, c.new-out.ensures.bytes) refl in
    if_written c.into_bytes.result _ c.write_func.new.out.largest (Ty ty) 7 c.into_bytes.ensures.bytes c.into_bytes.ensures.fits
    (λ small. subst (IsBytesOf (Ty ty) 7) (sym text) (bytes_type ty (func_fits c.args.ty.now c.requires c.in_ok-write_func.ensures.texts (omega (arith, c.in_ok-write_func.ensures.largest, small)))))
