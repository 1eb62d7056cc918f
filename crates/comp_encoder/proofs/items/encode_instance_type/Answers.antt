use Rattle.std.proofs.Common.{◌≡◌, refl, sym, subst, arith}
use Rattle.comp_format.specs.Definitions as tree
use Rattle.comp_format.specs.Definitions.{TypeTree, definition_text}
use Rattle.comp_format.specs.Views.{instance_type_tree}
use Rattle.comp_format.specs.Items.{Ty}
use Rattle.comp_encoder.specs.Builder.{IsBytesOf}
use Rattle.comp_encoder.proofs.KeepLaws.{bytes_type, if_written}
use Rattle.comp_encoder.proofs.TypeLaws.{definition_fits}
use Rattle.comp_encoder.proofs.items.encode_instance_type.Goals as goal

pub returns-clause-bytes : goal.returns-clause-bytes
returns-clause-bytes c =
    let ty : TypeTree = tree.Instance (instance_type_tree c.args.ty.now) in
    let text : c.write_instance.new.out.bytes.items ≡ definition_text ty = rw (c.in_ok-write_instance.ensures.text, c.new-out.ensures.bytes) refl in
    if_written c.into_bytes.result _ c.write_instance.new.out.largest (Ty ty) 7 c.into_bytes.ensures.bytes c.into_bytes.ensures.fits
    (λ small. subst (IsBytesOf (Ty ty) 7) (sym text) (bytes_type ty (definition_fits ty c.requires c.in_ok-write_instance.ensures.texts (omega (arith, c.in_ok-write_instance.ensures.largest, small)))))
