use Rattle.std.proofs.Common.{◌≡◌, refl, sym, subst}
use Rattle.std.specs.Prelude.{None}
use Rattle.comp_format.specs.Definitions as tree
use Rattle.comp_format.specs.Definitions.{TypeTree, definition_text}
use Rattle.comp_format.specs.Items.{Ty}
use Rattle.comp_encoder.specs.Builder.{IsBytesOf}
use Rattle.comp_encoder.proofs.KeepLaws.{bytes_type, if_written}
use Rattle.comp_encoder.proofs.items.encode_resource.Goals as goal

pub returns-clause-bytes : goal.returns-clause-bytes
unfolding definition_text
returns-clause-bytes c =
    let ty : TypeTree = tree.Resource None in
    let text : c.write.new.self.bytes.items ≡ definition_text ty = rw (c.in_ok-write.ensures.text, c.new-out.ensures.bytes) refl in
    if_written c.into_bytes.result _ c.write.new.self.largest (Ty ty) 7 c.into_bytes.ensures.bytes c.into_bytes.ensures.fits (λ small. subst (IsBytesOf (Ty ty) 7) (sym text) (bytes_type ty tt))
