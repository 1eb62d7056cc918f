use Rattle.std.proofs.Common.{◌≡◌, refl, sym, subst, append_assoc, arith}
use Rattle.comp_format.specs.Items.{ImportTree, Import, import_text}
use Rattle.comp_encoder.specs.Builder.{IsBytesOf}
use Rattle.comp_encoder.proofs.KeepLaws.{bytes_import, if_written}
use Rattle.comp_encoder.proofs.LargestLaws.{description_fits}
use Rattle.comp_encoder.proofs.items.encode_import.Goals as goal

pub returns-clause-bytes : goal.returns-clause-bytes
returns-clause-bytes c =
    let item : ImportTree = record { name = c.args.name.now; ty = c.args.ty } in
    let text : c.write_description.new.out.bytes.items ≡ import_text item =
    rw (c.in_ok-write_description.ensures.text, c.in_ok-write_name.ensures.text, c.in_ok-write.ensures.text, c.new-out.ensures.bytes) (simp append_assoc refl) in
    if_written c.into_bytes.result _ c.write_description.new.out.largest (Import item) 10 c.into_bytes.ensures.bytes c.into_bytes.ensures.fits
    (λ small. subst (IsBytesOf (Import item) 10) (sym text) (bytes_import item (record {
      name = record { is_text = c.utf8.name; not_empty = c.requires; short = omega (arith, c.in_ok-write_name.ensures.largest, c.in_ok-write_description.ensures.largest, small) };
      ty = description_fits c.args.ty (omega (arith, c.in_ok-write_description.ensures.largest, small));
    })))
