use Rattle.std.proofs.Common.{◌≡◌, refl, sym, subst, append_assoc, arith}
use Rattle.comp_format.specs.Items.{ExportTree, Export, export_text}
use Rattle.comp_format.specs.Fits.{FitsType}
use Rattle.comp_encoder.specs.Builder.{IsBytesOf}
use Rattle.comp_encoder.specs.Largest.{description_largest}
use Rattle.comp_encoder.proofs.KeepLaws.{bytes_export, if_written}
use Rattle.comp_encoder.proofs.LargestLaws.{description_fits, optional_fits}
use Rattle.comp_encoder.proofs.items.encode_export.Goals as goal

pub returns-clause-bytes : goal.returns-clause-bytes
returns-clause-bytes c =
    let item : ExportTree = record { name = c.args.name.now; sort = c.args.sort; index = c.args.index; ty = c.args.ty } in
    let text : c.write_optional.new.out.bytes.items ≡ export_text item =
    rw (c.in_ok-write_optional.ensures.text, c.in_ok-write_number.ensures.text, c.in_ok-write_sort.ensures.text, c.in_ok-write_name.ensures.text, c.in_ok-write.ensures.text, c.new-out.ensures.bytes) (simp append_assoc refl) in
    let largest = c.in_ok-write_optional.ensures.largest in
    if_written c.into_bytes.result _ c.write_optional.new.out.largest (Export item) 11 c.into_bytes.ensures.bytes c.into_bytes.ensures.fits
    (λ small. subst (IsBytesOf (Export item) 11) (sym text) (bytes_export item (record {
      name = record { is_text = c.utf8.name; not_empty = c.requires; short = omega (arith, c.in_ok-write_name.ensures.largest, c.in_ok-write_sort.ensures.largest, c.in_ok-write_number.ensures.largest, largest, small) };
      index = c.ranges.index.fits;
      ty = optional_fits description_largest FitsType description_fits c.args.ty (omega (arith, largest, small));
    })))
