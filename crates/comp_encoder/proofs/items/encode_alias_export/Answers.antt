use Rattle.std.proofs.Common.{◌≡◌, refl, sym, subst, append_assoc, arith}
use Rattle.comp_format.specs.declared.types.Alias.{Alias}
use Rattle.comp_format.specs.declared.types.Alias.TheVariants as alias
use Rattle.comp_format.specs.Parts.{alias_text}
use Rattle.comp_format.specs.Items.{Aliased}
use Rattle.comp_encoder.specs.Builder.{IsBytesOf}
use Rattle.comp_encoder.proofs.KeepLaws.{bytes_alias, if_written}
use Rattle.comp_encoder.proofs.items.encode_alias_export.Goals as goal

pub returns-clause-bytes : goal.returns-clause-bytes
returns-clause-bytes c =
    let item : Alias = alias.Export c.args.sort c.args.instance c.args.name.now in
    let text : c.write_name.new.self.bytes.items ≡ alias_text item =
    rw (c.in_ok-write_name.ensures.text, c.in_ok-write_marked.ensures.text, c.in_ok-write_sort.ensures.text, c.new-out.ensures.bytes) (simp append_assoc refl) in
    if_written c.into_bytes.result _ c.write_name.new.self.largest (Aliased item) 6 c.into_bytes.ensures.bytes c.into_bytes.ensures.fits
    (λ small. subst (IsBytesOf (Aliased item) 6) (sym text) (bytes_alias item (c.ranges.instance.fits, record { is_text = c.utf8.name; not_empty = c.requires; short = omega (arith, c.in_ok-write_name.ensures.largest, small) })))
