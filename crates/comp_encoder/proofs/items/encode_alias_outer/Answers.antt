use Rattle.std.proofs.Common.{◌≡◌, refl, sym, subst, append_assoc}
use Rattle.comp_format.specs.declared.types.Alias.{Alias}
use Rattle.comp_format.specs.declared.types.Alias.TheVariants as alias
use Rattle.comp_format.specs.Parts.{alias_text}
use Rattle.comp_format.specs.Items.{Aliased}
use Rattle.comp_encoder.specs.Builder.{IsBytesOf}
use Rattle.comp_encoder.proofs.KeepLaws.{bytes_alias, if_written}
use Rattle.comp_encoder.proofs.items.encode_alias_outer.Goals as goal

pub returns-clause-bytes : goal.returns-clause-bytes
returns-clause-bytes c =
    let item : Alias = alias.Outer c.args.sort c.args.count c.args.index in
    let text : c.write_number.new.self.bytes.items ≡ alias_text item =
    rw (c.in_ok-write_number.ensures.text, c.in_ok-write_marked.ensures.text, c.in_ok-write_sort.ensures.text, c.new-out.ensures.bytes) (simp append_assoc refl) in
    if_written c.into_bytes.result _ c.write_number.new.self.largest (Aliased item) 6 c.into_bytes.ensures.bytes c.into_bytes.ensures.fits
    (λ small. subst (IsBytesOf (Aliased item) 6) (sym text) (bytes_alias item (c.requires, c.ranges.count.fits, c.ranges.index.fits)))
