use Rattle.std.proofs.Common.{◌≡◌, refl, sym, subst, append_assoc, arith}
use Rattle.comp_format.specs.declared.types.InstanceItem.{InstanceItem}
use Rattle.comp_format.specs.declared.types.InstanceItem.TheVariants as instance
use Rattle.comp_format.specs.Parts.{instance_text}
use Rattle.comp_format.specs.Items.{Instance}
use Rattle.comp_encoder.specs.Builder.{IsBytesOf}
use Rattle.comp_encoder.proofs.KeepLaws.{bytes_instance, if_written}
use Rattle.comp_encoder.proofs.LargestLaws.{args_fit}
use Rattle.comp_encoder.proofs.items.encode_instance.Goals as goal

pub returns-clause-bytes : goal.returns-clause-bytes
returns-clause-bytes c =
    let item : InstanceItem = instance.Instantiate c.args.component c.args.args.now in
    let text : c.write_vector.new.out.bytes.items ≡ instance_text item = rw (c.in_ok-write_vector.ensures.text, c.in_ok-write_marked.ensures.text, c.new-out.ensures.bytes) (simp append_assoc refl) in
    let largest = c.in_ok-write_vector.ensures.largest in
    if_written c.into_bytes.result _ c.write_vector.new.out.largest (Instance item) 5 c.into_bytes.ensures.bytes c.into_bytes.ensures.fits
    (λ small. subst (IsBytesOf (Instance item) 5) (sym text) (bytes_instance item (c.ranges.component.fits, omega (arith, largest, small), args_fit c.args.args.now c.requires c.in_ok-write_vector.ensures.texts (omega (arith, largest, small)))))
