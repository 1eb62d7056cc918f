use Rattle.std.proofs.Common.{◌∷◌, ◌++◌, [], take, refl, sym, ap, ◌∙◌, append_assoc, arith}
use Rattle.std.proofs.lemmas.List.{take_more, append-nil}
use Rattle.std.proofs.lemmas.List.Concat.{flat_map-append}
use Rattle.std.proofs.lemmas.List.Elements.{All-push}
use Rattle.comp_encoder.proofs.LargestLaws.{largest_push}
use Rattle.comp_encoder.proofs.parts.write_vector.Goals as goal

pub loop-value-preserved : goal.loop-value-preserved
loop-value-preserved g c =
    let values = c.args.values.now in
    let i = c.loop-value.value-index in
    let value = c.value-item.result in
    let before = c.loop-value.invariant in
    let here = c.in_ok-encode.ensures in
    let front = take_more values i value c.loop-value-test.true ∙ ap (λ v. take i values ++ v ∷ []) (sym c.value-item.is) in record {
      text = rw (front, here.text, before.text, flat_map-append, append_assoc, append_assoc) (simp append-nil refl);
      largest = rw (front, here.largest, before.largest, largest_push) (omega arith);
      texts = rw front (All-push g.T.Encode.texts (take i values) value before.texts here.texts);
    }
