use Rattle.std.proofs.Common.{◌≡◌, ◌∙◌, Err, ap, inr, subst, sym}
use Rattle.std.proofs.lemmas.Result.{err_from_is_err_and}
use Rattle.comp_encoder.specs.Writing.{IsTooLongAmong, component_text, items_of, sections_of}
use Rattle.comp_format.specs.declared.error.EncodeError.{EncodeError}
use Rattle.comp_format.specs.declared.error.EncodeError.TheVariants as encode_error
use Rattle.comp_format.specs.Sections.{Reads}
use Rattle.compose_check.specs.Composition.{composition_tree}
use Rattle.compose_image.specs.Instances.{written}
use Rattle.compose_encode.proofs.Errors.{err_is}
use Rattle.compose_encode.proofs.HeldLaws.{items_single}
use Rattle.compose_encode.proofs.encode.encode_behind.Goals as goal

pub returns-clause-encoded : goal.returns-clause-encoded
returns-clause-encoded c = λ imports a.
    let w = written (composition_tree c.args.composition.now) c.args.define c.args.export c.args.order.now imports in
    let held = c.in_ok-output.ensures.written imports a in
    let items = ap items_of held.entries ∙ items_single w.items in
    record {
      text = c.in_ok-bytes.ensures.text ∙ ap component_text held.entries;
      reads = subst (λ xs. Reads c.in_ok-bytes.bytes.items xs) items c.in_ok-bytes.ensures.reads;
      once = λ others r. c.in_ok-bytes.ensures.once others r ∙ items;
    }

pub returns-in_err-bytes-clause-too_large : goal.returns-in_err-bytes-clause-too_large
returns-in_err-bytes-clause-too_large c = λ imports n a e.
    let p = err_from_is_err_and c.from_residual-in_err-bytes.result c.from_residual-in_err-bytes.ensures.1 in
    let same : p.0 ≡ encode_error.TooLarge n = err_is p.0 (encode_error.TooLarge n) (sym p.1 ∙ e) in
    let held = c.in_ok-output.ensures.written imports a in
    inr (subst (λ entries. IsTooLongAmong n (sections_of entries)) held.entries (c.in_err-bytes.ensures.too_large n (ap (λ (x : EncodeError). Err x) (sym p.2 ∙ same))))
