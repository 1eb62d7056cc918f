use Rattle.std.proofs.Common.{◌≡◌, ◌∙◌, Err, List, ap, inl, inr, map, subst, sym}
use Rattle.std.specs.Prelude.{All}
use Rattle.std.proofs.lemmas.Result.{err_from_is_err_and}
use Rattle.comp_encoder.specs.Builder.{entries_of}
use Rattle.comp_encoder.specs.Writing.{Entry, IsTooLongAmong, component_text, items_of, sections_of}
use Rattle.comp_format.specs.Fits.{FitsItem}
use Rattle.comp_format.specs.Items.{item_tree}
use Rattle.comp_format.specs.Sections.{Reads}
use Rattle.comp_format.specs.declared.error.EncodeError.{EncodeError}
use Rattle.comp_format.specs.declared.types.Item.{Item}
use Rattle.compose_bundle.specs.Bundled.{bundled, content_in, singles}
use Rattle.compose_bundle.specs.Refusing.{IsAmong}
use Rattle.compose_bundle.specs.declared.error.BundleError.TheVariants as refusal
use Rattle.compose_bundle.proofs.ErrorLaws.{bad_of, encode_is_not_bad, error_is, number_of, unread_is_no_number}
use Rattle.compose_bundle.proofs.ItemLaws.{items_of_singles, stand}
use Rattle.compose_bundle.proofs.bundling.bundle.Goals as goal

pub built-requires-clause-fit : goal.built-requires-clause-fit
built-requires-clause-fit c =
    subst (λ (items : List Item). All FitsItem (map item_tree items)) (sym c.deref.ensures.value)
    (c.what_is_read_can_be_written.ensures c.args.bytes.now (map item_tree c.in_ok-items.items.items) c.in_ok-items.ensures.found)

pub returns-in_err-items-clause-bad_component : goal.returns-in_err-items-clause-bad_component
returns-in_err-items-clause-bad_component c = λ told is.
    let p = err_from_is_err_and c.from_residual.result c.from_residual.ensures.1 in
    let same : p.0 ≡ refusal.BadComponent told = error_is p.0 (refusal.BadComponent told) (sym p.1 ∙ is) in
    bad_of c.args.bytes.now c.in_err-items.field-0.0 told c.in_err-items.ensures.cause (sym p.2 ∙ same)

pub returns-in_err-items-clause-too_large : goal.returns-in_err-items-clause-too_large
returns-in_err-items-clause-too_large c = λ n is.
    let p = err_from_is_err_and c.from_residual.result c.from_residual.ensures.1 in
    let same : p.0 ≡ refusal.TooLarge n = error_is p.0 (refusal.TooLarge n) (sym p.1 ∙ is) in
    absurd (unread_is_no_number c.in_err-items.field-0.0 n (sym p.2 ∙ same))

pub returns-in_err-builder-clause-bad_component : goal.returns-in_err-builder-clause-bad_component
returns-in_err-builder-clause-bad_component c = λ told is.
    let p = err_from_is_err_and c.from_residual-in_err-builder.result c.from_residual-in_err-builder.ensures.1 in
    let same : p.0 ≡ refusal.BadComponent told = error_is p.0 (refusal.BadComponent told) (sym p.1 ∙ is) in
    absurd (encode_is_not_bad c.in_err-builder.field-0.0 told (sym p.2 ∙ same))

pub returns-in_err-builder-clause-too_large : goal.returns-in_err-builder-clause-too_large
returns-in_err-builder-clause-too_large c = λ n is.
    let content = content_in c.args.contents.now in
    let p = err_from_is_err_and c.from_residual-in_err-builder.result c.from_residual-in_err-builder.ensures.1 in
    let same : p.0 ≡ refusal.TooLarge n = error_is p.0 (refusal.TooLarge n) (sym p.1 ∙ is) in
    let number = number_of c.in_err-builder.field-0.0 n (sym p.2 ∙ same) in
    let large = c.in_err-builder.ensures.too_large n (ap (λ (e : EncodeError). Err e) number) in
    record {
      items = map item_tree c.in_ok-items.items.items;
      read = c.in_ok-items.ensures.found;
      large = large.0;
      among = inl (subst (λ (items : List Item). IsAmong n (bundled content (map item_tree items))) c.deref.ensures.value large.1);
    }

pub returns-in_err-bundle-clause-bad_component : goal.returns-in_err-bundle-clause-bad_component
returns-in_err-bundle-clause-bad_component c = λ told is.
    let p = err_from_is_err_and c.from_residual-in_err-bundle.result c.from_residual-in_err-bundle.ensures.1 in
    let same : p.0 ≡ refusal.BadComponent told = error_is p.0 (refusal.BadComponent told) (sym p.1 ∙ is) in
    absurd (encode_is_not_bad c.in_err-bundle.field-0.0 told (sym p.2 ∙ same))

pub returns-in_err-bundle-clause-too_large : goal.returns-in_err-bundle-clause-too_large
returns-in_err-bundle-clause-too_large c = λ n is.
    let content = content_in c.args.contents.now in
    let entries : entries_of c.in_ok-builder.builder ≡ singles (stand content c.in_ok-items.items.items) =
    c.in_ok-builder.ensures.items ∙ ap (λ (items : List Item). singles (stand content items)) c.deref.ensures.value in
    let p = err_from_is_err_and c.from_residual-in_err-bundle.result c.from_residual-in_err-bundle.ensures.1 in
    let same : p.0 ≡ refusal.TooLarge n = error_is p.0 (refusal.TooLarge n) (sym p.1 ∙ is) in
    let number = number_of c.in_err-bundle.field-0.0 n (sym p.2 ∙ same) in
    let long = c.in_err-bundle.ensures.too_large n (ap (λ (e : EncodeError). Err e) number) in
    record {
      items = map item_tree c.in_ok-items.items.items;
      read = c.in_ok-items.ensures.found;
      large = long.2.above;
      among = inr (subst (λ (es : List Entry). IsTooLongAmong n (sections_of es)) entries long);
    }

pub returns-clause-bundled : goal.returns-clause-bundled
returns-clause-bundled c =
    let content = content_in c.args.contents.now in
    let entries : entries_of c.in_ok-builder.builder ≡ singles (stand content c.in_ok-items.items.items) =
    c.in_ok-builder.ensures.items ∙ ap (λ (items : List Item). singles (stand content items)) c.deref.ensures.value in
    let items : items_of (entries_of c.in_ok-builder.builder) ≡ stand content c.in_ok-items.items.items =
    ap items_of entries ∙ items_of_singles (stand content c.in_ok-items.items.items) in
    record {
      items = map item_tree c.in_ok-items.items.items;
      read = c.in_ok-items.ensures.found;
      text = c.in_ok-bundle.ensures.text ∙ ap component_text entries;
      reads = subst (Reads c.in_ok-bundle.bundle.items) items c.in_ok-bundle.ensures.reads;
      once = λ others reads. c.in_ok-bundle.ensures.once others reads ∙ items;
    }
