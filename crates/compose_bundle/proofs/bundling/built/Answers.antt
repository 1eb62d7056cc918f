use Rattle.std.proofs.Common.{◌≡◌, ◌∙◌, Err, List, ap, sym}
use Rattle.std.proofs.lemmas.List.{take_all}
use Rattle.std.proofs.lemmas.Result.{err_from_is_err_and}
use Rattle.comp_encoder.specs.Builder.{entries_of}
use Rattle.comp_format.specs.declared.error.EncodeError.{EncodeError}
use Rattle.comp_format.specs.declared.error.EncodeError.TheVariants as encode_error
use Rattle.comp_format.specs.declared.types.Item.{Item}
use Rattle.compose_bundle.specs.Bundled.{content_in, singles}
use Rattle.compose_bundle.proofs.ErrorLaws.{encode_is}
use Rattle.compose_bundle.proofs.ItemLaws.{added_more, among_at, fits_at, stand}
use Rattle.compose_bundle.proofs.bundling.built.Goals as goal

pub add-requires-clause-fits : goal.add-requires-clause-fits
add-requires-clause-fits c =
    fits_at c.args.items.now c.loop-item.item-index c.item-item.result c.loop-item-test.true c.item-item.is c.requires.fit

pub loop-item-preserved : goal.loop-item-preserved
loop-item-preserved c =
    added_more (content_in c.args.contents.now) c.args.items.now c.loop-item.item-index c.item-item.result
    (entries_of c.loop-item.builder) (entries_of c.add.new.builder) c.loop-item-test.true
    c.item-item.is c.loop-item.invariant c.in_ok-add.ensures.added

pub returns-in_err-add-clause-too_large : goal.returns-in_err-add-clause-too_large
returns-in_err-add-clause-too_large c = λ n e.
    let p = err_from_is_err_and c.from_residual.result c.from_residual.ensures.1 in
    let same : p.0 ≡ encode_error.TooLarge n = encode_is p.0 (encode_error.TooLarge n) (sym p.1 ∙ e) in
    let of = c.in_err-add.ensures.too_large n (ap (λ (x : EncodeError). Err x) (sym p.2 ∙ same)) in (
      of.0,
      among_at (content_in c.args.contents.now) c.args.items.now c.loop-item.item-index c.item-item.result
          (entries_of c.loop-item.builder) n c.loop-item-test.true c.item-item.is c.loop-item.invariant of.1,
    )

pub returns-clause-items : goal.returns-clause-items
returns-clause-items c =
    c.loop-item.invariant
    ∙ ap (λ (items : List Item). singles (stand (content_in c.args.contents.now) items))
    (take_all c.loop-item.item-index c.args.items.now c.loop-item-test.false)
