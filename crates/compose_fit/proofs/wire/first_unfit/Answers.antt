use Rattle.std.proofs.Common.{rules, ◌≡◌, ◌<◌, ◌+◌, ◌∙◌, ap, sym, subst, true, false, length, drop, slice_index_or}
use Rattle.std.specs.Prelude.{Some}
use Rattle.comp_table.specs.Plain.{plain_entity}
use Rattle.compose_fit.specs.Fit.{fits_under}
use Rattle.compose_fit.specs.Seen.{plainly}
use Rattle.compose_fit.proofs.ExportLaws.{dropped, nothing_left}
use Rattle.compose_fit.proofs.LoopLaws.{IsLeft, here, item_shown, left_later, unfit_here, nothing_unfit}
use Rattle.compose_fit.proofs.wire.first_unfit.Goals as goal

pub entry_at-asked-requires-clause-entry : goal.entry_at-asked-requires-clause-entry
entry_at-asked-requires-clause-entry c =
    let lt : c.loop-part.part-index < length c.args.parts.now = search rules in
    let names = c.requires.names in
    let asked = c.requires.asked in
    let left = subst (λ ps. IsLeft c.args.table.now ps names.0 asked.0) (dropped c.args.parts.now c.loop-part.part-index 0 lt) (c.loop-part.invariant names.0 asked.0 names.1 asked.1 asked.2) in
    let x = here c.args.table.now (slice_index_or c.args.parts.now c.loop-part.part-index 0) (drop (c.loop-part.part-index + 1) c.args.parts.now) names.0 asked.0 left in
    (x.name, x.mark, plain_entity x.item, x.here)

pub fits_under-requires-clause-asked : goal.fits_under-requires-clause-asked
fits_under-requires-clause-asked c =
    let lt : c.loop-part.part-index < length c.args.parts.now = search rules in
    let names = c.requires.names in
    let asked = c.requires.asked in
    let p = slice_index_or c.args.parts.now c.loop-part.part-index 0 in
    let ps = drop (c.loop-part.part-index + 1) c.args.parts.now in
    let left = subst (λ ps. IsLeft c.args.table.now ps names.0 asked.0) (dropped c.args.parts.now c.loop-part.part-index 0 lt) (c.loop-part.invariant names.0 asked.0 names.1 asked.1 asked.2) in
    let x = here c.args.table.now p ps names.0 asked.0 left in
    (x.item, (c.entry_at-asked.ensures x.name x.mark (plain_entity x.item) x.here).1, item_shown c.args.table.now p ps names.0 asked.0 left)

pub returns-then-not-fits : goal.returns-then-not-fits
returns-then-not-fits c = λ given asked names trees shown.
    let lt : c.loop-part.part-index < length c.args.parts.now = search rules in
    let is : c.in_ok-fits.fits ≡ false = search rules in
    let p = slice_index_or c.args.parts.now c.loop-part.part-index 0 in
    let ps = drop (c.loop-part.part-index + 1) c.args.parts.now in
    let left = subst (λ ps. IsLeft c.args.table.now ps given asked) (dropped c.args.parts.now c.loop-part.part-index 0 lt) (c.loop-part.invariant given asked names trees shown) in
    let x = here c.args.table.now p ps given asked left in
    let item = c.entry_at-asked.ensures x.name x.mark (plain_entity x.item) x.here in
    ap (λ n. Some n) (c.in_ok-try_clone.ensures ∙ item.0)
    ∙ unfit_here c.args.table.now p ps given asked left
    (sym is ∙ c.in_ok-fits.ensures given x.item names item.1 (item_shown c.args.table.now p ps given asked left) ∙ ap (λ n. fits_under plainly 0 given 0 n x.item) item.0)

pub loop-part-preserved : goal.loop-part-preserved
loop-part-preserved c = λ given asked names trees shown.
    let lt : c.loop-part.part-index < length c.args.parts.now = search rules in
    let is : c.in_ok-fits.fits ≡ true = search rules in
    let p = slice_index_or c.args.parts.now c.loop-part.part-index 0 in
    let ps = drop (c.loop-part.part-index + 1) c.args.parts.now in
    let left = subst (λ ps. IsLeft c.args.table.now ps given asked) (dropped c.args.parts.now c.loop-part.part-index 0 lt) (c.loop-part.invariant given asked names trees shown) in
    let x = here c.args.table.now p ps given asked left in
    let item = c.entry_at-asked.ensures x.name x.mark (plain_entity x.item) x.here in
    left_later c.args.table.now p ps given asked left
    (sym is ∙ c.in_ok-fits.ensures given x.item names item.1 (item_shown c.args.table.now p ps given asked left) ∙ ap (λ n. fits_under plainly 0 given 0 n x.item) item.0)

pub returns : goal.returns
returns c = λ given asked names trees shown.
    let end : c.loop-part.part-index ≡ length c.args.parts.now = search rules in
    nothing_unfit c.args.table.now given asked (subst (λ ps. IsLeft c.args.table.now ps given asked) (nothing_left c.args.parts.now c.loop-part.part-index end) (c.loop-part.invariant given asked names trees shown))
