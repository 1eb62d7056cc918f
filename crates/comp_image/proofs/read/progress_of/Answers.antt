use Rattle.std.proofs.Common.{◌<◌, ◌≤◌, List, length, map, rules, Result, Ok, Err, sym, ap, subst}
use Rattle.std.specs.Prelude.{take, get_or}
use Rattle.std.proofs.lemmas.List.{take_all}
use Rattle.comp_format.specs.Items.{ItemTree, item_tree}
use Rattle.comp_format.specs.declared.types.Item.{Item}
use Rattle.comp_image.specs.declared.error.ImageError.{ImageError}
use Rattle.comp_image.specs.declared.error.ImageError.TheVariants as errors
use Rattle.comp_image.specs.declared.progress.Progress.{Progress}
use Rattle.comp_image.specs.Progress.{Fails, Seen, is_among}
use Rattle.comp_scope.specs.Image.{seen}
use Rattle.comp_image.specs.Read.{AllSeen}
use Rattle.comp_image.proofs.ReadLaws.{none_seen, stops, one_more, front_more}
use Rattle.comp_image.proofs.read.progress_of.Goals as goal

pub loop-number-init : goal.loop-number-init
loop-number-init c = λ imports. none_seen (is_among c.args.components.now.keys) imports c.in_ok-progress.progress (c.in_ok-progress.ensures imports)

abbrev error_in : Result Progress ImageError → ImageError
error_in (Ok part) = errors.Memory
error_in (Err e) = e

pub returns-in-Err-clause-not_carried : goal.returns-in-Err-clause-not_carried
returns-in-Err-clause-not_carried c = λ number is imports.
    let items = c.args.items.now in
    let i = c.loop-number.number in
    let there : i < length items = search rules in
    let placed = c.at_item.ensures.not_carried number (ap error_in is) in
    stops (is_among c.args.components.now.keys) imports items i number c.index-items-number.result c.loop-number.progress c.in-Err.error there placed.1 placed.0 (c.loop-number.invariant imports)
    (λ p shows. subst (λ (x : Item). Fails c.in-Err.error (seen (is_among c.args.components.now.keys) p (item_tree x))) c.index-items-number.is (c.in-Err.ensures imports p shows))

pub loop-number-preserved : goal.loop-number-preserved
loop-number-preserved c = λ imports.
    let items = c.args.items.now in
    let i = c.loop-number.number in
    let there : i < length items = search rules in
    let item = c.index-items-number.result in
    subst (λ (l : List ItemTree). AllSeen (is_among c.args.components.now.keys) imports l c.see.new.progress) (sym (front_more items i item there))
    (one_more (is_among c.args.components.now.keys) imports (map item_tree (take i items)) (item_tree (get_or items i item)) c.loop-number.progress c.see.new.progress (c.loop-number.invariant imports)
    (λ p shows. subst (λ (x : Item). Seen imports c.see.new.progress (seen (is_among c.args.components.now.keys) p (item_tree x))) c.index-items-number.is (c.in-Ok.ensures imports p shows)))

pub returns-clause-seen : goal.returns-clause-seen
returns-clause-seen c = λ imports.
    let items = c.args.items.now in
    let i = c.loop-number.number in
    let over : length items ≤ i = search rules in
    subst (λ (l : List Item). AllSeen (is_among c.args.components.now.keys) imports (map item_tree l) c.loop-number.progress) (take_all i items over) (c.loop-number.invariant imports)
