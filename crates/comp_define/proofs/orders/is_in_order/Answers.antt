use Rattle.std.proofs.Common.{rules, arith, ◌≡◌, ◌<◌, ◌+◌, ◌++◌, ◌∷◌, ◌∙◌, [], ap, length, slice_index_or, suc, sym}
use Rattle.std.proofs.lemmas.List.{take_more}
use Rattle.std.proofs.lemmas.Option.{same_Some, slice_get-get_or}
use Rattle.comp_define.specs.Orders.{below}
use Rattle.comp_define.proofs.orders.is_in_order.Goals as goal

pub loop-place-preserved : goal.loop-place-preserved
loop-place-preserved c =
    let keys = c.args.numbers.now.keys in
    let place = c.loop-place.place in
    let lt : place < length keys = search rules in
    let here : slice_index_or keys place 0 ≡ c.in-Some.number.now = same_Some _ _ (sym (slice_get-get_or keys place 0 lt) ∙ sym c.in-Some.ensures.key) in
    let next : suc place ≡ place + 1 = omega arith in
    take_more keys place 0 lt ∙ (λ i. c.loop-place.invariant i ++ (here ∙ c.if-number-place.false) i ∷ []) ∙ ap below next
