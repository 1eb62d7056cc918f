use Rattle.std.proofs.Common.{◌≡◌, ◌++◌, ◌∷◌, [], ◌+◌, List, drop, map, rules, sym, ◌∙◌, ap, subst}
use Rattle.std.proofs.lemmas.List.{drop_more, drop_all, map_push}
use Rattle.std.proofs.lemmas.Result.{err_from_is_err_and}
use Rattle.serde_json.specs.declared.value.Value.{Value}
use Rattle.serde_json.specs.View.{view, items_view}
use Rattle.warg_exchange.specs.Body.{each_item}
use Rattle.warg_json.proofs.ListLaws.{behind, each_goes_on, each_ends, each_done}
use Rattle.warg_json.proofs.list.each_of.Goals as goal

pub returns-in_err-item : goal.returns-in_err-item
returns-in_err-item g c =
    let f = g.T.FromBody.meaning in
    let done = map g.T.FromBody.plain c.loop-value.items in
    let i = c.loop-value.value-index in
    let vs = c.args.values.now in
    let e : drop i vs ≡ c.value-item.result ∷ drop (i + 1) vs = search (rules, drop_more) in
    let whole = each_item f (items_view vs) in
    let so_far = subst (λ (l : List Value). behind done (each_item f (items_view l)) ≡ whole) e c.loop-value.invariant in
    let p = err_from_is_err_and c.from_residual.result c.from_residual.ensures.1 in
    rw (p.1, p.2) (each_ends f done (view c.value-item.result) (items_view (drop (i + 1) vs)) whole c.in_err-item.field-0.0 c.in_err-item.ensures so_far)

pub loop-value-preserved : goal.loop-value-preserved
loop-value-preserved g c =
    let f = g.T.FromBody.meaning in
    let plain = g.T.FromBody.plain in
    let done = map plain c.loop-value.items in
    let i = c.loop-value.value-index in
    let vs = c.args.values.now in
    let e : drop i vs ≡ c.value-item.result ∷ drop (i + 1) vs = search (rules, drop_more) in
    let whole = each_item f (items_view vs) in
    let so_far = subst (λ (l : List Value). behind done (each_item f (items_view l)) ≡ whole) e c.loop-value.invariant in
    let added : map plain c.push.new.self ≡ done ++ plain c.in_ok-item.item ∷ [] = ap (map plain) c.in_ok-push.ensures.added ∙ map_push plain c.loop-value.items c.in_ok-item.item in
    rw added (sym (each_goes_on f done (view c.value-item.result) (items_view (drop (i + 1) vs)) (plain c.in_ok-item.item) c.in_ok-item.ensures) ∙ so_far)

pub returns : goal.returns
returns g c =
    let f = g.T.FromBody.meaning in
    let done = map g.T.FromBody.plain c.loop-value.items in
    let vs = c.args.values.now in
    let e : drop c.loop-value.value-index vs ≡ [] = search (rules, drop_all) in
    sym (subst (λ (l : List Value). behind done (each_item f (items_view l)) ≡ each_item f (items_view vs)) e c.loop-value.invariant) ∙ each_done f done
