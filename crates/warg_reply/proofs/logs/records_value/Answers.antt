use Rattle.std.proofs.Common.{◌≡◌, ◌≤◌, ◌++◌, ◌∷◌, [], ◌+◌, List, subst, map, take, arith, rules}
use Rattle.std.proofs.lemmas.List.{take_more, take_all}
use Rattle.serde_json.specs.Data.{depth, items_depth}
use Rattle.serde_json.specs.View.{view, items_of}
use Rattle.serde_json.proofs.Views.{view-Array}
use Rattle.warg_exchange.specs.Replies.{published_in}
use Rattle.warg_exchange.specs.declared.logs.PublishedRecord.{PublishedRecord}
use Rattle.warg_reply.proofs.RecordLaws.{ItemsRead, pushed, items_read, items_nest}
use Rattle.warg_reply.proofs.logs.records_value.Goals as goal

pub loop-published-preserved : goal.loop-published-preserved
loop-published-preserved c =
    let i = c.loop-published.published-index in
    let records = c.args.records.now in
    let more : take (i + 1) records ≡ take i records ++ c.published-item.result ∷ [] = search (rules, take_more) in
    let nests : depth (view c.in_ok-value.value) ≤ 1 = omega (arith, c.in_ok-value.ensures.nests) in
    rw (c.in_ok-push.ensures.items, more)
    (pushed published_in 1 c.loop-published.values.items c.in_ok-value.value (take i records) c.published-item.result c.loop-published.invariant (c.in_ok-value.ensures.says, nests))

pub returns-clause-says : goal.returns-clause-says
returns-clause-says c =
    let records = c.args.records.now in
    let items = c.loop-published.values.items in
    let whole : take c.loop-published.published-index records ≡ records = search (rules, take_all) in
    rw (view-Array c.loop-published.values)
    (items_read published_in 1 (map view items) records (subst (λ (rs : List PublishedRecord). ItemsRead published_in 1 (map view items) rs) whole c.loop-published.invariant))

pub returns-clause-nests : goal.returns-clause-nests
returns-clause-nests c =
    let items = c.loop-published.values.items in
    let nests : items_depth (items_of (map view items)) ≤ 1 =
    items_nest published_in 1 (map view items) (take c.loop-published.published-index c.args.records.now) c.loop-published.invariant in
    rw (view-Array c.loop-published.values) (omega (arith, nests))
