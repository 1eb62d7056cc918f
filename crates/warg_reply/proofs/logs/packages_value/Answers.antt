use Rattle.std.proofs.Common.{◌≡◌, ◌≤◌, ◌∷◌, ◌++◌, [], List, ℕ, ap, sym, ◌∙◌, subst, arith, rules, append_assoc, append-nil}
use Rattle.std.specs.Prelude.{Ok, fold}
use Rattle.std.specs.BTreeMap.{insert_entry}
use Rattle.serde_json.specs.Data.{members_depth, put}
use Rattle.serde_json.specs.View.{view, members_view}
use Rattle.serde_json.proofs.Views.{view-Object}
use Rattle.warg_hash.specs.Hash.{hash_text}
use Rattle.warg_exchange.specs.Body.{list_in}
use Rattle.warg_exchange.specs.Replies.{published_in}
use Rattle.warg_exchange.specs.declared.logs.PublishedRecord.{PublishedRecord}
use Rattle.warg_reply.specs.Order.{by_text, ascending, NamesItself, NameThemselves}
use Rattle.warg_reply.specs.OrderLaws.{Entries, ascend_insert, read_put, read_all, members_nest, named_behind}
use Rattle.warg_reply.proofs.logs.packages_value.Goals as goal

pub loop-id-init : goal.loop-id-init
loop-id-init c = ([], tt, rw c.new-map.ensures.empty tt, search rules, [], tt, search rules)

pub loop-id-preserved : goal.loop-id-preserved
loop-id-preserved c =
    let inv = c.loop-id.invariant in
    let id = c.in-Some.id.now in
    let records = c.in-Some.records.now in
    let value = view c.in_ok-value.value in
    let names : NamesItself id = subst NamesItself c.hash.ensures.value c.names_itself.ensures in
    let says : list_in published_in value ≡ Ok records = search rules in
    let text : c.as_str.result.now ≡ hash_text id = search rules in
    let is_put = c.in_ok-put.ensures.ok ∙ ap (λ (name : List ℕ). put name value (members_view c.loop-id.map.entries)) text in
    let left = subst (λ (entries : Entries (List PublishedRecord)). fold (λ done e. insert_entry by_text done e.0 e.1) inv.0 entries ≡ ascending c.args.packages.now.entries) c.in-Some.ensures.steps inv.3 in (
      insert_entry by_text inv.0 id records,
      ascend_insert inv.0 id records inv.1,
      rw is_put (read_put (list_in published_in) 2 (members_view c.loop-id.map.entries) inv.0 id records value names (says, c.in_ok-value.ensures.nests) inv.2),
      left,
      inv.4 ++ (id, records) ∷ [],
      named_behind inv.4 id records inv.5 names,
      append_assoc inv.4 ((id, records) ∷ []) _ ∙ subst (λ (entries : Entries (List PublishedRecord)). inv.4 ++ entries ≡ c.args.packages.now.entries) c.in-Some.ensures.steps inv.6,
    )

pub returns-clause-says : goal.returns-clause-says
returns-clause-says c =
    let inv = c.loop-id.invariant in
    let done : inv.0 ≡ ascending c.args.packages.now.entries = subst (λ (entries : Entries (List PublishedRecord)). fold (λ done e. insert_entry by_text done e.0 e.1) inv.0 entries ≡ ascending c.args.packages.now.entries) c.in-None.ensures.steps.0 inv.3 in
    rw (view-Object c.loop-id.map) (read_all (list_in published_in) 2 (members_view c.loop-id.map.entries) inv.0 inv.1 inv.2 ∙ ap Ok done)

pub returns-clause-nests : goal.returns-clause-nests
returns-clause-nests c =
    let inv = c.loop-id.invariant in
    let nests : members_depth (members_view c.loop-id.map.entries) ≤ 2 = members_nest (list_in published_in) 2 (members_view c.loop-id.map.entries) inv.0 inv.2 in
    rw (view-Object c.loop-id.map) (omega (arith, nests))

pub returns-clause-ids : goal.returns-clause-ids
returns-clause-ids c =
    let inv = c.loop-id.invariant in
    let all : inv.4 ++ [] ≡ c.args.packages.now.entries = subst (λ (entries : Entries (List PublishedRecord)). inv.4 ++ entries ≡ c.args.packages.now.entries) c.in-None.ensures.steps.0 inv.6 in
    subst NameThemselves (sym (append-nil inv.4) ∙ all) inv.5
