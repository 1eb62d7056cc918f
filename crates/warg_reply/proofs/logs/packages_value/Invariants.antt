use Rattle.std.proofs.Common.{◌≡◌, ◌++◌, List}
use Rattle.std.specs.Prelude.{fold}
use Rattle.std.specs.BTreeMap.{insert_entry}
use Rattle.serde_json.specs.View.{members_view}
use Rattle.warg_exchange.specs.Body.{list_in}
use Rattle.warg_exchange.specs.Replies.{published_in}
use Rattle.warg_exchange.specs.declared.logs.PublishedRecord.{PublishedRecord}
use Rattle.warg_reply.specs.Order.{by_text, ascending, NameThemselves}
use Rattle.warg_reply.specs.OrderLaws.{Entries, Ascend, AreRead}
use Rattle.warg_reply.proofs.logs.packages_value.Given as goal

-- of the entries so far the members are read, each hash by its text, and the others are still to be put in order
abbrev pub invariant-loop-id : goal.invariant-loop-id
invariant-loop-id l =
    (sorted : Entries (List PublishedRecord)) × Ascend sorted × AreRead (list_in published_in) 2 (members_view l.map.entries) sorted
    × (fold (λ done e. insert_entry by_text done e.0 e.1) sorted l.id-iterator ≡ ascending l.packages.entries)
    × (done : Entries (List PublishedRecord)) × NameThemselves done × (done ++ l.id-iterator ≡ l.packages.entries)
