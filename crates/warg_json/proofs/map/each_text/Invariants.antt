use Rattle.std.proofs.Common.{◌≡◌, []}
use Rattle.serde_json.specs.View.{members_view}
use Rattle.std.specs.Prelude.{Ok}
use Rattle.warg_exchange.specs.Body.{each_member, text_in}
use Rattle.warg_json.proofs.map.each_text.Given as goal

abbrev pub invariant-loop-name : goal.invariant-loop-name
invariant-loop-name l =
    each_member Ok text_in (l.found.entries) (members_view l.name-iterator)
    ≡ each_member Ok text_in [] (members_view l.members.entries)
