use Rattle.std.proofs.Common.{◌≡◌, []}
use Rattle.serde_json.specs.View.{members_view}
use Rattle.warg_exchange.specs.Body.{each_member, digest_in_text}
use Rattle.warg_json.proofs.MapLaws.{seen}
use Rattle.warg_json.proofs.map.each_log.Given as goal

abbrev pub invariant-loop-name : goal.invariant-loop-name
invariant-loop-name g l =
    each_member digest_in_text g.T.FromBody.meaning (seen g.T.FromBody.plain l.found.entries) (members_view l.name-iterator)
    ≡ each_member digest_in_text g.T.FromBody.meaning [] (members_view l.members.entries)
