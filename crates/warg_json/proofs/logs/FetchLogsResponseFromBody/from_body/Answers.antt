use Rattle.std.proofs.Common.{refl}
use Rattle.warg_exchange.specs.Replies.{page_in}
use Rattle.warg_json.proofs.ListLaws.{map_same, map_same_lists}
use Rattle.warg_json.proofs.logs.FetchLogsResponseFromBody.from_body.Goals as goal

pub returns : goal.returns
unfolding page_in
returns c =
    rw (
      c.in_ok-more.ensures,
      c.in_ok-operator.ensures,
      c.in_ok-packages.ensures,
      map_same c.in_ok-operator.operator,
      map_same_lists c.in_ok-packages.packages.entries,
    ) refl
