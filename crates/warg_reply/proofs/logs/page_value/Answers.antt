use Rattle.std.proofs.Common.{◌≡◌, ◌≤◌, ◌∙◌, ap}
use Rattle.std.specs.Prelude.{Ok}
use Rattle.serde_json.specs.Data.{depth}
use Rattle.serde_json.specs.View.{view}
use Rattle.warg_exchange.specs.Replies.{page_in}
use Rattle.warg_reply.specs.Bodies.{page_data}
use Rattle.warg_reply.specs.Order.{ascending}
use Rattle.warg_reply.proofs.BodyLaws.{by_members}
use Rattle.warg_reply.proofs.RecordLaws.{page_read, page_nests}
use Rattle.warg_reply.proofs.logs.page_value.Goals as goal

pub returns-clause-says : goal.returns-clause-says
returns-clause-says c =
    let page = c.args.page.now in
    let operator = view c.in_ok-operator.operator in
    let packages = view c.in_ok-packages.packages in
    let first = c.in_ok-operator.ensures.says ∙ ap Ok c.as_slice.ensures in
    by_members c.page_object.result (page_data page.more operator packages)
    (λ d. page_in d ≡ Ok (record { more = page.more; operator = page.operator; packages = ascending page.packages.entries })) c.page_object.ensures
    (page_read page.more operator packages page.operator (ascending page.packages.entries) first c.in_ok-packages.ensures.says)

pub returns-clause-nests : goal.returns-clause-nests
returns-clause-nests c =
    let page = c.args.page.now in
    let operator = view c.in_ok-operator.operator in
    let packages = view c.in_ok-packages.packages in
    by_members c.page_object.result (page_data page.more operator packages) (λ d. depth d ≤ 4) c.page_object.ensures
    (page_nests page.more operator packages c.in_ok-operator.ensures.nests c.in_ok-packages.ensures.nests)
