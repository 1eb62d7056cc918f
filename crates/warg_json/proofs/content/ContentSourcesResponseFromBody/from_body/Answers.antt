use Rattle.std.proofs.Common.{Ok, ap, ◌∙◌}
use Rattle.warg_json.proofs.ListLaws.{map_same_lists}
use Rattle.warg_json.proofs.content.ContentSourcesResponseFromBody.from_body.Goals as goal

pub returns : goal.returns
returns c = c.in_ok-content_sources.ensures ∙ ap Ok (map_same_lists c.in_ok-content_sources.content_sources.entries)
