use Rattle.std.proofs.Common.{Ok, ap, ◌∙◌}
use Rattle.warg_json.proofs.ListLaws.{map_same_options}
use Rattle.warg_json.proofs.names.FetchPackageNamesResponseFromBody.from_body.Goals as goal

pub returns : goal.returns
returns c = c.in_ok-packages.ensures ∙ ap Ok (map_same_options c.in_ok-packages.packages.entries)
