use Rattle.std.proofs.Common.{ap, sym, ◌∙◌, option_map, bytes_eq}
use Rattle.warg_plan.specs.View.{content_view}
use Rattle.compose_config.specs.MapLaws.{lookup_mapped}
use Rattle.warg_plan.proofs.facts.Facts.content.Goals as goal

pub returns : goal.returns
returns c = ap (option_map content_view) c.get.ensures.value ∙ sym (lookup_mapped content_view (bytes_eq c.args.digest.now) c.args.self.now.contents.entries)
