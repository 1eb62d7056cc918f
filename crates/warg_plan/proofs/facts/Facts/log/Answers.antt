use Rattle.std.proofs.Common.{ap, sym, ◌∙◌, option_map, bytes_eq, Some}
use Rattle.warg_log.specs.Places.{release_views}
use Rattle.warg_plan.specs.View.{log_view}
use Rattle.compose_config.specs.MapLaws.{lookup_mapped}
use Rattle.warg_plan.proofs.facts.Facts.log.Goals as goal

pub returns-in-Some : goal.returns-in-Some
returns-in-Some c =
    ap (λ rs. Some (release_views rs)) c.as_slice.ensures.value
    ∙ ap (option_map log_view) c.in-Some.ensures.value
    ∙ sym (lookup_mapped log_view (bytes_eq c.args.name.now) c.args.self.now.logs.entries)

pub returns-in-None : goal.returns-in-None
returns-in-None c = ap (option_map log_view) c.in-None.ensures.value ∙ sym (lookup_mapped log_view (bytes_eq c.args.name.now) c.args.self.now.logs.entries)
