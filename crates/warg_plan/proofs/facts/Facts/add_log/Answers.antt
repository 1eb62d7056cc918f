use Rattle.std.proofs.Common.{ap, ◌∙◌, map, bytes_eq}
use Rattle.warg_plan.specs.View.{log_view, facts_view}
use Rattle.compose_config.specs.MapLaws.{insert_mapped}
use Rattle.warg_plan.proofs.FactSteps.{with_logs}
use Rattle.warg_plan.proofs.facts.Facts.add_log.Goals as goal

pub returns-clause-added : goal.returns-clause-added
returns-clause-added c =
    ap (with_logs (facts_view c.args.self.now)) (ap (map (λ e. (e.0, log_view e.1))) c.in_ok-insert.ensures.entries
    ∙ insert_mapped log_view bytes_eq c.args.self.now.logs.entries c.args.name c.args.releases)
