use Rattle.std.proofs.Common.{ap, ◌∙◌, map, bytes_eq, ℕ, List}
use Rattle.warg_plan.specs.View.{content_view, facts_view}
use Rattle.warg_plan.specs.declared.facts.Content.{Content}
use Rattle.compose_config.specs.MapLaws.{insert_mapped}
use Rattle.warg_plan.proofs.FactSteps.{with_contents}
use Rattle.warg_plan.proofs.facts.Facts.add_content.Goals as goal

pub returns-clause-added : goal.returns-clause-added
returns-clause-added c =
    ap (with_contents (facts_view c.args.self.now)) (ap (map (λ (e : List ℕ × Content). (e.0, content_view e.1))) c.in_ok-insert.ensures.entries
    ∙ insert_mapped content_view bytes_eq c.args.self.now.contents.entries c.args.digest c.args.content)
