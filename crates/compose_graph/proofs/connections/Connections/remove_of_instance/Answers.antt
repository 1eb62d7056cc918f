use Rattle.std.proofs.Common.{rules, ap, sym, subst, ◌∙◌}
use Rattle.std.specs.Prelude.{◌==◌, ◌||◌, not, filter}
use Rattle.std.proofs.lemmas.Fn.{filter_same}
use Rattle.std.proofs.lemmas.Map.Made.{filter_same_pairs}
use Rattle.compose_graph.specs.Found.{AreFound}
use Rattle.compose_graph.specs.Graph.{touches}
use Rattle.compose_graph.proofs.ConnectionLaws.{found_kept}
use Rattle.compose_graph.proofs.connections.Connections.remove_of_instance.Goals as goal

pub invariant_of-self : goal.invariant_of-self
invariant_of-self c =
    subst (λ cs. AreFound cs c.retain-2.new.self)
    (sym (filter_same _ (λ d. not ((d.source == c.args.id) || (d.target == c.args.id))) _ (λ d b f' k. search rules) _ _ c.retain.ensures.filtered))
    (found_kept (λ source input. not ((source == c.args.id) || (input.target == c.args.id))) c.self.inside.list.items c.self.inside.sources c.retain-2.new.self c.retain-2.ensures.was_ordered
    (filter_same_pairs _ (λ e. not ((e.1 == c.args.id) || (e.0.target == c.args.id))) _ (λ k v b w f' t. search rules) _ _ c.retain-2.ensures.filtered)
    c.self.invariant)

pub returns : goal.returns
returns c =
    filter_same _ (λ d. not (touches c.args.id d)) _ (λ d b f' k. search rules) _ _ c.retain.ensures.filtered
    ∙ ap (filter (λ d. not (touches c.args.id d))) c.self.view_is
