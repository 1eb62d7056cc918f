use Rattle.std.proofs.Common.{rules, ap, sym, subst, ◌∙◌}
use Rattle.std.specs.Prelude.{◌==◌, ◌&&◌, not, filter}
use Rattle.std.proofs.lemmas.Fn.{filter_same}
use Rattle.std.proofs.lemmas.Map.Made.{filter_same_pairs}
use Rattle.compose_graph.specs.Found.{AreFound}
use Rattle.compose_graph.specs.Graph.{is_between}
use Rattle.compose_graph.proofs.ConnectionLaws.{found_kept}
use Rattle.compose_graph.proofs.connections.Connections.remove_between.Goals as goal

pub invariant_of-self : goal.invariant_of-self
invariant_of-self c =
    subst (λ cs. AreFound cs c.retain-2.new.self)
    (sym (filter_same _ (λ d. not ((d.source == c.args.source) && (d.target == c.args.target) && (d.import == c.args.import))) _ (λ d b f' k. search rules) _ _ c.retain.ensures.filtered))
    (found_kept (λ from input. not ((from == c.args.source) && (input.target == c.args.target) && (input.import == c.args.import))) c.self.inside.list.items c.self.inside.sources c.retain-2.new.self c.retain-2.ensures.was_ordered
    (filter_same_pairs _ (λ e. not ((e.1 == c.args.source) && (e.0.target == c.args.target) && (e.0.import == c.args.import))) _ (λ k v b w f' t. search rules) _ _ c.retain-2.ensures.filtered)
    c.self.invariant)

pub returns : goal.returns
returns c =
    filter_same _ (λ d. not (is_between c.args.source c.args.target c.args.import d)) _ (λ d b f' k. search rules) _ _ c.retain.ensures.filtered
    ∙ ap (filter (λ d. not (is_between c.args.source c.args.target c.args.import d))) c.self.view_is
