use Rattle.std.proofs.Common.{rules, ap, sym, subst, ◌∙◌}
use Rattle.std.specs.Prelude.{◌||◌, not, filter}
use Rattle.std.proofs.lemmas.Fn.{filter_same}
use Rattle.std.proofs.lemmas.Map.Made.{filter_same_pairs}
use Rattle.compose_graph.specs.Found.{AreFound}
use Rattle.compose_graph.specs.Graph.{is_of, touches_any_of}
use Rattle.compose_graph.proofs.ConnectionLaws.{found_kept}
use Rattle.compose_graph.proofs.connections.Connections.remove_of_component.Goals as goal

pub invariant_of-self : goal.invariant_of-self
invariant_of-self c =
    subst (λ cs. AreFound cs c.retain-2.new.self)
    (sym (filter_same _ (λ d. not (is_of c.args.instances.now.entries c.args.component d.source || is_of c.args.instances.now.entries c.args.component d.target)) _ (λ d b f' k. search rules) _ _ c.retain.ensures.filtered))
    (found_kept (λ source input. not (is_of c.args.instances.now.entries c.args.component source || is_of c.args.instances.now.entries c.args.component input.target)) c.self.inside.list.items c.self.inside.sources c.retain-2.new.self c.retain-2.ensures.was_ordered
    (filter_same_pairs _ (λ e. not (is_of c.args.instances.now.entries c.args.component e.1 || is_of c.args.instances.now.entries c.args.component e.0.target)) _ (λ k v b w f' t. search rules) _ _ c.retain-2.ensures.filtered)
    c.self.invariant)

pub returns : goal.returns
returns c =
    filter_same _ (λ d. not (touches_any_of c.args.instances.now.entries c.args.component d)) _ (λ d b f' k. search rules) _ _ c.retain.ensures.filtered
    ∙ ap (filter (λ d. not (touches_any_of c.args.instances.now.entries c.args.component d))) c.self.view_is
