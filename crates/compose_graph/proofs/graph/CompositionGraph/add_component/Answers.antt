use Rattle.std.proofs.Common.{◌≡◌, ◌<◌, ◌∙◌, ap, subst, sym, None}
use Rattle.std.specs.Prelude.{ℕ, Option, is_some}
use Rattle.compose_component.specs.Component.{name_of}
use Rattle.compose_graph.specs.Graph.{ComponentEntry, component_named}
use Rattle.compose_graph.specs.Listed.{HeldGraph, component_entries, graph_of}
use Rattle.compose_graph.specs.Refusal.{IsAddRefusal, last_id}
use Rattle.compose_graph.proofs.FaultLaws.{none_mapped, memory_alone}
use Rattle.compose_graph.proofs.HeldLaws.{kept_added}
use Rattle.compose_graph.proofs.graph.CompositionGraph.add_component.Goals as goal

pub add-requires-clause-room : goal.add-requires-clause-room
add-requires-clause-room c = c.is_full.ensures.room c.if-is_full.false

pub returns-in_err-id-clause-refused : goal.returns-in_err-id-clause-refused
returns-in_err-id-clause-refused c =
    let free : component_named (component_entries c.self.inside.components.entries) (name_of c.args.component) ≡ None =
    ap (component_named (component_entries c.self.inside.components.entries)) (sym c.name.ensures)
    ∙ none_mapped (λ (e : ComponentEntry). e.id) (component_named (component_entries c.self.inside.components.entries) c.name.result.now)
    (ap (λ (o : Option ℕ). is_some o) (sym c.find.ensures) ∙ sym c.is_some.ensures ∙ c.if-is_some.false) in
    memory_alone c.from_residual.result (IsAddRefusal (graph_of c.args.self.now) (name_of c.args.component)) c.from_residual.ensures.1 (
      ap (λ (g : HeldGraph). component_named (component_entries g.components.entries) (name_of c.args.component)) (sym c.self.view_is) ∙ free,
      subst (λ (g : HeldGraph). g.components.next < last_id) c.self.view_is (c.is_full.ensures.room c.if-is_full.false),
    )

pub invariant_of-self-2 : goal.invariant_of-self-2
invariant_of-self-2 c =
    kept_added c.self.inside.components c.add.new.self c.self.inside.instances c.self.inside.instances c.self.inside.connections c.self.inside.connections c.self.invariant
    c.args.component c.in_ok-id.ensures.added
    (ap (component_named (component_entries c.self.inside.components.entries)) (sym c.name.ensures)
    ∙ none_mapped (λ (e : ComponentEntry). e.id) (component_named (component_entries c.self.inside.components.entries) c.name.result.now)
    (ap (λ (o : Option ℕ). is_some o) (sym c.find.ensures) ∙ sym c.is_some.ensures ∙ c.if-is_some.false))

pub returns-clause-kept : goal.returns-clause-kept
returns-clause-kept c =
    kept_added c.self.inside.components c.add.new.self c.self.inside.instances c.self.inside.instances c.self.inside.connections c.self.inside.connections c.self.invariant
    c.args.component c.in_ok-id.ensures.added
    (ap (component_named (component_entries c.self.inside.components.entries)) (sym c.name.ensures)
    ∙ none_mapped (λ (e : ComponentEntry). e.id) (component_named (component_entries c.self.inside.components.entries) c.name.result.now)
    (ap (λ (o : Option ℕ). is_some o) (sym c.find.ensures) ∙ sym c.is_some.ensures ∙ c.if-is_some.false))
