use Rattle.std.proofs.Common.{◌<◌, ◌∙◌, ap, subst, sym}
use Rattle.std.specs.Prelude.{Option, is_some, not}
use Rattle.std.specs.Borrow.{Bor}
use Rattle.compose_component.specs.declared.component.Component.{Component}
use Rattle.compose_graph.specs.Graph.{ComponentEntry, component_at}
use Rattle.compose_graph.specs.Listed.{HeldGraph, graph_of, component_entries, component_entry, held_component}
use Rattle.compose_graph.specs.Refusal.{IsInstantiateRefusal, last_id}
use Rattle.compose_graph.proofs.FaultLaws.{some_mapped, memory_alone}
use Rattle.compose_graph.proofs.HeldLaws.{kept_instantiated}
use Rattle.compose_graph.proofs.graph.CompositionGraph.instantiate.Goals as goal

pub add-requires : goal.add-requires
add-requires c = c.is_full.ensures.room c.if-is_full.false

pub returns-in_err-instance-clause-refused : goal.returns-in_err-instance-clause-refused
returns-in_err-instance-clause-refused c =
    memory_alone c.from_residual.result (IsInstantiateRefusal (graph_of c.args.self.now) c.args.id.0) c.from_residual.ensures.1 (
      ap (λ (g : HeldGraph). is_some (component_at (component_entries g.components.entries) c.args.id.0)) (sym c.self.view_is)
          ∙ ap (λ (o : Option ComponentEntry). is_some o) (sym c.get.ensures)
          ∙ some_mapped (λ (x : Bor Component). component_entry (held_component c.args.id.0 x.now)) c.get.result ∙ c.is_none.ensures ∙ ap not c.if-is_none.false,
      subst (λ (g : HeldGraph). g.instances.next < last_id) c.self.view_is (c.is_full.ensures.room c.if-is_full.false),
    )

pub invariant_of-self-2 : goal.invariant_of-self-2
invariant_of-self-2 c =
    kept_instantiated c.self.inside.components c.self.inside.components c.self.inside.instances c.add.new.self c.self.inside.connections c.self.inside.connections c.self.invariant
    c.args.id.0 c.in_ok-instance.ensures.added
    (ap (λ (o : Option ComponentEntry). is_some o) (sym c.get.ensures)
    ∙ some_mapped (λ (x : Bor Component). component_entry (held_component c.args.id.0 x.now)) c.get.result ∙ c.is_none.ensures ∙ ap not c.if-is_none.false)

pub returns-clause-kept : goal.returns-clause-kept
returns-clause-kept c =
    kept_instantiated c.self.inside.components c.self.inside.components c.self.inside.instances c.add.new.self c.self.inside.connections c.self.inside.connections c.self.invariant
    c.args.id.0 c.in_ok-instance.ensures.added
    (ap (λ (o : Option ComponentEntry). is_some o) (sym c.get.ensures)
    ∙ some_mapped (λ (x : Bor Component). component_entry (held_component c.args.id.0 x.now)) c.get.result ∙ c.is_none.ensures ∙ ap not c.if-is_none.false)
