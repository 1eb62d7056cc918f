use Rattle.std.proofs.Common.{◌∙◌, ap}
use Rattle.std.specs.Prelude.{◌==◌, not, filter, ℕ}
use Rattle.compose_graph.specs.Graph.{InstanceEntry}
use Rattle.compose_graph.specs.Listed.{InstanceList}
use Rattle.compose_graph.proofs.InstanceLaws.{one_removed, counted_kept, kept_mapped}
use Rattle.compose_graph.proofs.instances.Instances.remove.Goals as goal

pub invariant_of-self : goal.invariant_of-self
invariant_of-self c =
    counted_kept (λ (e : ℕ × ℕ). not (c.args.id == e.0)) c.self.inside.components.entries c.remove-component.new.self.entries c.self.inside.next c.self.invariant
    (one_removed c.self.inside.components.entries c.remove-component.new.self.entries c.self.inside.next c.args.id c.self.invariant c.remove-component.ensures.entries)

pub returns : goal.returns
returns c =
    (λ i. record {
      entries = kept_mapped (λ (e : InstanceEntry). not (c.args.id == e.id)) c.self.inside.components.entries c.remove-component.new.self.entries
          (one_removed c.self.inside.components.entries c.remove-component.new.self.entries c.self.inside.next c.args.id c.self.invariant c.remove-component.ensures.entries) i;
      next = c.self.inside.next;
    })
    ∙ ap (λ (l : InstanceList). let m : InstanceList = record { entries = filter (λ (e : InstanceEntry). not (c.args.id == e.id)) l.entries; next = l.next } in m) c.self.view_is
