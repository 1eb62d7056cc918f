use Rattle.std.proofs.Common.{rules, ◌∙◌, ap}
use Rattle.std.specs.Prelude.{◌==◌, not, filter, ℕ}
use Rattle.std.proofs.lemmas.Map.Made.{filter_same_pairs}
use Rattle.compose_graph.specs.Graph.{InstanceEntry}
use Rattle.compose_graph.specs.Listed.{InstanceList}
use Rattle.compose_graph.proofs.InstanceLaws.{counted_kept, kept_mapped}
use Rattle.compose_graph.proofs.instances.Instances.remove_of.Goals as goal

pub invariant_of-self : goal.invariant_of-self
invariant_of-self c =
    counted_kept (λ (e : ℕ × ℕ). not (e.1 == c.args.component)) c.self.inside.components.entries c.retain.new.self.entries c.self.inside.next c.self.invariant
    (filter_same_pairs _ (λ (e : ℕ × ℕ). not (e.1 == c.args.component)) _ (λ k v b w f' t. search rules) _ _ c.retain.ensures.filtered)

pub returns : goal.returns
returns c =
    (λ i. record {
      entries = kept_mapped (λ (e : InstanceEntry). not (e.component == c.args.component)) c.self.inside.components.entries c.retain.new.self.entries
          (filter_same_pairs _ (λ (e : ℕ × ℕ). not (e.1 == c.args.component)) _ (λ k v b w f' t. search rules) _ _ c.retain.ensures.filtered) i;
      next = c.self.inside.next;
    })
    ∙ ap (λ (l : InstanceList). let m : InstanceList = record { entries = filter (λ (e : InstanceEntry). not (e.component == c.args.component)) l.entries; next = l.next } in m) c.self.view_is
