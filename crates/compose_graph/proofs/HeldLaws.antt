-- Graphs as they are held.
use Rattle.std.proofs.Common.{◌≡◌, ◌∙◌, sym, subst, ℕ, suc, true, List, [], ◌∷◌, ◌++◌, None}
use Rattle.std.specs.Prelude.{◌==◌, not, filter, is_some}
use Rattle.std.proofs.lemmas.List.{map-append}
use Rattle.compose_component.specs.Component.{name_of, bytes_of, shape_of}
use Rattle.compose_component.specs.declared.component.Component.{Component}
use Rattle.compose_graph.specs.Graph.{InstanceEntry, component_at, component_named, connect_fault, touches, touches_any_of, with_component, without_component, without_instance, is_between}
use Rattle.compose_graph.specs.Listed.{HeldComponent, ComponentList, InstanceList, component_entry, component_entries, graph_of, held_component, held_graph}
use Rattle.compose_graph.specs.declared.connection.Connection.{Connection}
use Rattle.compose_graph.specs.Kept.{IsGraph}
use Rattle.compose_graph.proofs.GraphLaws.{graph_added, graph_instantiated, graph_connected, graph_disconnected, instance_removed, component_removed}
use Rattle.compose_graph.proofs.PartLaws.{entries_filtered}

module _ (cs ds : ComponentList) (is js : InstanceList) (ks ls : List Connection) where
  pub held_added : (c : Component) → ds ≡ record { entries = cs.entries ++ held_component cs.next c ∷ []; next = suc cs.next }
      → graph_of (held_graph ds is ks) ≡ with_component (graph_of (held_graph cs is ks)) (name_of c) (bytes_of c) (shape_of c)
  held_added c e =
      (λ i. graph_of (held_graph (e i) is ks))
      ∙ (λ i. record {
        components = map-append component_entry cs.entries (held_component cs.next c ∷ []) i;
        instances = is.entries;
        connections = ks;
        next_component = suc cs.next;
        next_instance = is.next;
      })

  pub held_without_component : (id : ℕ) → ds ≡ record { entries = filter (λ (c : HeldComponent). not (id == c.id)) cs.entries; next = cs.next } → js ≡ record { entries = filter (λ (i : InstanceEntry). not (i.component == id)) is.entries; next = is.next }
      → ls ≡ filter (λ c. not (touches_any_of is.entries id c)) ks → graph_of (held_graph ds js ls) ≡ without_component (graph_of (held_graph cs is ks)) id
  held_without_component id e f k =
      (λ i. graph_of (held_graph (e i) (f i) (k i)))
      ∙ (λ i. record {
        components = entries_filtered id cs.entries i;
        instances = filter (λ (i : InstanceEntry). not (i.component == id)) is.entries;
        connections = filter (λ c. not (touches_any_of is.entries id c)) ks;
        next_component = cs.next;
        next_instance = is.next;
      })

-- ---- what is kept, as it is held

module _ (cs ds : ComponentList) (is js : InstanceList) (ks ls : List Connection) (k : IsGraph (graph_of (held_graph cs is ks))) where
  pub kept_added : (c : Component) → ds ≡ record { entries = cs.entries ++ held_component cs.next c ∷ []; next = suc cs.next } → component_named (component_entries cs.entries) (name_of c) ≡ None → IsGraph (graph_of (held_graph ds is ks))
  kept_added c e free = subst IsGraph (sym (held_added cs ds is js ks ls c e)) (graph_added (graph_of (held_graph cs is ks)) k (name_of c) (bytes_of c) (shape_of c) free)

  pub kept_instantiated : (component : ℕ) → js ≡ record { entries = is.entries ++ (record { id = is.next; component = component }) ∷ []; next = suc is.next } → is_some (component_at (component_entries cs.entries) component) ≡ true → IsGraph (graph_of (held_graph cs js ks))
  kept_instantiated component e there = subst (λ (l : InstanceList). IsGraph (graph_of (held_graph cs l ks))) (sym e) (graph_instantiated (graph_of (held_graph cs is ks)) k component there)

  pub kept_connected : (c : Connection) → ls ≡ ks ++ c ∷ [] → connect_fault (graph_of (held_graph cs is ks)) c ≡ None → IsGraph (graph_of (held_graph cs is ls))
  kept_connected c e fits = subst (λ (l : List Connection). IsGraph (graph_of (held_graph cs is l))) (sym e) (graph_connected (graph_of (held_graph cs is ks)) k c fits)

  pub kept_disconnected : (source target import : ℕ) → ls ≡ filter (λ c. not (is_between source target import c)) ks → IsGraph (graph_of (held_graph cs is ls))
  kept_disconnected source target import e = subst (λ (l : List Connection). IsGraph (graph_of (held_graph cs is l))) (sym e) (graph_disconnected (graph_of (held_graph cs is ks)) k source target import)

  pub kept_without_instance : (id : ℕ) → js ≡ record { entries = filter (λ (i : InstanceEntry). not (id == i.id)) is.entries; next = is.next } → ls ≡ filter (λ c. not (touches id c)) ks → IsGraph (graph_of (held_graph cs js ls))
  kept_without_instance id e f =
      let again : graph_of (held_graph cs js ls) ≡ without_instance (graph_of (held_graph cs is ks)) id = λ i. graph_of (held_graph cs (e i) (f i)) in
      subst IsGraph (sym again) (instance_removed (graph_of (held_graph cs is ks)) k id)

  pub kept_without_component : (id : ℕ) → ds ≡ record { entries = filter (λ (c : HeldComponent). not (id == c.id)) cs.entries; next = cs.next } → js ≡ record { entries = filter (λ (i : InstanceEntry). not (i.component == id)) is.entries; next = is.next }
      → ls ≡ filter (λ c. not (touches_any_of is.entries id c)) ks → IsGraph (graph_of (held_graph ds js ls))
  kept_without_component id e f l = subst IsGraph (sym (held_without_component cs ds is js ks ls id e f l)) (component_removed (graph_of (held_graph cs is ks)) k id)
