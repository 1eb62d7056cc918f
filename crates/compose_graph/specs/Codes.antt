-- The codes of what graphs are held as, by which proofs tell them apart.
use Rattle.std.specs.Prelude.{◌≡◌, ℕ, List, [], ◌∷◌, map, Option, refl}
use Rattle.std.specs.Coded.{Coded, code_by, coded_ℕ, coded_list, coded_option, coded×}
use Rattle.comp_entity.specs.declared.entity.Shape.{Shape}
use Rattle.compose_graph.specs.Graph.{InstanceEntry}
use Rattle.compose_graph.specs.Listed.{ComponentList, HeldComponent, HeldGraph, InstanceList, held_graph, instance_entry, instance_list}
use Rattle.compose_graph.specs.declared.connection.Connection.{Connection}

pairs_again : (is : List InstanceEntry) → map instance_entry (map (λ (i : InstanceEntry). (i.id, i.component)) is) ≡ is
pairs_again [] = refl
pairs_again (i ∷ is) = λ j. i ∷ pairs_again is j

pub instances_again : (l : InstanceList) → instance_list (map (λ (i : InstanceEntry). (i.id, i.component)) l.entries) l.next ≡ l
instances_again l = λ j. record { entries = pairs_again l.entries j; next = l.next }

abbrev pub held_code : Coded Shape → Coded HeldComponent
held_code shape =
    code_by (ℕ × (List ℕ × (List ℕ × Shape))) (coded× coded_ℕ (coded× (coded_list coded_ℕ) (coded× (coded_list coded_ℕ) shape)))
    (λ c. (c.id, (c.name, (c.bytes, c.shape)))) (λ p. record { id = p.0; name = p.1.0; bytes = p.1.1.0; shape = p.1.1.1 }) (λ _. refl)

abbrev pub component_list_code : Coded Shape → Coded ComponentList
component_list_code shape =
    code_by (List HeldComponent × ℕ) (coded× (coded_list (held_code shape)) coded_ℕ) (λ l. (l.entries, l.next))
    (λ p. record { entries = p.0; next = p.1 }) (λ _. refl)

abbrev pub instance_list_code : Coded InstanceList
instance_list_code =
    code_by (List (ℕ × ℕ) × ℕ) (coded× (coded_list (coded× coded_ℕ coded_ℕ)) coded_ℕ)
    (λ l. (map (λ (i : InstanceEntry). (i.id, i.component)) l.entries, l.next)) (λ p. instance_list p.0 p.1) instances_again

abbrev pub connection_code : Coded Connection
connection_code =
    code_by (ℕ × (Option ℕ × (ℕ × ℕ))) (coded× coded_ℕ (coded× (coded_option coded_ℕ) (coded× coded_ℕ coded_ℕ)))
    (λ c. (c.source, (c.export, (c.target, c.import)))) (λ p. record { source = p.0; export = p.1.0; target = p.1.1.0; import = p.1.1.1 }) (λ _. refl)

abbrev pub held_graph_code : Coded Shape → Coded HeldGraph
held_graph_code shape =
    code_by (ComponentList × (InstanceList × List Connection)) (coded× (component_list_code shape) (coded× instance_list_code (coded_list connection_code)))
    (λ g. (g.components, (g.instances, g.connections))) (λ p. held_graph p.0 p.1.0 p.1.1) (λ _. refl)
