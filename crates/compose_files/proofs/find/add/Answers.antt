use Rattle.std.proofs.Common.{◌++◌, ◌∷◌, [], ap, sym, ◌∙◌, subst, Some, map}
use Rattle.compose_graph.specs.Graph.{ComponentEntry, GraphTree, component_at}
use Rattle.compose_graph.specs.Kept.{CountUp}
use Rattle.compose_graph.specs.Listed.{entry_of, graph_of}
use Rattle.compose_files.proofs.Added.{last_there}
use Rattle.compose_files.proofs.find.add.Goals as goal

pub returns-in-Ok-clause-there : goal.returns-in-Ok-clause-there
returns-in-Ok-clause-there c =
    let old = graph_of c.args.graph.now in
    let entry = entry_of old.next_component c.args.component in
    let components = ap (λ (g : GraphTree). g.components) c.in-Ok.ensures.added in
    let count = subst (λ (g : GraphTree). CountUp 0 (map (λ (c : ComponentEntry). c.id) g.components) g.next_component) c.in-Ok.ensures.added c.in-Ok.ensures.kept.component_ids in
    ap (λ (cs : _). component_at cs c.in-Ok.id.0) components
    ∙ ap (component_at (old.components ++ entry ∷ [])) c.in-Ok.ensures.id
    ∙ last_there 0 _ old.components entry count
    ∙ ap (λ i. Some (entry_of i c.args.component)) (sym c.in-Ok.ensures.id)
