use Rattle.std.proofs.Common.{◌≡◌, ◌∙◌, ap, sym, subst, length, map, rules}
use Rattle.std.proofs.lemmas.Option.{slice_get_read}
use Rattle.compose_check.specs.Composition.{CompositionTree, IsComposition}
use Rattle.compose_check.specs.declared.error.CheckError.{CheckError}
use Rattle.compose_encode.specs.Whole.{HaveComponentNames, IsEncodeRefusal, IsRefusedBy}
use Rattle.compose_encode.specs.declared.refused.CompositionError.{CompositionError}
use Rattle.compose_graph.specs.Composed.{composed}
use Rattle.compose_graph.specs.Kept.{IsGraph}
use Rattle.compose_graph.specs.Listed.{HeldGraph, graph_of}
use Rattle.compose_graph.specs.Wiring.{instance_id}
use Rattle.compose_graph.proofs.ComposedLaws.{is_composition, on_circle}
use Rattle.compose_graph.proofs.NamedLaws.{apart}
use Rattle.compose_graph.proofs.graph.CompositionGraph.encoded.Goals as goal

pub encode_composition-requires-clause-made : goal.encode_composition-requires-clause-made
encode_composition-requires-clause-made c =
    let graph = subst (λ (g : HeldGraph). IsGraph (graph_of g)) c.self.view_is c.self.invariant in
    subst IsComposition (sym c.in_ok-composition.ensures) (is_composition (graph_of c.args.self.now) graph)

pub encode_composition-requires-clause-names : goal.encode_composition-requires-clause-names
encode_composition-requires-clause-names c =
    let graph = subst (λ (g : HeldGraph). IsGraph (graph_of g)) c.self.view_is c.self.invariant in
    subst HaveComponentNames (sym c.in_ok-composition.ensures) (c.components_apart_have_own_names.ensures (composed (graph_of c.args.self.now)) (apart (graph_of c.args.self.now).components graph.names))

pub index-requires : goal.index-requires
index-requires c =
    let g = graph_of c.args.self.now in
    let define = c.args.options.define_components in
    let ids : c.in_ok-ids.ids.items ≡ map instance_id g.instances = c.in_ok-ids.ensures ∙ ap (λ (h : HeldGraph). map instance_id (graph_of h).instances) c.self.view_is in
    let refused = subst (λ (t : CompositionTree). IsEncodeRefusal t define c.args.export c.in-Err-Refused-Cycle.field-0) c.in_ok-composition.ensures c.in-Err-Refused-Cycle.ensures.refused in
    let judged = subst (λ (e : CompositionError). IsEncodeRefusal (composed g) define c.args.export e) c.in-Err-Refused-Cycle.field-0-is refused in
    let circle = subst (λ (e : CheckError). IsRefusedBy (composed g) define c.args.export e) c.in-Err-Refused-Cycle.field-0-0-is judged in
    let within = on_circle g c.in-Err-Refused-Cycle.place c.in-Err-Refused-Cycle.name circle in
    let same : length c.in_ok-ids.ids.items ≡ length (map instance_id g.instances) = ap length ids in
    search (rules, within, same)

pub returns-in-Err-Refused-Cycle-clause-refused : goal.returns-in-Err-Refused-Cycle-clause-refused
returns-in-Err-Refused-Cycle-clause-refused c =
    let g = graph_of c.args.self.now in
    let define = c.args.options.define_components in
    let ids : c.in_ok-ids.ids.items ≡ map instance_id g.instances = c.in_ok-ids.ensures ∙ ap (λ (h : HeldGraph). map instance_id (graph_of h).instances) c.self.view_is in
    let refused = subst (λ (t : CompositionTree). IsEncodeRefusal t define c.args.export c.in-Err-Refused-Cycle.field-0) c.in_ok-composition.ensures c.in-Err-Refused-Cycle.ensures.refused in
    let judged = subst (λ (e : CompositionError). IsEncodeRefusal (composed g) define c.args.export e) c.in-Err-Refused-Cycle.field-0-is refused in
    let circle = subst (λ (e : CheckError). IsRefusedBy (composed g) define c.args.export e) c.in-Err-Refused-Cycle.field-0-0-is judged in
    let within = on_circle g c.in-Err-Refused-Cycle.place c.in-Err-Refused-Cycle.name circle in
    let same : length c.in_ok-ids.ids.items ≡ length (map instance_id g.instances) = ap length ids in
    record {
      place = c.in-Err-Refused-Cycle.place;
      circle = circle;
      there = slice_get_read (map instance_id g.instances) (length (map instance_id g.instances)) c.in-Err-Refused-Cycle.place c.index.result.now (search rules) within (search (rules, ids));
    }
