use Rattle.std.proofs.Common.{◌≡◌, ◌∙◌, ap, sym, subst, length, map, rules}
use Rattle.std.proofs.lemmas.Option.{slice_get_read}
use Rattle.compose_check.specs.Checked.{IsCheckRefusal, IsSound}
use Rattle.compose_check.specs.Composition.{CompositionTree, IsComposition}
use Rattle.compose_check.specs.declared.error.CheckError.{CheckError}
use Rattle.compose_order.specs.Known.{left_tree}
use Rattle.compose_graph.specs.Composed.{composed}
use Rattle.compose_graph.specs.Kept.{IsGraph}
use Rattle.compose_graph.specs.Listed.{HeldGraph, graph_of}
use Rattle.compose_graph.specs.Wiring.{instance_id}
use Rattle.compose_graph.proofs.ComposedLaws.{is_composition, on_circle}
use Rattle.compose_graph.proofs.graph.CompositionGraph.check.Goals as goal

pub check-requires : goal.check-requires
check-requires c =
    subst IsComposition (sym c.in_ok-composition.ensures)
    (is_composition (graph_of c.args.self.now) (subst (λ (g : HeldGraph). IsGraph (graph_of g)) c.self.view_is c.self.invariant))

pub returns-in-Ok-clause-sound : goal.returns-in-Ok-clause-sound
returns-in-Ok-clause-sound c = record {
  order = c.in-Ok._agreed.order.items;
  lefts = map left_tree c.in-Ok._agreed.lefts.items;
  sound = subst (λ (t : CompositionTree). IsSound t c.in-Ok._agreed.order.items (map left_tree c.in-Ok._agreed.lefts.items)) c.in_ok-composition.ensures c.in-Ok.ensures.sound;
}

pub index-requires : goal.index-requires
index-requires c =
    let g = graph_of c.args.self.now in
    let ids : c.in_ok-ids.ids.items ≡ map instance_id g.instances = c.in_ok-ids.ensures ∙ ap (λ (h : HeldGraph). map instance_id (graph_of h).instances) c.self.view_is in
    let circle = subst (λ (e : CheckError). IsCheckRefusal (composed g) e) c.in-Err-Cycle.field-0-is (subst (λ (t : CompositionTree). IsCheckRefusal t c.in-Err-Cycle.field-0) c.in_ok-composition.ensures c.in-Err-Cycle.ensures.refused) in
    let within = on_circle g c.in-Err-Cycle.place c.in-Err-Cycle.name circle in
    let same : length c.in_ok-ids.ids.items ≡ length (map instance_id g.instances) = ap length ids in
    search (rules, within, same)

pub returns-in-Err-Cycle-clause-refused : goal.returns-in-Err-Cycle-clause-refused
returns-in-Err-Cycle-clause-refused c =
    let g = graph_of c.args.self.now in
    let ids : c.in_ok-ids.ids.items ≡ map instance_id g.instances = c.in_ok-ids.ensures ∙ ap (λ (h : HeldGraph). map instance_id (graph_of h).instances) c.self.view_is in
    let circle = subst (λ (e : CheckError). IsCheckRefusal (composed g) e) c.in-Err-Cycle.field-0-is (subst (λ (t : CompositionTree). IsCheckRefusal t c.in-Err-Cycle.field-0) c.in_ok-composition.ensures c.in-Err-Cycle.ensures.refused) in
    let within = on_circle g c.in-Err-Cycle.place c.in-Err-Cycle.name circle in
    let same : length c.in_ok-ids.ids.items ≡ length (map instance_id g.instances) = ap length ids in
    record {
      place = c.in-Err-Cycle.place;
      circle = circle;
      there = slice_get_read (map instance_id g.instances) (length (map instance_id g.instances)) c.in-Err-Cycle.place c.index.result.now (search rules) within (search (rules, ids));
    }
