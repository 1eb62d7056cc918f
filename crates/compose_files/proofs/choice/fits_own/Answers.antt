use Rattle.std.proofs.Common.{ℕ, List, ap, arith, length}
use Rattle.std.proofs.lemmas.List.{length-map}
use Rattle.comp_entity.specs.Entity.{EntityTree, ShapeTree}
use Rattle.comp_entity.specs.Views.{entity_tree}
use Rattle.comp_entity.specs.declared.entity.Entity.{Entity}
use Rattle.compose_graph.specs.Listed.{graph_of}
use Rattle.compose_component.specs.Component.{shape_of}
use Rattle.compose_files.specs.Needs.{need_of}
use Rattle.compose_files.proofs.OwnFits.{own_judged}
use Rattle.compose_files.proofs.choice.fits_own.Goals as goal

pub returns-clause-judged : goal.returns-clause-judged
returns-clause-judged c =
    let seen : List ℕ × Entity → List ℕ × EntityTree = λ e. (e.0, entity_tree e.1) in
    let as_long = ap (λ (s : ShapeTree). length s.imports) c.types.ensures.value in
    own_judged (graph_of c.args.graph.now) c.args.source.0 _ (need_of c.args.need.now) _ (shape_of c.in_ok-component.component.now) c.requires c.in_ok-component.ensures.found
    (omega (arith, as_long, c.len.ensures, c.if-need-len.false, length-map c.types.result.now.imports.items seen))
    c.in_ok-fits_itself.ensures
