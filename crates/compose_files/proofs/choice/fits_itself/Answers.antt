use Rattle.std.proofs.Common.{ℕ, List, ap, sym, ◌∙◌, subst, option_map}
use Rattle.std.proofs.Math.Logic.{∥∥₁_elim}
use Rattle.std.proofs.Props.{props}
use Rattle.comp_entity.specs.Entity.{ShapeTree}
use Rattle.comp_shape.specs.Shape.{HasShape}
use Rattle.compose_component.specs.Component.{bytes_of, name_of, shape_of}
use Rattle.compose_component.specs.declared.export.ExportIndex.{ExportIndex}
use Rattle.compose_graph.specs.Graph.{ConnectFault}
use Rattle.compose_graph.specs.Listed.{graph_of}
use Rattle.compose_graph.specs.Refusal.{IsConnectRefusal}
use Rattle.std.proofs.Common.{Option}
use Rattle.compose_files.proofs.OwnFits.{own_bad, own_fault, own_good, pair_fault}
use Rattle.compose_files.proofs.choice.fits_itself.Goals as goal

pub returns-in-Ok-validate_connection : goal.returns-in-Ok-validate_connection
returns-in-Ok-validate_connection c = λ asked at.
    ∥∥₁_elim (c.a_component_has_the_shape_of_its_bytes.ensures c.args.component.now) (hlevel props) (λ has.
    let copy = shape_of c.in-Ok.copy in
    let export = option_map (λ (e : ExportIndex). e.0) c.args.export in
    let read = subst (λ (b : List ℕ). HasShape b copy) c.bytes.ensures.value c.in-Ok.ensures.read.shown.has_shape in
    let same = c.one_shape.ensures (bytes_of c.args.component.now) copy (shape_of c.args.component.now) read has in
    let fault = pair_fault (graph_of c.new-graph.result) (graph_of c.add_component.new.self) (graph_of c.instantiate.new.self) (graph_of c.instantiate-2.new.self)
    (name_of c.in-Ok.copy) (bytes_of c.in-Ok.copy) copy c.in-Ok-add_component.id.0 c.in-Ok-instantiate.source.0 c.in-Ok-instantiate-2.target.0 export c.args.import.0
    c.new-graph.ensures c.in-Ok-add_component.ensures.added c.in-Ok-add_component.ensures.id c.in-Ok-instantiate.ensures.made c.in-Ok-instantiate.ensures.id
    c.in-Ok-instantiate-2.ensures.made c.in-Ok-instantiate-2.ensures.id in
    own_good (shape_of c.args.component.now) export c.args.import.0
    (ap (λ (s : ShapeTree). own_fault s export c.args.import.0) (sym same) ∙ sym fault ∙ c.in-Ok-validate_connection.ensures.fits) asked at)

pub returns : goal.returns
returns c = λ asked at.
    ∥∥₁_elim (c.a_component_has_the_shape_of_its_bytes.ensures c.args.component.now) (hlevel props) (λ has.
    let copy = shape_of c.in-Ok.copy in
    let export = option_map (λ (e : ExportIndex). e.0) c.args.export in
    let read = subst (λ (b : List ℕ). HasShape b copy) c.bytes.ensures.value c.in-Ok.ensures.read.shown.has_shape in
    let same = c.one_shape.ensures (bytes_of c.args.component.now) copy (shape_of c.args.component.now) read has in
    let fault = pair_fault (graph_of c.new-graph.result) (graph_of c.add_component.new.self) (graph_of c.instantiate.new.self) (graph_of c.instantiate-2.new.self)
    (name_of c.in-Ok.copy) (bytes_of c.in-Ok.copy) copy c.in-Ok-add_component.id.0 c.in-Ok-instantiate.source.0 c.in-Ok-instantiate-2.target.0 export c.args.import.0
    c.new-graph.ensures c.in-Ok-add_component.ensures.added c.in-Ok-add_component.ensures.id c.in-Ok-instantiate.ensures.made c.in-Ok-instantiate.ensures.id
    c.in-Ok-instantiate-2.ensures.made c.in-Ok-instantiate-2.ensures.id in
    own_bad (shape_of c.args.component.now) export c.args.import.0 c.in-Err.error c.in_default-error.not-Memory
    (subst (λ (f : Option ConnectFault). IsConnectRefusal f c.in-Err.error) (fault ∙ ap (λ (s : ShapeTree). own_fault s export c.args.import.0) same) c.in-Err.ensures.refused) asked at)
