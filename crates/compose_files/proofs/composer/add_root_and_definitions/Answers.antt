use Rattle.std.proofs.Common.{◌≡◌, List, ℕ, Some, length, ap, ◌∙◌, subst, refl, inl, inr}
use Rattle.warg_base.specs.Files.{FileMap, file_at}
use Rattle.comp_entity.specs.Entity.{ShapeTree}
use Rattle.comp_shape.specs.Shape.{HasShape}
use Rattle.compose_component.specs.Component.{bytes_of, name_of, shape_of}
use Rattle.compose_graph.specs.Graph.{GraphTree, no_graph, with_component}
use Rattle.compose_graph.specs.Listed.{graph_of}
use Rattle.compose_files.specs.Built.{AfterSteps, Built, DefinesAt, IsAdded, with_graph}
use Rattle.compose_files.specs.Composed.{begun, root_name}
use Rattle.compose_files.specs.Refused.{StopsAtDefinition}
use Rattle.compose_files.specs.View.{built_of, sources}
use Rattle.compose_files.proofs.RefusalSteps.{handed_on}
use Rattle.compose_files.proofs.composer.add_root_and_definitions.Goals as goal

is_rooted : (files : FileMap) (root name bytes : List ℕ) (shape : ShapeTree) (old : Built) (new : GraphTree) → old ≡ begun no_graph → name ≡ root_name → file_at files root ≡ Some bytes → HasShape bytes shape
    → new ≡ with_component old.graph name bytes shape → IsAdded files root root_name shape no_graph new
is_rooted files root name bytes shape old new old_is name_is found shaped added = record {
  bytes = bytes;
  found = found;
  shaped = shaped;
  free = refl;
  added = added ∙ (λ k. with_component (old_is k).graph (name_is k) bytes shape);
}

pub returns-in_err-define_all-clause-refused : goal.returns-in_err-define_all-clause-refused
returns-in_err-define_all-clause-refused g c =
    let graph = graph_of c.add.new.graph in
    let component = c.in_ok-component.component in
    handed_on c.from_residual-in_err-define_all.result c.in_err-define_all.field-0.0 _ c.from_residual-in_err-define_all.ensures.1
    (λ held told. inr (inl (record {
      shape = shape_of component;
      graph = graph;
      rooted = is_rooted held c.args.root.now (name_of component) (bytes_of component) (shape_of component) _ graph c.requires c.in_ok-component.ensures.named (c.in_ok-component.ensures.found held told) c.in_ok-component.ensures.shaped c.in_ok-id.ensures.added;
      refused = subst (λ (b : Built). StopsAtDefinition (sources c.args.config.now held) b c.in_err-define_all.field-0.0) (ap (λ (b : Built). with_graph b graph) c.requires)
          (c.in_err-define_all.ensures.refused held (c.in_ok-component.ensures.kept ∙ told));
    })))

pub returns-clause-defined : goal.returns-clause-defined
returns-clause-defined g c = λ held told.
    let graph = graph_of c.add.new.graph in
    let component = c.in_ok-component.component in
    record {
      shape = shape_of component;
      graph = graph;
      rooted = is_rooted held c.args.root.now (name_of component) (bytes_of component) (shape_of component) _ graph c.requires c.in_ok-component.ensures.named (c.in_ok-component.ensures.found held told) c.in_ok-component.ensures.shaped c.in_ok-id.ensures.added;
      defines = subst (λ (b : Built). AfterSteps (DefinesAt (sources c.args.config.now held)) b (length c.args.config.now.definitions.items) (built_of c.define_all.new.builder)) (ap (λ (b : Built). with_graph b graph) c.requires)
          (c.in_ok-define_all.ensures.defined held (c.in_ok-component.ensures.kept ∙ told));
    }
