use Rattle.std.proofs.Common.{ap, sym, ◌∙◌, refl, inr, Some, None, option_map}
use Rattle.compose_graph.specs.Listed.{graph_of}
use Rattle.compose_graph.specs.declared.ids.ComponentId.{ComponentId}
use Rattle.compose_files.specs.Built.{with_graph, with_named}
use Rattle.compose_files.specs.View.{built_of, sources}
use Rattle.compose_files.proofs.RefusalSteps.{at_none, found_as, handed_on}
use Rattle.compose_files.proofs.serve.instance_for.Goals as goal

pub returns-in_default-2-clause-found : goal.returns-in_default-2-clause-found
returns-in_default-2-clause-found g c = λ held told.
    at_none _ _ _ (sym c.in_default.ensures.value) (record {
      component = None;
      graph = graph_of c.component_for.new.graph;
      found = found_as (sources c.args.config.now held) _ _ (graph_of c.args.builder.now.graph) _ _ (graph_of c.component_for.new.graph) c.dependency_of-component_name.ensures
          (ap (option_map (λ (i : ComponentId). i.0)) c.in_default-2.is) (c.in_ok-component.ensures.found held told);
      made = (refl, refl);
    })

pub returns-in_err-id-clause-refused : goal.returns-in_err-id-clause-refused
returns-in_err-id-clause-refused g c =
    handed_on c.from_residual-in_err-id.result c.in_err-id.field-0.0 _ c.from_residual-in_err-id.ensures.1
    (λ held told. record {
      absent = sym c.in_default.ensures.value;
      refused = inr (record {
        component = c.in-Some-2.component.0;
        graph = graph_of c.component_for.new.graph;
        found = found_as (sources c.args.config.now held) _ _ (graph_of c.args.builder.now.graph) _ _ (graph_of c.component_for.new.graph) c.dependency_of-component_name.ensures
            (ap (option_map (λ (i : ComponentId). i.0)) c.in-Some-2.is) (c.in_ok-component.ensures.found held told);
        refused = c.in_err-id.ensures.refused;
      });
    })

pub returns-clause-found : goal.returns-clause-found
returns-clause-found g c = λ held told.
    at_none _ _ _ (sym c.in_default.ensures.value) (record {
      component = Some c.in-Some-2.component.0;
      graph = graph_of c.component_for.new.graph;
      found = found_as (sources c.args.config.now held) _ _ (graph_of c.args.builder.now.graph) _ _ (graph_of c.component_for.new.graph) c.dependency_of-component_name.ensures
          (ap (option_map (λ (i : ComponentId). i.0)) c.in-Some-2.is) (c.in_ok-component.ensures.found held told);
      made = (
        ap (λ i. Some i) c.in_ok-id.ensures.id,
        c.in_ok-id.ensures.made ∙ ap (λ n. with_named (with_graph (built_of c.args.builder.now) (graph_of c.component_for.new.graph)) n c.in-Some-2.component.0) c.as_str.ensures,
      );
    })
