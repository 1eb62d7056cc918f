use Rattle.std.proofs.Common.{ℕ, List, ap, sym, ◌∙◌, subst, inl, inr}
use Rattle.std.proofs.lemmas.List.{length-map}
use Rattle.std.proofs.lemmas.Result.{on_ok_weaker, IfErr-weaker}
use Rattle.comp_entity.specs.Entity.{EntityTree}
use Rattle.compose_component.specs.Component.{shape_of}
use Rattle.compose_graph.specs.Graph.{component_of}
use Rattle.compose_files.specs.Built.{AfterSteps, import_names}
use Rattle.compose_files.specs.Composed.{ServesAt}
use Rattle.compose_files.specs.View.{built_of, sources}
use Rattle.compose_files.specs.declared.error.ComposerError.TheVariants as error
use Rattle.compose_files.proofs.OwnFits.{entry_there}
use Rattle.compose_files.proofs.RefusalSteps.{handed_on, served_as, stops_as}
use Rattle.compose_files.proofs.serve.take_turn.Goals as goal

pub returns-in_err-name-clause-refused : goal.returns-in_err-name-clause-refused
returns-in_err-name-clause-refused g c =
    handed_on c.from_residual.result error.Memory _ c.from_residual.ensures.1
    (λ held told. record { name = c.in-Some.name.now; id = c.in-Some.id.now; there = sym c.in-Some.ensures.entry; refused = inl tt })

pub returns-in_err-names-clause-refused : goal.returns-in_err-names-clause-refused
returns-in_err-names-clause-refused g c =
    handed_on c.from_residual-in_err-names.result error.Memory _ c.from_residual-in_err-names.ensures.1
    (λ held told. record { name = c.in-Some.name.now; id = c.in-Some.id.now; there = sym c.in-Some.ensures.entry; refused = inl tt })

pub returns-clause-served : goal.returns-clause-served
returns-clause-served g c =
    let old = built_of c.args.builder.now in
    let new = built_of c.serve_each.new.builder in
    let here = entry_there (component_of old.graph c.in-Some.id.now) (shape_of c.in_ok-component_of.field-0.now) c.in_ok-component_of.ensures.found in
    let names = c.deref.ensures.value ∙ c.in_ok-names.ensures ∙ ap import_names (sym here.2) in
    let first : List ℕ × EntityTree → List ℕ = λ i. i.0 in
    on_ok_weaker c.serve_each.result (λ served held told. record {
      name = c.in-Some.name.now;
      id = c.in-Some.id.now;
      there = sym c.in-Some.ensures.entry;
      component = here.0;
      made_from = here.1;
      served = subst (λ (n : ℕ). AfterSteps (ServesAt (sources c.args.config.now held) c.in-Some.name.now c.in-Some.id.now (import_names here.0.shape)) old n new) (length-map here.0.shape.imports first)
          (served_as (sources c.args.config.now held) c.in_ok-name.name c.in-Some.name.now c.in-Some.id.now c.deref.result.now (import_names here.0.shape) old new c.in_ok-name.ensures names (served held told));
    }) c.serve_each.ensures.served

pub returns-clause-refused : goal.returns-clause-refused
returns-clause-refused g c =
    let old = built_of c.args.builder.now in
    let here = entry_there (component_of old.graph c.in-Some.id.now) (shape_of c.in_ok-component_of.field-0.now) c.in_ok-component_of.ensures.found in
    let names = c.deref.ensures.value ∙ c.in_ok-names.ensures ∙ ap import_names (sym here.2) in
    IfErr-weaker c.serve_each.result _ _ (λ e stops held told. record {
      name = c.in-Some.name.now;
      id = c.in-Some.id.now;
      there = sym c.in-Some.ensures.entry;
      refused = inr (record {
        component = here.0;
        made_from = here.1;
        refused = stops_as (sources c.args.config.now held) c.in_ok-name.name c.in-Some.name.now c.in-Some.id.now c.deref.result.now (import_names here.0.shape) old e c.in_ok-name.ensures names (stops held told);
      });
    }) c.serve_each.ensures.refused
