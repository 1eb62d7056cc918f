use Rattle.std.proofs.Common.{ℕ, ap, ◌∙◌, subst, refl, inl, inr}
use Rattle.std.proofs.lemmas.Result.{on_ok_weaker, IfErr-weaker}
use Rattle.compose_config.specs.View.{settings_of}
use Rattle.compose_graph.specs.Listed.{graph_of}
use Rattle.compose_graph.specs.Refusal.{IsInstantiateRefusal}
use Rattle.compose_files.specs.Built.{Built, with_named}
use Rattle.compose_files.specs.Composed.{root_name}
use Rattle.compose_files.specs.Refusals.{IsGraphRefusal}
use Rattle.compose_files.specs.View.{built_of}
use Rattle.compose_files.proofs.RefusalSteps.{argument_as, good_as, handed_on, imports_as, some_as}
use Rattle.compose_files.proofs.composer.start.Goals as goal

pub returns-in_err-instance-clause-refused : goal.returns-in_err-instance-clause-refused
returns-in_err-instance-clause-refused g c =
    let defined = built_of c.add_root_and_definitions.new.builder in
    handed_on c.from_residual-in_err-instance.result c.in_err-instance.field-0.0 _ c.from_residual-in_err-instance.ensures.1
    (λ held told. inr (inr (record {
      defined = defined;
      has_defined = c.in_ok-id.ensures.defined held told;
      refused = inl (subst (λ (n : ℕ). IsGraphRefusal (IsInstantiateRefusal defined.graph n) c.in_err-instance.field-0.0) c.in_ok-id.ensures.id c.in_err-instance.ensures.refused);
    })))

pub returns-in_err-check_arguments-clause-refused : goal.returns-in_err-check_arguments-clause-refused
returns-in_err-check_arguments-clause-refused g c =
    let defined = built_of c.add_root_and_definitions.new.builder in
    let made_is = c.in_ok-instance.ensures.made ∙ ap (with_named defined root_name) c.in_ok-id.ensures.id in
    handed_on c.from_residual-in_err-check_arguments.result c.in_err-check_arguments.field-0.0 _ c.from_residual-in_err-check_arguments.ensures.1
    (λ held told. inr (inr (record {
      defined = defined;
      has_defined = c.in_ok-id.ensures.defined held told;
      refused = inr (inl (argument_as (settings_of c.args.config.now) (graph_of c.make_named.new.builder.graph) (with_named defined root_name 0).graph c.in_ok-name.name root_name c.in_ok-instance.instance.0 defined.graph.next_instance
          c.in_err-check_arguments.field-0.0 (ap (λ (b : Built). b.graph) made_is) c.in_ok-name.ensures c.in_ok-instance.ensures.id c.in_err-check_arguments.ensures.refused));
    })))

pub returns-clause-refused : goal.returns-clause-refused
returns-clause-refused g c =
    let defined = built_of c.add_root_and_definitions.new.builder in
    let made_is = c.in_ok-instance.ensures.made ∙ ap (with_named defined root_name) c.in_ok-id.ensures.id in
    IfErr-weaker c.check_imports.result _ _ (λ e refused held told. inr (inr (record {
      defined = defined;
      has_defined = c.in_ok-id.ensures.defined held told;
      refused = inr (inr (record {
        arguments_good = good_as (settings_of c.args.config.now) (graph_of c.make_named.new.builder.graph) (with_named defined root_name 0).graph c.in_ok-name.name root_name c.in_ok-instance.instance.0 defined.graph.next_instance
            (ap (λ (b : Built). b.graph) made_is) c.in_ok-name.ensures c.in_ok-instance.ensures.id c.in_ok-check_arguments.ensures.good;
        refused = imports_as (graph_of c.make_named.new.builder.graph) (with_named defined root_name 0).graph c.in_ok-instance.instance.0 defined.graph.next_instance e
            (ap (λ (b : Built). b.graph) made_is) c.in_ok-instance.ensures.id refused;
      }));
    }))) c.check_imports.ensures.refused

pub returns-clause-started : goal.returns-clause-started
returns-clause-started g c =
    let defined = built_of c.add_root_and_definitions.new.builder in
    let made_is = c.in_ok-instance.ensures.made ∙ ap (with_named defined root_name) c.in_ok-id.ensures.id in
    on_ok_weaker c.check_imports.result (λ some held told. record {
      defined = defined;
      has_defined = c.in_ok-id.ensures.defined held told;
      instantiated = made_is;
      arguments_good = good_as (settings_of c.args.config.now) (graph_of c.make_named.new.builder.graph) _ c.in_ok-name.name root_name c.in_ok-instance.instance.0 defined.graph.next_instance
          refl c.in_ok-name.ensures c.in_ok-instance.ensures.id c.in_ok-check_arguments.ensures.good;
      imports_some = some_as (graph_of c.make_named.new.builder.graph) _ c.in_ok-instance.instance.0 defined.graph.next_instance refl c.in_ok-instance.ensures.id some;
    }) c.check_imports.ensures.some
