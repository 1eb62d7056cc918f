use Rattle.std.proofs.Common.{ℕ, ap, sym, ◌∙◌, subst, refl, inl, inr, Some, None, Option, option_map, option_copied}
use Rattle.std.proofs.lemmas.Bool.{false≢true}
use Rattle.std.proofs.lemmas.Result.{IfErr-weaker}
use Rattle.compose_graph.specs.Graph.{connect_fault}
use Rattle.compose_graph.specs.Listed.{graph_of}
use Rattle.compose_graph.specs.Refusal.{IsConnectRefusal}
use Rattle.compose_graph.specs.declared.ids.InstanceId.{InstanceId}
use Rattle.compose_component.specs.declared.export.ExportIndex.{ExportIndex}
use Rattle.compose_files.specs.Built.{IsInstanceFor, connection, with_graph}
use Rattle.compose_files.specs.Needs.{need_of}
use Rattle.compose_files.specs.Refusals.{CannotBeGiven}
use Rattle.compose_files.specs.View.{built_of, sources}
use Rattle.compose_files.proofs.RefusalSteps.{handed_on, need_weaker, ok_both, unnamed_is}
use Rattle.compose_files.proofs.serve.take_instance.Goals as goal
use Rattle.compose_files.proofs.serve.take_instance.Goals.{then-is_new+in_ok-check_arguments, else-is_new}

pub returns-in_default-clause-served : goal.returns-in_default-clause-served
returns-in_default-clause-served g c =
    ok_both c.leave.result c.leave.ensures.allowed c.leave.ensures.no_export (λ allowed no_export held told. record {
      source = None;
      with_source = built_of c.instance_for.new.builder;
      found = subst (λ (o : Option ℕ). IsInstanceFor (sources c.args.config.now held) c.args.name.now (built_of c.args.builder.now) o (built_of c.instance_for.new.builder))
          (ap (option_map (λ (i : InstanceId). i.0)) c.in_default.is) (c.in_ok-source.ensures.found held told);
      served = record { allowed = allowed; no_export = no_export; unchanged = refl };
    })

pub returns-in_default-clause-refused : goal.returns-in_default-clause-refused
returns-in_default-clause-refused g c =
    IfErr-weaker c.leave.result _ _ (λ e refused held told. inr (record {
      source = None;
      with_source = built_of c.instance_for.new.builder;
      found = subst (λ (o : Option ℕ). IsInstanceFor (sources c.args.config.now held) c.args.name.now (built_of c.args.builder.now) o (built_of c.instance_for.new.builder))
          (ap (option_map (λ (i : InstanceId). i.0)) c.in_default.is) (c.in_ok-source.ensures.found held told);
      refused = refused;
    })) c.leave.ensures.refused

pub returns-in_err-given-clause-refused : goal.returns-in_err-given-clause-refused
returns-in_err-given-clause-refused g c =
    handed_on c.from_residual-in_err-given.result c.in_err-given.field-0.0 _ c.from_residual-in_err-given.ensures.1
    (λ held told. inr (record {
      source = Some c.in-Some.source.0;
      with_source = built_of c.instance_for.new.builder;
      found = subst (λ (o : Option ℕ). IsInstanceFor (sources c.args.config.now held) c.args.name.now (built_of c.args.builder.now) o (built_of c.instance_for.new.builder))
          (ap (option_map (λ (i : InstanceId). i.0)) c.in-Some.is) (c.in_ok-source.ensures.found held told);
      refused = inl c.in_err-given.ensures.refused;
    }))

pub returns-in_err-connect-clause-refused : goal.returns-in_err-connect-clause-refused
returns-in_err-connect-clause-refused g c =
    let need = need_of c.args.need.now in
    let graph = graph_of c.instance_for.new.builder.graph in
    let export = option_map (λ (e : ExportIndex). e.0) c.in_ok-given.given in
    handed_on c.from_residual-in_err-connect.result c.in_err-connect.field-0.0 _ c.from_residual-in_err-connect.ensures.1
    (λ held told. inr (record {
      source = Some c.in-Some.source.0;
      with_source = built_of c.instance_for.new.builder;
      found = subst (λ (o : Option ℕ). IsInstanceFor (sources c.args.config.now held) c.args.name.now (built_of c.args.builder.now) o (built_of c.instance_for.new.builder))
          (ap (option_map (λ (i : InstanceId). i.0)) c.in-Some.is) (c.in_ok-source.ensures.found held told);
      refused = inr (inl (need_weaker need (IsConnectRefusal (connect_fault graph (connection c.in-Some.source.0 export need))) (CannotBeGiven graph c.in-Some.source.0 need (option_copied c.args.export))
          (λ f h. record { export = export; chosen = c.in_ok-given.ensures.chosen; refused = h }) c.in_err-connect.field-0.0 c.in_err-connect.ensures.refused));
    }))

pub returns-in_err-check_arguments-clause-refused : goal.returns-in_err-check_arguments-clause-refused
returns-in_err-check_arguments-clause-refused g c =
    let with_source = built_of c.instance_for.new.builder in
    handed_on c.from_residual-in_err-check_arguments.result c.in_err-check_arguments.field-0.0 _ c.from_residual-in_err-check_arguments.ensures.1
    (λ held told. inr (record {
      source = Some c.in-Some.source.0;
      with_source = with_source;
      found = subst (λ (o : Option ℕ). IsInstanceFor (sources c.args.config.now held) c.args.name.now (built_of c.args.builder.now) o with_source)
          (ap (option_map (λ (i : InstanceId). i.0)) c.in-Some.is) (c.in_ok-source.ensures.found held told);
      refused = inr (inr (
        unnamed_is c.get.result _ c.is_none-is_new.result c.get.ensures.value c.is_none-is_new.ensures ∙ c.if-is_new.true,
        record {
          export = option_map (λ (e : ExportIndex). e.0) c.in_ok-given.given;
          new = with_graph with_source (graph_of c.connect.new.graph);
          chosen = c.in_ok-given.ensures.chosen;
          given = record { good = c.in_ok-connect.ensures.good; connected = ap (with_graph with_source) c.in_ok-connect.ensures.connected };
          refused = c.in_err-check_arguments.ensures.refused;
        },
      ));
    }))

pub returns-clause-served : goal.returns-clause-served
returns-clause-served g c = λ held told.
    let with_source = built_of c.instance_for.new.builder in
    record {
      source = Some c.in-Some.source.0;
      with_source = with_source;
      found = subst (λ (o : Option ℕ). IsInstanceFor (sources c.args.config.now held) c.args.name.now (built_of c.args.builder.now) o with_source)
          (ap (option_map (λ (i : InstanceId). i.0)) c.in-Some.is) (c.in_ok-source.ensures.found held told);
      served = record {
        export = option_map (λ (e : ExportIndex). e.0) c.in_ok-given.given;
        chosen = c.in_ok-given.ensures.chosen;
        given = record { good = c.in_ok-connect.ensures.good; connected = ap (with_graph with_source) c.in_ok-connect.ensures.connected };
        arguments_good = λ is_new. elim c.if-is_new.branch [
          | then-is_new+in_ok-check_arguments w ↦ w.in_ok-check_arguments.ensures.good
          | else-is_new w ↦ absurd (false≢true (sym w.if-is_new.false ∙ sym (unnamed_is c.get.result _ c.is_none-is_new.result c.get.ensures.value c.is_none-is_new.ensures) ∙ is_new))
        ];
      };
    }
