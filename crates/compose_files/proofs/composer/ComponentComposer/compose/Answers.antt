use Rattle.std.proofs.Common.{inl, inr}
use Rattle.std.proofs.lemmas.Result.{IfErr-weaker}
use Rattle.compose_files.proofs.CompleteLaws.{complete_refusal, end_by, end_calm, end_short}
use Rattle.compose_files.proofs.RefusalSteps.{handed_on, ok_with}
use Rattle.compose_config.specs.View.{settings_of}
use Rattle.compose_files.specs.View.{built_of, config_of}
use Rattle.compose_files.proofs.composer.ComponentComposer.compose.Goals as goal

pub returns-in_err-build-clause-refused : goal.returns-in_err-build-clause-refused
returns-in_err-build-clause-refused g c =
    handed_on c.from_residual.result c.in_err-build.field-0.0 _ c.from_residual.ensures.1
    (λ held told. inl (c.in_err-build.ensures.refused held told))

pub returns-clause-refused : goal.returns-clause-refused
returns-clause-refused g c =
    IfErr-weaker c.written.result _ _ (λ e refused held told. inr (record {
      built = built_of c.build.new.builder;
      is_built = c.in_ok-build.ensures.built held told;
      refused = refused;
    })) c.written.ensures.refused

pub returns-clause-composed : goal.returns-clause-composed
returns-clause-composed g c =
    ok_with c.written.result c.written.ensures.several c.written.ensures.encoded (λ bytes several encoded held told. record {
      graph = (built_of c.build.new.builder).graph;
      is_graph = c.what_is_built_is_the_graph.ensures.built _ _ (built_of c.build.new.builder) (c.in_ok-build.ensures.built held told);
      several = several;
      encoded = encoded;
    })

pub returns-in_err-build-clause-complete : goal.returns-in_err-build-clause-complete
returns-in_err-build-clause-complete g c =
    handed_on c.from_residual.result c.in_err-build.field-0.0 _ c.from_residual.ensures.1
    (λ held b told complete calm.
    complete_refusal c.what_can_be_built_is_refused_in_the_end.ensures c.what_is_built_is_the_graph.ensures.found _ _ b complete c.in_err-build.field-0.0 _ _ c.in_err-build.ensures.failed calm (inl (c.in_err-build.ensures.refused held told)))

pub returns-clause-complete : goal.returns-clause-complete
returns-clause-complete g c =
    IfErr-weaker c.written.result _ _ (λ e refused held b told complete calm.
    complete_refusal c.what_can_be_built_is_refused_in_the_end.ensures c.what_is_built_is_the_graph.ensures.found _ _ b complete e _ _ (λ fails. absurd (end_calm (settings_of (config_of c.args.self.now)) (built_of c.build.new.builder).graph e refused fails)) calm (inr (record {
      built = built_of c.build.new.builder;
      is_built = c.in_ok-build.ensures.built held told;
      refused = refused;
    }))) c.written.ensures.refused

pub returns-in_err-build-clause-able : goal.returns-in_err-build-clause-able
returns-in_err-build-clause-able g c =
    handed_on c.from_residual.result c.in_err-build.field-0.0 _ c.from_residual.ensures.1
    (λ held told can calm.
    end_short c.graphs_that_can_be_encoded_are_refused_for_their_numbers.ensures (settings_of (config_of c.args.self.now)) can.graph can.is_complete.several can.encodable c.in_err-build.field-0.0
    (end_by c.what_can_be_built_is_refused_in_the_end.ensures c.what_is_built_is_the_graph.ensures.found _ _ can.graph can.is_complete c.in_err-build.field-0.0 calm (inl (c.in_err-build.ensures.refused held told))))

pub returns-clause-able : goal.returns-clause-able
returns-clause-able g c =
    IfErr-weaker c.written.result _ _ (λ e refused held told can calm.
    end_short c.graphs_that_can_be_encoded_are_refused_for_their_numbers.ensures (settings_of (config_of c.args.self.now)) can.graph can.is_complete.several can.encodable e
    (end_by c.what_can_be_built_is_refused_in_the_end.ensures c.what_is_built_is_the_graph.ensures.found _ _ can.graph can.is_complete e calm (inr (record {
      built = built_of c.build.new.builder;
      is_built = c.in_ok-build.ensures.built held told;
      refused = refused;
    })))) c.written.ensures.refused
