use Rattle.std.proofs.Common.{ap, sym, ◌∙◌, subst, bytes_eq}
use Rattle.std.specs.Map.{lookup}
use Rattle.std.proofs.lemmas.Result.{on_ok_weaker, IfErr-weaker}
use Rattle.compose_config.specs.Plan.{Argument}
use Rattle.compose_files.specs.Built.{IsServed, taken_by}
use Rattle.compose_files.specs.Needs.{need_of}
use Rattle.compose_files.specs.Refusals.{IsTakeRefusal}
use Rattle.compose_files.specs.View.{built_of, sources}
use Rattle.compose_files.proofs.RefusalSteps.{at_none}
use Rattle.compose_files.proofs.serve.serve.Goals as goal

pub returns-in-Some-argument_for-clause-served : goal.returns-in-Some-argument_for-clause-served
returns-in-Some-argument_for-clause-served g c =
    let argument = c.in-Some-argument_for.argument.now in
    let name = c.args.need.now.name.now in
    let found = ap (lookup (bytes_eq name)) (sym c.arguments_of.ensures) ∙ sym c.in-Some-argument_for.ensures in
    let taken_is = ap (taken_by name) found ∙ (λ k. let a : Argument = record { instance = argument.instance; export = sym c.as_ref.ensures.value k } in a) in
    on_ok_weaker c.take_instance.result (λ served held told.
    at_none _ _ _ (sym c.in_default.ensures.value)
    (subst (λ (a : Argument). IsServed (sources c.args.config.now held) (need_of c.args.need.now) a (built_of c.args.builder.now) (built_of c.take_instance.new.builder)) (sym taken_is) (served held told)))
    c.take_instance.ensures.served

pub returns-in-Some-argument_for-clause-refused : goal.returns-in-Some-argument_for-clause-refused
returns-in-Some-argument_for-clause-refused g c =
    let argument = c.in-Some-argument_for.argument.now in
    let name = c.args.need.now.name.now in
    let found = ap (lookup (bytes_eq name)) (sym c.arguments_of.ensures) ∙ sym c.in-Some-argument_for.ensures in
    let taken_is = ap (taken_by name) found ∙ (λ k. let a : Argument = record { instance = argument.instance; export = sym c.as_ref.ensures.value k } in a) in
    IfErr-weaker c.take_instance.result _ _ (λ e refused held told.
    at_none _ _ _ (sym c.in_default.ensures.value)
    (subst (λ (a : Argument). IsTakeRefusal (sources c.args.config.now held) (need_of c.args.need.now) a (built_of c.args.builder.now) e) (sym taken_is) (refused held told)))
    c.take_instance.ensures.refused

pub returns-in-None-clause-refused : goal.returns-in-None-clause-refused
returns-in-None-clause-refused g c =
    let name = c.args.need.now.name.now in
    let taken_is = ap (taken_by name) (ap (lookup (bytes_eq name)) (sym c.arguments_of.ensures) ∙ sym c.in-None.ensures) in
    IfErr-weaker c.take_instance-in-None.result _ _ (λ e refused held told.
    at_none _ _ _ (sym c.in_default.ensures.value)
    (subst (λ (a : Argument). IsTakeRefusal (sources c.args.config.now held) (need_of c.args.need.now) a (built_of c.args.builder.now) e) (sym taken_is) (refused held told)))
    c.take_instance-in-None.ensures.refused
