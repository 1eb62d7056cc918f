use Rattle.std.proofs.Common.{subst, sym, ◌∷◌, length, ap, ◌∙◌}
use Rattle.comp_space.specs.Faults.{Fails, Found}
use Rattle.comp_space.specs.Rows.{ShowsRows, all_of, field_of}
use Rattle.comp_table.specs.Plain.{plain_param}
use Rattle.comp_table.specs.declared.head.Head.TheVariants as head
use Rattle.comp_table.specs.Trees.{IsBelow, Stands, node_tree}
use Rattle.comp_space.specs.StandingLaws.{all_show_kept, numbers_kept, passed_on, there_kept}
use Rattle.comp_space.proofs.ValueLaws.{func_fails, func_found, func_result_fails}
use Rattle.comp_space.proofs.values.func_of.Goals as goal

pub payload_of-requires : goal.payload_of-requires
payload_of-requires c = there_kept c.args.table.now c.fields_of.new.table c.fields_of.ensures.extends c.args.types.now c.requires

pub node-requires : goal.node-requires
node-requires c = rw c.in_ok-parts.ensures
    (c.in_ok-result.ensures.there, subst (IsBelow (length c.payload_of.new.table)) (sym c.deref.ensures.value) (numbers_kept c.fields_of.new.table c.payload_of.new.table c.payload_of.ensures.extends c.in_ok-params.params.numbers.items c.in_ok-params.ensures.there))

pub returns-in_err-params-clause-found : goal.returns-in_err-params-clause-found
returns-in_err-params-clause-found c = λ s shows.
    passed_on _ c.from_residual.result c.in_err-params.field-0.0 _ c.from_residual.ensures.1
    (func_fails s c.args.func.now c.in_err-params.field-0.0 (subst (λ xs. Fails c.in_err-params.field-0.0 (all_of (field_of s) xs)) c.as_slice.ensures (c.in_err-params.ensures.found s shows)))

pub returns-in_err-result-clause-found : goal.returns-in_err-result-clause-found
returns-in_err-result-clause-found c = λ s shows.
    let rows = subst (λ xs. Found (ShowsRows plain_param c.fields_of.new.table) c.in_ok-params.params (all_of (field_of s) xs)) c.as_slice.ensures (c.in_ok-params.ensures.found s shows) in
    let kept = all_show_kept c.args.table.now c.fields_of.new.table c.fields_of.ensures.extends c.args.types.now s.types shows in
    passed_on _ c.from_residual-in_err-result.result c.in_err-result.field-0.0 _ c.from_residual-in_err-result.ensures.1
    (func_result_fails s c.args.func.now c.fields_of.new.table c.in_ok-params.params c.in_err-result.field-0.0 rows (c.in_err-result.ensures.found s kept))

pub returns-clause-found : goal.returns-clause-found
returns-clause-found c = λ s shows.
    let rows = subst (λ xs. Found (ShowsRows plain_param c.fields_of.new.table) c.in_ok-params.params (all_of (field_of s) xs)) c.as_slice.ensures (c.in_ok-params.ensures.found s shows) in
    let kept = all_show_kept c.args.table.now c.fields_of.new.table c.fields_of.ensures.extends c.args.types.now s.types shows in
    let parts = c.in_ok-parts.ensures ∙ ap (λ xs. c.in_ok-result.result.number ∷ xs) c.deref.ensures.value in
    rw c.both.ensures
    (func_found s c.args.func.now c.fields_of.new.table c.payload_of.new.table c.node.new.table c.in_ok-params.params c.in_ok-result.result c.in_ok-number.number rows (c.in_ok-result.ensures.found s kept) c.payload_of.ensures.extends
    (subst (λ xs. Stands c.node.new.table c.in_ok-number.number (node_tree c.payload_of.new.table head.FuncType xs)) parts c.in_ok-number.ensures.number))
