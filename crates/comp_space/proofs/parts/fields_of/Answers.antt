use Rattle.std.proofs.Common.{rules}
use Rattle.std.proofs.Common.{subst}
use Rattle.comp_space.specs.Faults.{Fails, Found}
use Rattle.comp_space.specs.Standings.{Shows}
use Rattle.comp_space.specs.Rows.{field_of}
use Rattle.comp_table.specs.Plain.{plain_param}
use Rattle.comp_table.specs.StandLaws.{grows_on}
use Rattle.comp_space.proofs.RowLaws.{rows_fail, rows_step}
use Rattle.comp_space.specs.StandingLaws.{all_show_kept, below_push, numbers_kept, passed_on}
use Rattle.comp_space.proofs.parts.fields_of.Goals as goal

pub returns-in_err-standing-clause-found : goal.returns-in_err-standing-clause-found
returns-in_err-standing-clause-found c = λ s shows.
    let kept = all_show_kept c.args.table.now c.loop-field.table c.loop-field.invariant.extends c.args.types.now s.types shows in
    passed_on _ c.from_residual.result _ _ c.from_residual.ensures.1
    (rows_fail (field_of s) plain_param c.args.fields.now c.loop-field.table c.loop-field.field-index c.field-item.result (record { numbers = c.loop-field.numbers; named = c.loop-field.named }) _ (search rules) (c.loop-field.invariant.found s shows)
    (subst (λ x. Fails c.in_err-standing.field-0.0 (field_of s x)) c.field-item.is (c.in_err-standing.ensures.found s kept)))

pub loop-field-preserved : goal.loop-field-preserved
loop-field-preserved c = record {
  extends = grows_on _ _ _ c.loop-field.invariant.extends c.field_of.ensures.extends;
  there = rw c.in_ok-push.ensures.items (below_push _ _ _ (numbers_kept c.loop-field.table c.field_of.new.table c.field_of.ensures.extends c.loop-field.numbers.items c.loop-field.invariant.there) c.in_ok-standing.ensures.there);
  found = λ s shows.
      let kept = all_show_kept c.args.table.now c.loop-field.table c.loop-field.invariant.extends c.args.types.now s.types shows in
      rows_step (field_of s) plain_param c.args.fields.now c.loop-field.table c.field_of.new.table c.loop-field.field-index c.field-item.result (record { numbers = c.loop-field.numbers; named = c.loop-field.named }) (record { numbers = c.push.new.self; named = c.both-named.result }) c.in_ok-standing.standing (search rules) c.field_of.ensures.extends (c.loop-field.invariant.found s shows)
      (subst (λ x. Found (Shows plain_param c.field_of.new.table) c.in_ok-standing.standing (field_of s x)) c.field-item.is (c.in_ok-standing.ensures.found s kept)) c.in_ok-push.ensures.items c.both-named.ensures;
}
