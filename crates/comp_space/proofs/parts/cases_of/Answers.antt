use Rattle.std.proofs.Common.{rules}
use Rattle.std.proofs.Common.{subst}
use Rattle.comp_space.specs.Faults.{Fails, Found}
use Rattle.comp_space.specs.Standings.{Shows}
use Rattle.comp_space.specs.Rows.{case_of, plain_case}
use Rattle.comp_table.specs.StandLaws.{grows_on}
use Rattle.comp_space.proofs.RowLaws.{rows_fail, rows_step}
use Rattle.comp_space.specs.StandingLaws.{all_show_kept, below_push, numbers_kept, passed_on}
use Rattle.comp_space.proofs.parts.cases_of.Goals as goal

pub returns-in_err-standing-clause-found : goal.returns-in_err-standing-clause-found
returns-in_err-standing-clause-found c = λ s shows.
    let kept = all_show_kept c.args.table.now c.loop-case.table c.loop-case.invariant.extends c.args.types.now s.types shows in
    passed_on _ c.from_residual.result _ _ c.from_residual.ensures.1
    (rows_fail (case_of s) plain_case c.args.cases.now c.loop-case.table c.loop-case.case-index c.case-item.result (record { numbers = c.loop-case.numbers; named = c.loop-case.named }) _ (search rules) (c.loop-case.invariant.found s shows)
    (subst (λ x. Fails c.in_err-standing.field-0.0 (case_of s x)) c.case-item.is (c.in_err-standing.ensures.found s kept)))

pub loop-case-preserved : goal.loop-case-preserved
loop-case-preserved c = record {
  extends = grows_on _ _ _ c.loop-case.invariant.extends c.case_of.ensures.extends;
  there = rw c.in_ok-push.ensures.items (below_push _ _ _ (numbers_kept c.loop-case.table c.case_of.new.table c.case_of.ensures.extends c.loop-case.numbers.items c.loop-case.invariant.there) c.in_ok-standing.ensures.there);
  found = λ s shows.
      let kept = all_show_kept c.args.table.now c.loop-case.table c.loop-case.invariant.extends c.args.types.now s.types shows in
      rows_step (case_of s) plain_case c.args.cases.now c.loop-case.table c.case_of.new.table c.loop-case.case-index c.case-item.result (record { numbers = c.loop-case.numbers; named = c.loop-case.named }) (record { numbers = c.push.new.self; named = c.both-named.result }) c.in_ok-standing.standing (search rules) c.case_of.ensures.extends (c.loop-case.invariant.found s shows)
      (subst (λ x. Found (Shows plain_case c.case_of.new.table) c.in_ok-standing.standing (case_of s x)) c.case-item.is (c.in_ok-standing.ensures.found s kept)) c.in_ok-push.ensures.items c.both-named.ensures;
}
