use Rattle.std.proofs.Common.{rules}
use Rattle.comp_scope.specs.Values.{part_of}
use Rattle.comp_table.specs.Plain.{plain_value}
use Rattle.comp_table.specs.StandLaws.{grows_on}
use Rattle.comp_space.proofs.RowLaws.{rows_fail, rows_step}
use Rattle.comp_space.specs.StandingLaws.{all_show_kept, below_push, numbers_kept, passed_on}
use Rattle.comp_space.proofs.parts.parts_of.Goals as goal

pub returns-in_err-standing-clause-found : goal.returns-in_err-standing-clause-found
returns-in_err-standing-clause-found c = λ s shows.
    let kept = all_show_kept c.args.table.now c.loop-part.table c.loop-part.invariant.extends c.args.types.now s.types shows in
    passed_on _ c.from_residual.result _ _ c.from_residual.ensures.1
    (rows_fail (part_of s) plain_value c.args.parts.now c.loop-part.table c.loop-part.part-index _ (record { numbers = c.loop-part.numbers; named = c.loop-part.named }) _ (search rules) (c.loop-part.invariant.found s shows)
    (c.in_err-standing.ensures.found s kept))

pub loop-part-preserved : goal.loop-part-preserved
loop-part-preserved c = record {
  extends = grows_on _ _ _ c.loop-part.invariant.extends c.part_of.ensures.extends;
  there = rw c.in_ok-push.ensures.items (below_push _ _ _ (numbers_kept c.loop-part.table c.part_of.new.table c.part_of.ensures.extends c.loop-part.numbers.items c.loop-part.invariant.there) c.in_ok-standing.ensures.there);
  found = λ s shows.
      let kept = all_show_kept c.args.table.now c.loop-part.table c.loop-part.invariant.extends c.args.types.now s.types shows in
      rows_step (part_of s) plain_value c.args.parts.now c.loop-part.table c.part_of.new.table c.loop-part.part-index _ (record { numbers = c.loop-part.numbers; named = c.loop-part.named }) (record { numbers = c.push.new.self; named = c.both-named.result }) c.in_ok-standing.standing (search rules) c.part_of.ensures.extends (c.loop-part.invariant.found s shows)
      (c.in_ok-standing.ensures.found s kept) c.in_ok-push.ensures.items c.both-named.ensures;
}
