use Rattle.comp_space.specs.StandingLaws.{all_show_kept, number_kept, passed_on, there_kept}
use Rattle.comp_space.proofs.ValueLaws.{second_side_fails, side_fails, sides_found}
use Rattle.comp_space.proofs.values.result_of.Goals as goal

pub payload_of-requires-2 : goal.payload_of-requires-2
payload_of-requires-2 c = there_kept c.args.table.now c.payload_of.new.table c.payload_of.ensures.extends c.args.types.now c.requires

pub around_two-requires : goal.around_two-requires
around_two-requires c = record {
  first = number_kept c.payload_of.new.table c.payload_of-2.new.table c.payload_of-2.ensures.extends c.in_ok-first.first.number c.in_ok-first.ensures.there;
  second = c.in_ok-second.ensures.there;
}

pub returns-in_err-first-clause-found : goal.returns-in_err-first-clause-found
returns-in_err-first-clause-found c = λ s shows.
    passed_on _ c.from_residual.result c.in_err-first.field-0.0 _ c.from_residual.ensures.1 (side_fails s c.args.ok.now c.args.err.now c.in_err-first.field-0.0 (c.in_err-first.ensures.found s shows))

pub returns-in_err-second-clause-found : goal.returns-in_err-second-clause-found
returns-in_err-second-clause-found c = λ s shows.
    let kept = all_show_kept c.args.table.now c.payload_of.new.table c.payload_of.ensures.extends c.args.types.now s.types shows in
    passed_on _ c.from_residual-in_err-second.result c.in_err-second.field-0.0 _ c.from_residual-in_err-second.ensures.1
    (second_side_fails s c.args.ok.now c.args.err.now c.payload_of.new.table c.in_ok-first.first c.in_err-second.field-0.0 (c.in_ok-first.ensures.found s shows) (c.in_err-second.ensures.found s kept))

pub returns-clause-found : goal.returns-clause-found
returns-clause-found c = λ s shows.
    let kept = all_show_kept c.args.table.now c.payload_of.new.table c.payload_of.ensures.extends c.args.types.now s.types shows in
    rw c.both.ensures
    (sides_found s c.args.ok.now c.args.err.now c.payload_of.new.table c.payload_of-2.new.table c.around_two.new.table c.in_ok-first.first c.in_ok-second.second c.in_ok-number.number (c.in_ok-first.ensures.found s shows) (c.in_ok-second.ensures.found s kept) c.payload_of-2.ensures.extends c.in_ok-number.ensures.number)
