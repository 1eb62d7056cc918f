use Rattle.std.proofs.Common.{ℕ, sym, ◌∙◌, subst, rules, arith, add-one, inr}
use Rattle.compose_files.specs.Built.{AfterSteps}
use Rattle.compose_files.specs.Composed.{HasTurn}
use Rattle.compose_files.specs.View.{built_of, sources}
use Rattle.compose_files.proofs.Growth.{turn_grows}
use Rattle.compose_files.proofs.RefusalSteps.{handed_on, rose_between}
use Rattle.compose_files.proofs.composer.build.Goals as goal

pub returns-in_err-take_turn-clause-refused : goal.returns-in_err-take_turn-clause-refused
returns-in_err-take_turn-clause-refused g c =
    handed_on c.from_residual-in_err-take_turn.result c.in_err-take_turn.field-0.0 _ c.from_residual-in_err-take_turn.ensures.1
    (λ held told.
    let t = c.loop-place.invariant.turns held told in
    inr (record {
      start = t.0;
      started = t.1;
      turns = c.loop-place.place;
      before = built_of c.loop-place.builder;
      had_turns = t.2;
      refused = c.in_err-take_turn.ensures.refused held (c.loop-place.invariant.kept ∙ told);
    }))

pub returns-in_err-take_turn-clause-failed : goal.returns-in_err-take_turn-clause-failed
returns-in_err-take_turn-clause-failed g c =
    handed_on c.from_residual-in_err-take_turn.result c.in_err-take_turn.field-0.0 _ c.from_residual-in_err-take_turn.ensures.1
    (λ fails. rose_between _ _ _ _ c.loop-place.invariant.never_falls (c.in_err-take_turn.ensures.failed fails) (omega arith))

pub loop-place-preserved : goal.loop-place-preserved
loop-place-preserved g c = record {
  never_falls = search rules;
  kept = search rules;
  turns = λ held told.
      let t = c.loop-place.invariant.turns held told in
      let s = sources c.args.config.now held in
      let turn = c.in_ok-take_turn.ensures.served held (c.loop-place.invariant.kept ∙ told) in
      let grows = turn_grows s c.loop-place.place (built_of c.loop-place.builder) (built_of c.take_turn.new.builder) turn in
      (t.0, t.1, subst (λ (n : ℕ). AfterSteps (HasTurn s) t.0 n (built_of c.take_turn.new.builder)) (sym (add-one c.loop-place.place)) (built_of c.loop-place.builder, t.2, turn), omega (arith, grows));
}
