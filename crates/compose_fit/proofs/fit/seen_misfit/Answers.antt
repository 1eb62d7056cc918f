use Rattle.std.proofs.Common.{rules, ◌≤◌, ℕ, subst, arith, length}
use Rattle.std.specs.Prelude.{MatchOption}
use Rattle.compose_fit.specs.Fit.{FitsAt}
use Rattle.compose_fit.specs.Seen.{compared_by, IsFirstInto}
use Rattle.compose_fit.proofs.CauseLaws.{no_asked}
use Rattle.compose_fit.proofs.EntryLaws.{none_seen_at, none_asked}
use Rattle.compose_fit.proofs.FirstLaws.{all_below, all_of_them, first_of_all}
use Rattle.compose_fit.proofs.fit.seen_misfit.Goals as goal

pub returns-in-Some : goal.returns-in-Some
returns-in-Some c = λ ch w a finds.
    first_of_all (compared_by ch) w c.loop-target.target c.in-Some.misfit
    (subst (λ o. MatchOption o ((i : ℕ) → FitsAt (compared_by ch) w c.loop-target.target i) (IsFirstInto (compared_by ch) w c.loop-target.target)) c.in-Some.is (c.in_ok-misfit.ensures ch w a finds))
    (c.loop-target.invariant ch w a finds)

pub loop-target-preserved : goal.loop-target-preserved
loop-target-preserved c = λ ch w a finds t i lt.
    all_below (λ t. (i : ℕ) → FitsAt (compared_by ch) w t i) c.loop-target.target (λ t lt i. c.loop-target.invariant ch w a finds t i lt)
    (subst (λ o. MatchOption o ((i : ℕ) → FitsAt (compared_by ch) w c.loop-target.target i) (IsFirstInto (compared_by ch) w c.loop-target.target)) c.in_default.is (c.in_ok-misfit.ensures ch w a finds))
    t lt i

pub returns : goal.returns
returns c = λ ch w a finds.
    let end : length c.args.seen.now ≤ c.loop-target.target = search rules in
    all_of_them (λ t. (i : ℕ) → FitsAt (compared_by ch) w t i) c.loop-target.target (λ t lt i. c.loop-target.invariant ch w a finds t i lt)
    (λ t le i. let far : length c.args.seen.now ≤ t = omega (arith, le, end) in
    no_asked (compared_by ch) w t i (none_asked w.shapes t i (none_seen_at c.args.table.now ch 0 c.args.seen.now w.shapes t a far)))
