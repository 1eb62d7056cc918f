use Rattle.std.proofs.Common.{◌≡◌, ℕ, List, ◌-◌, ◌<◌, ◌≤◌, suc, true, false, sym, ◌∙◌, arith}
use Rattle.std.proofs.lemmas.List.{length-map}
use Rattle.compose_agree.specs.Order.{needs_of}
use Rattle.compose_check.specs.Circles.{IsOnCircle}
use Rattle.compose_check.proofs.CircleLaws.{last_is, no_circle_past, one_less}
use Rattle.compose_check.proofs.circles.last_on_circle.Goals as goal

pub loop-thing-init : goal.loop-thing-init
loop-thing-init c = λ n past.
    let count = length-map c.args.needs.now (λ v. v.items) in
    no_circle_past (needs_of c.args.needs.now) n (omega (arith, past, count))

-- each number that is not below the counter was looked at
excluded : (needs : List (List ℕ)) (counter : ℕ) → 0 < counter → ((n : ℕ) → counter ≤ n → IsOnCircle needs n → ⊥) → (n : ℕ) → suc (counter - 1) ≤ n → IsOnCircle needs n → ⊥
excluded needs counter some none n past = none n (omega (arith, some, past))

pub returns-then-contains : goal.returns-then-contains
returns-then-contains c =
    let needs = needs_of c.args.needs.now in
    let k = c.loop-thing.thing-counter - 1 in
    record {
      on = (c.in_ok-seen.ensures k).0 (sym c.contains.ensures ∙ c.if-contains.true);
      last = last_is needs k (excluded needs c.loop-thing.thing-counter c.loop-thing-test.true c.loop-thing.invariant);
    }

pub loop-thing-preserved : goal.loop-thing-preserved
loop-thing-preserved c =
    let needs = needs_of c.args.needs.now in
    let k = c.loop-thing.thing-counter - 1 in
    one_less needs k (excluded needs c.loop-thing.thing-counter c.loop-thing-test.true c.loop-thing.invariant)
    (λ circle. absurd (let bad : true ≡ false = sym ((c.in_ok-seen.ensures k).1 circle) ∙ sym c.contains.ensures ∙ c.if-contains.false in cc))

pub returns : goal.returns
returns c = λ n circle. let least = c.loop-thing-test.false in c.loop-thing.invariant n (omega (arith, least)) circle
