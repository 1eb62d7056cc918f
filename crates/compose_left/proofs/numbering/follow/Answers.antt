use Rattle.std.proofs.Common.{rules, sym, ◌∙◌, arith, refl, subst, List}
use Rattle.compose_left.specs.declared.origin.Held.{Held}
use Rattle.std.proofs.lemmas.List.{length-map}
use Rattle.compose_left.specs.Wired.{wiring_of}
use Rattle.compose_left.proofs.FollowLaws.{Following, follow_begins, known, ended, goes_on}
use Rattle.compose_left.proofs.OriginLaws.{goes_down}
use Rattle.compose_left.proofs.numbering.follow.Goals as goal
use Rattle.compose_left.specs.Wiring.{lent_shape}
use Rattle.compose_left.proofs.numbering.follow.Goals.{else-loop-passed-test, then-loop-passed-test+in_default+in_ok-push+in_ok-origin+in-Goes+else-passed-passed-end}

pub returns-in-Some : goal.returns-in-Some
returns-in-Some c =
    known (wiring_of c.args.wired.now) c.args.from c.loop-passed.held c.loop-passed.trail.items c.loop-passed._passed c.loop-passed.invariant c.args.numbers.now c.in-Some.number.now (search rules) c.loop-passed.trail.items refl _ refl refl

pub returns-in-Ends : goal.returns-in-Ends
returns-in-Ends c =
    ended (wiring_of c.args.wired.now) c.args.from c.loop-passed.held c.loop-passed.trail.items c.loop-passed._passed c.loop-passed.invariant c.requires.order c.args.numbers.now c.in-Ends.origin (sym c.in-Ends.is ∙ c.in_ok-origin.ensures) _ refl (search rules)

pub unreachable-requires : goal.unreachable-requires
unreachable-requires c = elim c.loop-passed-test.branch [
  | else-loop-passed-test w ↦ let end = c.loop-passed.auto._passed-end in let past = w.loop-passed-test.false in omega (arith, end, past)
  | then-loop-passed-test+in_default+in_ok-push+in_ok-origin+in-Goes+else-passed-passed-end w ↦
      let lt = goes_down (wiring_of c.args.wired.now) c.requires.order c.loop-passed.held w.in-Goes.next (sym w.in_ok-origin.ensures ∙ w.in-Goes.is) in
      let le = c.loop-passed.invariant.room c.requires.order in
      let count = length-map c.args.wired.now.shapes.now lent_shape in omega (arith, lt, le, count)
]

pub loop-passed-preserved : goal.loop-passed-preserved
loop-passed-preserved c =
    goes_on (wiring_of c.args.wired.now) c.args.from c.loop-passed.held c.loop-passed.trail.items c.loop-passed._passed c.loop-passed.invariant c.requires.order c.in-Goes.next c.push.new.self.items (sym c.in-Goes.is ∙ c.in_ok-origin.ensures) (search rules)

pub loop-passed-init : goal.loop-passed-init
loop-passed-init c = subst (λ (xs : List Held). Following (wiring_of c.args.wired.now) c.args.from c.args.from xs 0) (sym c.new-trail.ensures.items) (follow_begins (wiring_of c.args.wired.now) c.args.from)
