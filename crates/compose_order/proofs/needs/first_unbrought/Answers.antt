use Rattle.std.proofs.Common.{◌≡◌, true, sym, ap, subst, ◌∙◌, arith, map, take}
use Rattle.std.specs.List.{AllByRecursion}
use Rattle.compose_order.specs.Known.{IsKnown, known_left}
use Rattle.compose_order.specs.Needs.{LeftTree, is_brought}
use Rattle.compose_needs.specs.Lefts.{lefts_of}
use Rattle.compose_order.proofs.ListLaws.{all_push, all_taken, each_at, front_more, length-of-mapped, mapped_at}
use Rattle.compose_order.proofs.needs.first_unbrought.Goals as goal

pub is_brought-requires : goal.is_brought-requires
is_brought-requires c = each_at IsKnown c.as_slice-list.result.now c.loop-number.number c.index-list-number.result (subst (λ ks. AllByRecursion IsKnown ks) (sym c.as_slice-list.ensures.value) c.requires) c.loop-number-test.true c.index-list-number.is

pub returns-then-not-branch-clause-first : goal.returns-then-not-branch-clause-first
returns-then-not-branch-clause-first c = λ w ls o k. record {
  import = known_left c.index-list-number.result;
  there = mapped_at known_left c.as_slice-list.result.now ls c.loop-number.number c.index-list-number.result (ap (λ ks. map known_left ks) c.as_slice-list.ensures.value ∙ k.lefts) c.loop-number-test.true c.index-list-number.is;
  brought = c.loop-number.invariant w ls o k;
  unbrought = sym (c.in_ok-is_brought.ensures w o) ∙ c.if-not-branch.true;
}

pub loop-number-preserved : goal.loop-number-preserved
loop-number-preserved c = λ w ls o k.
    subst (λ ms. AllByRecursion (λ (m : LeftTree). is_brought (lefts_of w) m ≡ true) ms)
    (sym (front_more ls c.loop-number.number (known_left c.index-list-number.result) (mapped_at known_left c.as_slice-list.result.now ls c.loop-number.number c.index-list-number.result (ap (λ ks. map known_left ks) c.as_slice-list.ensures.value ∙ k.lefts) c.loop-number-test.true c.index-list-number.is)))
    (all_push (λ (m : LeftTree). is_brought (lefts_of w) m ≡ true) (take c.loop-number.number ls) (known_left c.index-list-number.result) (c.loop-number.invariant w ls o k) (sym (c.in_ok-is_brought.ensures w o) ∙ c.if-not-branch.false))

pub returns-clause-first : goal.returns-clause-first
returns-clause-first c = λ w ls o k.
    subst (λ ms. AllByRecursion (λ (m : LeftTree). is_brought (lefts_of w) m ≡ true) ms)
    (all_taken ls c.loop-number.number (let e = c.loop-number-test.false in let same = sym (length-of-mapped known_left c.as_slice-list.result.now ls (ap (λ ks. map known_left ks) c.as_slice-list.ensures.value ∙ k.lefts)) in omega (arith, e, same)))
    (c.loop-number.invariant w ls o k)
