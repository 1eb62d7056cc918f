use Rattle.std.proofs.Common.{◌≡◌, ◌∙◌, ◌++◌, ◌∷◌, [], ℕ, ap, sym, subst, arith, false, map}
use Rattle.std.specs.List.{AllByRecursion, list_any}
use Rattle.std.specs.BTreeMap.{is_at}
use Rattle.std.specs.BTreeSet.{contains}
use Rattle.std.specs.Ordering.{nat_cmp}
use Rattle.compose_agree.specs.Order.{needs_of}
use Rattle.compose_agree.specs.Turns.{AreTurns, IsOpen, thing_of}
use Rattle.compose_agree.proofs.TurnLaws.{holds_nothing, idle_turns, not_below, not_ready, takes, all_opened}
use Rattle.compose_agree.proofs.turns.take_first.Goals as goal

pub returns-in_default : goal.returns-in_default
returns-in_default c = λ done are.
    let idle = holds_nothing c.args.turns.now.ready c.in_default.ensures.variant.1 in
    let none : (n : ℕ) → contains nat_cmp c.pop_first.new.self n ≡ false = λ n. ap (list_any (is_at (nat_cmp n))) c.in_default.ensures.unchanged ∙ idle n in
    idle_turns (needs_of c.args.needs.now) done c.args.turns.now c.pop_first.new.self are idle none

pub returns : goal.returns
returns c = λ done are.
    let needs = needs_of c.args.needs.now in
    let t = c.args.turns.now in
    let x = c.in-Some.number in
    let is = are.ready x c.in-Some.ensures.member in
    let same = sym (c.deref.ensures.value ∙ c.take_waiters-waiters.ensures.taken) in
    let after = takes needs done t x are is c.insert.new.self c.pop_first.new.self c.take_waiters-waiters.new.waiting c.in_ok-insert.ensures.updates c.in-Some.ensures.updates c.take_waiters-waiters.ensures.others in
    record {
      is = is;
      first = λ m lt left. let there = is.there in not_ready needs done t m are (omega (arith, lt, there)) left (not_below t.ready x m c.in-Some.ensures.least lt);
      turns = c.in_ok-settle_all.ensures (done ++ x ∷ [])
          (subst (λ ws. AreTurns needs (done ++ x ∷ []) (map thing_of ws) (record { taken = c.insert.new.self; ready = c.pop_first.new.self; waiting = c.take_waiters-waiters.new.waiting })) same after)
          (subst (AllByRecursion (IsOpen needs (done ++ x ∷ []))) same (all_opened needs done t x are is));
    }
