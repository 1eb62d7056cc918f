use Rattle.std.proofs.Common.{◌≡◌, is_some, Some, sym, ap, ◌∙◌}
use Rattle.warg_log.specs.declared.keys.KeyFacts.{KeyFacts}
use Rattle.warg_log.specs.Keys.{known}
use Rattle.warg_log.proofs.KeyMaps.{known_after, taken_known}
use Rattle.warg_log.proofs.keys.Keys.take.Goals as goal

pub returns-clause-after : goal.returns-clause-after
returns-clause-after c = λ q.
    let facts = c.in_ok-facts.facts.now in
    let made : KeyFacts = record { key = facts.key; permissions = c.without-facts.result } in
    let w = c.get_mut.follows.holds made in
    let old = known c.args.self.now in
    let was : old c.args.id.now ≡ Some facts = sym c.in_ok-facts.ensures.value in
    let after = known_after c.args.id.now c.args.self.now.map (c.get_mut.follows.lender made) (Some made) (w.3 (ap is_some was)) q in
    after ∙ rw c.without-facts.ensures (taken_known old c.args.id.now q facts c.args.lost was)
