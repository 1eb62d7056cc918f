use Rattle.std.proofs.Common.{◌≡◌, is_some, Some, None, sym, ap, ◌∙◌}
use Rattle.warg_log.specs.declared.keys.KeyFacts.{KeyFacts}
use Rattle.warg_log.specs.Keys.{known}
use Rattle.warg_log.proofs.KeyMaps.{known_after, restored_known, restored_new}
use Rattle.warg_log.proofs.keys.Keys.restore.Goals as goal

pub returns-in-Some-get_mut : goal.returns-in-Some-get_mut
returns-in-Some-get_mut c = λ q.
    let facts = c.in-Some-get_mut.facts.now in
    let made : KeyFacts = record { key = facts.key; permissions = c.in-Some.permissions } in
    let w = c.get_mut.follows.holds made in
    let old = known c.args.self.now in
    let was : old c.args.id.now ≡ Some facts = sym c.in-Some-get_mut.ensures.value in
    let after = known_after c.args.id.now c.args.self.now.map (c.get_mut.follows.lender made) (Some made) (w.3 (ap is_some was)) q in
    after ∙ rw c.in-Some.is (restored_known old c.args.id.now q facts c.in-Some.permissions was)

pub returns-in_default : goal.returns-in_default
returns-in_default c = λ q.
    let old = known c.args.self.now in
    let was : old c.args.id.now ≡ None = sym c.in_default.ensures.value in
    rw (c.get_mut.follows.holds-at-none, c.in-Some.is) (restored_new old c.args.id.now q c.in-Some.permissions was)

pub returns-in-None : goal.returns-in-None
returns-in-None c = λ q.
    rw c.in-None.is (known_after c.args.id.now c.args.self.now.map c.remove.new.self None c.remove.ensures.updates q)
