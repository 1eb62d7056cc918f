use Rattle.std.proofs.Common.{◌≡◌, Some, None, option_map, IsSome, is_some, sym, ap, ◌∙◌}
use Rattle.sha2.specs.Sha256.{sha256}
use Rattle.warg_log.specs.declared.keys.KeyFacts.{KeyFacts}
use Rattle.warg_log.specs.Keys.{known}
use Rattle.warg_log.proofs.KeyMaps.{known_after, given_known, given_new}
use Rattle.warg_log.proofs.keys.Keys.give.Goals as goal

pub returns-in-Some-clause-ok : goal.returns-in-Some-clause-ok
returns-in-Some-clause-ok c = λ q.
    let facts = c.in-Some.facts.now in
    let made : KeyFacts = record { key = facts.key; permissions = c.union-facts.result } in
    let w = c.get_mut.follows.holds made in
    let old = known c.args.self.now in
    let was : old (sha256 c.args.key.now) ≡ Some facts = ap old (sym c.id-id.ensures) ∙ sym c.in-Some.ensures.value in
    let at : IsSome (old c.id-id.result) = ap is_some (sym c.in-Some.ensures.value) in
    let after = known_after c.id-id.result c.args.self.now.map (c.get_mut.follows.lender made) (Some made) (w.3 at) q in
    after ∙ rw (c.id-id.ensures, c.union-facts.ensures) (given_known old (sha256 c.args.key.now) q facts c.args.key.now c.args.gained was)

pub returns-in-Some-clause-was : goal.returns-in-Some-clause-was
returns-in-Some-clause-was c =
    ap (option_map (λ (f : KeyFacts). f.permissions)) (c.in-Some.ensures.value ∙ ap (known c.args.self.now) c.id-id.ensures)

pub returns-clause-ok : goal.returns-clause-ok
returns-clause-ok c = λ q.
    let made : KeyFacts = record { key = c.in_ok-try_clone.field-0; permissions = c.args.gained } in
    let old = known c.args.self.now in
    let was : old (sha256 c.args.key.now) ≡ None = ap old (sym c.id-id.ensures) ∙ sym c.in_default.ensures.value in
    let updates = rw c.get_mut.follows.holds-at-none at c.in_ok-insert.ensures.updates in
    let after = known_after c.id-id.result c.args.self.now.map c.insert.new.self (Some made) updates q in
    after ∙ rw (c.id-id.ensures, c.in_ok-try_clone.ensures) (given_new old (sha256 c.args.key.now) q c.args.key.now c.args.gained was)
