use Rattle.std.proofs.Common.{rules, ◌≡◌, ◌<◌, length, get_or, subst, sym}
use Rattle.warg_prover.specs.Places.{IsHashAt}
use Rattle.warg_prover.proofs.Whole.{known_found, leaf_at, place_is}
use Rattle.warg_prover.proofs.nodes.known_at.Goals as goal

pub returns-in-Some : goal.returns-in-Some
returns-in-Some c = λ are.
    let there : c.args.at.1 < length c.args.hashes.now = search rules in
    let found : c.in-Some.hash.now ≡ get_or c.args.hashes.now c.args.at.1 c.in-Some.hash.now = search rules in
    subst (λ level. IsHashAt c.args.hashes.now (level, c.args.at.1) c.in-Some.hash.now) (sym c.if-level-eq0.true) (leaf_at c.args.hashes.now c.args.at.1 c.in-Some.hash.now there found)

pub returns-in-Some-get : goal.returns-in-Some-get
returns-in-Some-get c = λ are. known_found c.args.hashes.now _ c.args.at (λ k e. place_is c.args.at k e) c.args.nodes.now.entries c.in-Some-get.hash.now c.in-Some-get.ensures.value are
