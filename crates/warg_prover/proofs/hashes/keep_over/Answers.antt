use Rattle.std.proofs.Common.{◌≡◌, ◌+◌, suc, length, subst, sym, arith}
use Rattle.warg_prover.specs.Places.{AreHashesAt, IsHashAt, IsPlaceOf}
use Rattle.warg_prover.proofs.Whole.{known_more, over_known, place_is}
use Rattle.warg_prover.proofs.hashes.keep_over.Goals as goal

pub returns-in-Ok : goal.returns-in-Ok
returns-in-Ok c = λ are.
    let hashes = c.args.hashes.now in
    let hash = c.hashed_root.result in
    let on : suc c.args.below ≡ c.args.below + 1 = omega arith in
    let whole = subst (λ level. IsPlaceOf (length hashes) (level, c.args.place)) (sym on) c.requires.whole in
    let over = over_known hashes c.args.below c.args.place c.in-Some.left c.in-Some-known_at.right hash whole (c.in-Some.ensures are).is (c.in-Some-known_at.ensures are).is c.hashed_root.ensures in
    let made = subst (λ level. IsHashAt hashes (level, c.args.place) hash) on over in
    subst (AreHashesAt hashes) (sym c.in-Ok.ensures.entries) (known_more hashes _ (c.args.below + 1, c.args.place) (λ k e. place_is (c.args.below + 1, c.args.place) k e) c.args.nodes.now.entries hash made are)
