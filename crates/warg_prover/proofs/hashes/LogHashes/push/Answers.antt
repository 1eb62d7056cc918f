use Rattle.std.proofs.Common.{subst, sym}
use Rattle.warg_prover.specs.Places.{AreHashesAt}
use Rattle.warg_prover.proofs.Whole.{still_are}
use Rattle.warg_prover.proofs.hashes.LogHashes.push.Goals as goal

pub invariant_of-self-2 : goal.invariant_of-self-2
invariant_of-self-2 c =
    let before = c.self.inside.nodes.entries in
    let grown = subst (λ hashes. AreHashesAt hashes before) (sym c.in_ok-push.ensures.items) (still_are c.self.inside.hashes.items _ before c.self.invariant) in
    subst (λ hashes. AreHashesAt hashes c.keep_whole.new.nodes.entries) c.deref.ensures.value (c.keep_whole.ensures (subst (λ hashes. AreHashesAt hashes before) (sym c.deref.ensures.value) grown))
