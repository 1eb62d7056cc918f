use Rattle.std.proofs.Common.{subst, List}
use Rattle.warg_log.specs.declared.release.Release.{Release}
use Rattle.warg_log.specs.Places.{ArePlaced}
use Rattle.warg_log.proofs.PlacedLaws.{ArePlaced-pop}
use Rattle.warg_log.proofs.releases.Releases.pop.Goals as goal

pub invariant_of-self : goal.invariant_of-self
invariant_of-self c =
    ArePlaced-pop c.pop.new.self.items c.in-Some.release c.self.inside.places c.remove.new.self
    (subst (λ (rs : List Release). ArePlaced rs c.self.inside.places) c.in-Some.ensures.items c.self.invariant) c.remove.ensures.updates

pub invariant_of-self-in-Some-2 : goal.invariant_of-self-in-Some-2
invariant_of-self-in-Some-2 c =
    ArePlaced-pop c.pop.new.self.items c.in-Some.release c.self.inside.places c.remove.new.self
    (subst (λ (rs : List Release). ArePlaced rs c.self.inside.places) c.in-Some.ensures.items c.self.invariant) c.remove.ensures.updates
