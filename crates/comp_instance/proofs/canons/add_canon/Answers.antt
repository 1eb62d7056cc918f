use Rattle.comp_scope.specs.Canons.{with_canon}
use Rattle.comp_instance.proofs.canons.add_canon.Goals as goal

pub returns-in-ResourceNew-clause-found : goal.returns-in-ResourceNew-clause-found
unfolding with_canon
returns-in-ResourceNew-clause-found c = λ s shows. rw c.in-ResourceNew.is (c.add_built_in.ensures.found s shows)

pub returns-in-ResourceDrop-clause-found : goal.returns-in-ResourceDrop-clause-found
unfolding with_canon
returns-in-ResourceDrop-clause-found c = λ s shows. rw c.in-ResourceDrop.is (c.add_built_in-in-ResourceDrop.ensures.found s shows)

pub returns-in-ResourceRep-clause-found : goal.returns-in-ResourceRep-clause-found
unfolding with_canon
returns-in-ResourceRep-clause-found c = λ s shows. rw c.in-ResourceRep.is (c.add_built_in-in-ResourceRep.ensures.found s shows)
