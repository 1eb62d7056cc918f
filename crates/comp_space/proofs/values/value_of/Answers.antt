use Rattle.comp_scope.specs.Values.{part_of, value_of}
use Rattle.comp_space.proofs.values.value_of.Goals as goal

pub returns-in-Primitive-clause-found : goal.returns-in-Primitive-clause-found
unfolding part_of value_of
returns-in-Primitive-clause-found c = λ s shows. rw c.in-Primitive.is (c.part_of.ensures.found s shows)
