use Rattle.compose_encode.proofs.output.write_wire.Goals as goal

pub returns-in-Some-clause-written : goal.returns-in-Some-clause-written
returns-in-Some-clause-written c = λ imports w h. rw c.in-Some.is (c.write_part.ensures.written imports w h)

pub returns-in-Some-clause-too_large : goal.returns-in-Some-clause-too_large
returns-in-Some-clause-too_large c = λ imports w n h e. rw c.in-Some.is (c.write_part.ensures.too_large imports w n h e)
