use Rattle.comp_encoder.proofs.RunLaws.{laid_none}
use Rattle.comp_encoder.proofs.built.Built.new.Goals as goal

pub invariant_of-result : goal.invariant_of-result
invariant_of-result c = rw (c.new-3.ensures, c.new.ensures.items, c.new-2.ensures.items) laid_none
