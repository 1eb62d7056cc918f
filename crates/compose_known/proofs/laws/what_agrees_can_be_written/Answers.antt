use Rattle.compose_known.proofs.CompositionLaws.{sound_writable}
use Rattle.compose_known.proofs.laws.what_agrees_can_be_written.Goals as goal

pub returns : goal.returns
returns c = sound_writable (λ left l. (c.what_is_mentioned_is_brought.ensures left l).0)
