-- Why nothing is assembled of the demo world.
use Rattle.std.proofs.Common.{inl, inr, ap, ℕ}
use Rattle.std.proofs.lemmas.Bool.{false≢true}
use Rattle.warg_demo.specs.Demonstrated.{IsDemoFault}
use Rattle.warg_replay.specs.ClientError.{ClientError}
use Rattle.warg_replay.specs.ClientError.TheVariants as error
use Rattle.warg_program.specs.Assembly.{refusal_of}
use Rattle.warg_program.specs.Demo.{IsDemonstrationCause}
use Rattle.warg_program.proofs.SourceLaws.{is_memory}

pub demo_cause : (e : ClientError) (seed count : ℕ) → IsDemoFault seed count e → IsDemonstrationCause (refusal_of e) seed count
demo_cause error.Memory seed count fault = tt
demo_cause e seed count (inl is) = absurd (false≢true (ap is_memory is))
demo_cause e seed count (inr r) = r
