use Rattle.std.proofs.Common.{sym, subst}
use Rattle.warg_program.specs.Demo.{IsDemonstrationCause}
use Rattle.warg_program.proofs.DemoLaws.{demo_cause}
use Rattle.warg_program.proofs.demo.demonstrated.Goals as goal

pub returns-in-Err-clause-stopped : goal.returns-in-Err-clause-stopped
returns-in-Err-clause-stopped c = subst (λ s. IsDemonstrationCause s c.args.seed c.args.count) (sym c.refusal.ensures) (demo_cause c.in-Err.error c.args.seed c.args.count c.in-Err.ensures.cause)
