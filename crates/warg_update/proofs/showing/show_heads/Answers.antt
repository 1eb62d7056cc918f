use Rattle.std.proofs.Common.{inr}
use Rattle.warg_update.specs.declared.error.UpdateError.TheVariants as update
use Rattle.warg_update.specs.Errors.{call_wants_memory}
use Rattle.warg_update.specs.FeedFaults.{IsHeadsFault}
use Rattle.warg_page.specs.Views.{logs_view}
use Rattle.warg_update.proofs.ToldLaws.{told}
use Rattle.warg_update.proofs.showing.show_heads.Goals as goal

pub returns-clause-err : goal.returns-clause-err
returns-clause-err c sound stored =
    let x = c.inclusion_error.result in
    rw (c.from.ensures) (told (λ e. IsHeadsFault e (logs_view c.args.operator.now c.args.packages.now) c.args.checkpoint.now stored c.args.reply.now) (call_wants_memory x) update.Memory (update.Api x) (λ memory. tt)
    (λ other. (other, inr (c.in_ok-bundles.bundles, c.in_ok-bundles.ensures.ok, c.in-Err.fault, c.inclusion_error.ensures, c.in-Err.ensures.err sound))))
