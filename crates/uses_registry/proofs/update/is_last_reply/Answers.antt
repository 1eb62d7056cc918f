use Rattle.warg_page.specs.Views.{logs_view}
use Rattle.uses_registry.proofs.update.is_last_reply.Goals as goal

pub returns-in-Some : goal.returns-in-Some
returns-in-Some g c = λ a start xs request asked stands yes.
    (logs_view c.in-Some.field-0.operator.now c.in-Some.field-0.packages.now, c.in-Some.field-0.checkpoint.now, c.in-Some.ensures.proves _ a start _ (c.in_ok-feed.ensures.stands a start xs request asked stands))
