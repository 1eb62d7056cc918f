-- How an update over a link tells the errors of its parts.
use Rattle.warg_page.specs.declared.ids.IdsError.{IdsError}
use Rattle.warg_page.specs.declared.ids.IdsError.TheVariants as ids
use Rattle.warg_update.specs.declared.error.AskError.{AskError}
use Rattle.warg_update.specs.declared.error.AskError.TheVariants as ask
use Rattle.warg_session.specs.declared.error.UpdateRefusal.{UpdateRefusal}
use Rattle.warg_session.specs.declared.error.UpdateRefusal.TheVariants as refusal

-- that nothing is asked
abbrev pub ask_refusal : AskError → UpdateRefusal
ask_refusal ask.RoundLimit = refusal.RoundLimit
ask_refusal ask.BadHeader = refusal.BadHeader
ask_refusal ask.Memory = refusal.Memory

-- that two packages have one log
abbrev pub ids_refusal : IdsError → UpdateRefusal
ids_refusal (ids.SameLog id) = refusal.SameLog id
ids_refusal ids.Memory = refusal.Memory
