-- How an update tells the errors of its parts.
use Rattle.std.specs.Prelude.{if◌then◌else◌, Bool, true, false}
use Rattle.warg_url.specs.declared.domain.HeaderError.{HeaderError}
use Rattle.warg_url.specs.declared.domain.HeaderError.TheVariants as header
use Rattle.warg_api.specs.declared.error.ClientError.{ClientError}
use Rattle.warg_api.specs.declared.error.ClientError.TheVariants as call
use Rattle.warg_page.specs.declared.page.PageError.{PageError}
use Rattle.warg_page.specs.declared.page.PageError.TheVariants as page
use Rattle.warg_page.specs.declared.presence.PresenceError.{PresenceError}
use Rattle.warg_page.specs.declared.presence.PresenceError.TheVariants as presence
use Rattle.warg_update.specs.declared.signature.SignatureError.{SignatureError}
use Rattle.warg_update.specs.declared.signature.SignatureError.TheVariants as signature
use Rattle.warg_update.specs.declared.error.AskError.{AskError}
use Rattle.warg_update.specs.declared.error.AskError.TheVariants as ask
use Rattle.warg_update.specs.declared.error.UpdateError.{UpdateError}
use Rattle.warg_update.specs.declared.error.UpdateError.TheVariants as update

-- ---- want of memory

abbrev pub call_wants_memory : ClientError → Bool
call_wants_memory call.Memory = true
call_wants_memory _ = false

abbrev pub page_wants_memory : PageError → Bool
page_wants_memory page.Memory = true
page_wants_memory _ = false

abbrev pub presence_wants_memory : PresenceError → Bool
presence_wants_memory presence.Memory = true
presence_wants_memory _ = false

abbrev pub signature_wants_memory : SignatureError → Bool
signature_wants_memory signature.Memory = true
signature_wants_memory _ = false

-- ---- each error, as an update tells it

abbrev pub call_error : ClientError → UpdateError
call_error e = if call_wants_memory e then update.Memory else update.Api e

abbrev pub page_error : PageError → UpdateError
page_error e = if page_wants_memory e then update.Memory else update.Page e

abbrev pub presence_error : PresenceError → UpdateError
presence_error e = if presence_wants_memory e then update.Memory else update.Presence e

abbrev pub signature_error : SignatureError → UpdateError
signature_error e = if signature_wants_memory e then update.Memory else update.Signature e

-- that a request can't be built
abbrev pub ask_error : HeaderError → AskError
ask_error header.BadHeader = ask.BadHeader
ask_error header.Memory = ask.Memory
