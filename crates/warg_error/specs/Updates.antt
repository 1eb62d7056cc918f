-- How a client tells the errors of updates.
use Rattle.std.specs.Prelude.{ℕ, List}
use Rattle.warg_learn.specs.FetchError.{FetchError}
use Rattle.warg_learn.specs.FetchError.TheVariants as fetch
use Rattle.warg_info.specs.declared.error.TakeError.{TakeError}
use Rattle.warg_info.specs.declared.error.TakeError.TheVariants as take
use Rattle.warg_page.specs.declared.page.PageError.{PageError}
use Rattle.warg_page.specs.declared.page.PageError.TheVariants as page
use Rattle.warg_page.specs.declared.presence.PresenceError.{PresenceError}
use Rattle.warg_page.specs.declared.presence.PresenceError.TheVariants as presence
use Rattle.warg_learn.specs.UpdateRefusal.{UpdateRefusal}
use Rattle.warg_learn.specs.UpdateRefusal.TheVariants as update
use Rattle.warg_update.specs.declared.error.UpdateError.{UpdateError}
use Rattle.warg_update.specs.declared.error.UpdateError.TheVariants as reply
use Rattle.warg_update.specs.declared.signature.SignatureError.{SignatureError}
use Rattle.warg_update.specs.declared.signature.SignatureError.TheVariants as signature
use Rattle.warg_error.specs.Calls.{call_refusal, store_refusal}
use Rattle.warg_error.specs.declared.error.Other.TheVariants as other
use Rattle.warg_error.specs.declared.error.ClientError.{ClientError}
use Rattle.warg_error.specs.declared.error.ClientError.TheVariants as error

-- that a record of an operator's log is refused, and one of a package's
abbrev pub operator_refusal : TakeError → ClientError
operator_refusal take.BadEnvelope = error.Other other.BadEnvelope
operator_refusal (take.Unlawful inner) = error.OperatorValidationFailed inner
operator_refusal take.Memory = error.Memory

abbrev pub package_refusal : List ℕ → TakeError → ClientError
package_refusal name take.BadEnvelope = error.Other other.BadEnvelope
package_refusal name (take.Unlawful inner) = error.PackageValidationFailed name inner
package_refusal name take.Memory = error.Memory

-- that a page is refused
abbrev pub page_refusal : PageError → ClientError
page_refusal (page.Operator e) = operator_refusal e
page_refusal (page.Package name e) = package_refusal name e
page_refusal (page.UnknownLog id) = error.Other (other.UnknownLog id)
page_refusal page.Memory = error.Memory

-- that a log has no record
abbrev pub presence_refusal : PresenceError → ClientError
presence_refusal presence.NoOperatorRecords = error.NoOperatorRecords
presence_refusal (presence.PackageLogEmpty name) = error.PackageLogEmpty name
presence_refusal presence.Memory = error.Memory

-- that a checkpoint is not the operator's
abbrev pub signature_refusal : SignatureError → ClientError
signature_refusal (signature.UnknownKey key_id) = error.InvalidCheckpointKeyId key_id
signature_refusal signature.BadSignature = error.InvalidCheckpointSignature
signature_refusal signature.Memory = error.Memory

-- that a reply is refused. An update over a link feeds no reply that was not asked for
abbrev pub reply_refusal : UpdateError → ClientError
reply_refusal reply.NotAsked = error.Memory
reply_refusal (reply.Api e) = call_refusal e
reply_refusal (reply.PackageDoesNotExist name) = error.PackageDoesNotExist name
reply_refusal (reply.NotBuilt name) = error.NotBuilt
reply_refusal (reply.Page e) = page_refusal e
reply_refusal (reply.Presence e) = presence_refusal e
reply_refusal (reply.Signature e) = signature_refusal e
reply_refusal (reply.Rewound from to) = error.CheckpointLogLengthRewind from to
reply_refusal (reply.Changed log_length) = error.CheckpointChangedLogRootOrMapRoot log_length
reply_refusal reply.Memory = error.Memory

-- that an update proves nothing. One of a single package has no other package with its log
abbrev pub update_refusal : UpdateRefusal → ClientError
update_refusal (update.SameLog id) = error.Memory
update_refusal update.LinkFault = error.LinkFault
update_refusal update.RoundLimit = error.RoundLimit
update_refusal update.BadHeader = error.Other other.BadHeader
update_refusal (update.Reply e) = reply_refusal e
update_refusal update.Memory = error.Memory

-- that a package is not fetched
abbrev pub fetch_refusal : FetchError → ClientError
fetch_refusal (fetch.Store e) = store_refusal e
fetch_refusal (fetch.Update e) = update_refusal e
fetch_refusal fetch.Memory = error.Memory
