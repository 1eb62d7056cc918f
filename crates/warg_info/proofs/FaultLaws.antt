-- How a broken rule is told.
use Rattle.std.proofs.Common.{◌≡◌, List, Bool, true, false, refl}
use Rattle.std.specs.Prelude.{cond}
use Rattle.warg_record.specs.Record.{Kind}
use Rattle.warg_record.specs.Envelope.{Signed}
use Rattle.warg_log.specs.Breaches.{IsBreach, wants_memory}
use Rattle.warg_log.specs.Rules.{Accepts, breach_of}
use Rattle.warg_log.specs.declared.error.ValidationError.{ValidationError}
use Rattle.warg_exchange.specs.declared.logs.PublishedRecord.{PublishedRecord}
use Rattle.warg_info.specs.declared.error.TakeError.{TakeError}
use Rattle.warg_info.specs.declared.error.TakeError.TheVariants as error
use Rattle.warg_info.specs.Kept.{Kept, IsKeptAs, signed_log, is_above, last_index}
use Rattle.warg_info.specs.Faults.{IsKeepFault, IsTakeFault, take_error}

by_want : (e : ValidationError) (b : Bool) (kind : Kind) (accepts : Accepts) (log : List Kept) (s : Signed) → wants_memory e ≡ b → IsBreach e (breach_of kind accepts (signed_log log) s) → IsKeepFault (cond b error.Memory (error.Unlawful e)) kind accepts log s
by_want e true kind accepts log s is breach = tt
by_want e false kind accepts log s is breach = (is, breach)

pub keep_fault : (e : ValidationError) (kind : Kind) (accepts : Accepts) (log : List Kept) (s : Signed) → IsBreach e (breach_of kind accepts (signed_log log) s) → IsKeepFault (take_error e) kind accepts log s
keep_fault e kind accepts log s breach = by_want e (wants_memory e) kind accepts log s refl breach

pub take_fault : (e : TakeError) (kind : Kind) (accepts : Accepts) (log : List Kept) (p : PublishedRecord) (k : Kept) → is_above p.registry_index (last_index log) ≡ true → IsKeptAs kind p k → IsKeepFault e kind accepts log k.signed → IsTakeFault e kind accepts log p
take_fault error.BadEnvelope kind accepts log p k new is fault = absurd fault
take_fault (error.Unlawful e) kind accepts log p k new is fault = record { new = new; envelope = k; is = is; unlawful = fault }
take_fault error.Memory kind accepts log p k new is fault = tt
