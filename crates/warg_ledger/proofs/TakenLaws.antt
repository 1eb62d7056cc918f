-- What an honest registry publishes of a log is never refused.
use Rattle.std.proofs.Common.{◌≡◌, ◌++◌, List, sym, ◌∙◌, ap, subst, append_assoc}
use Rattle.std.proofs.lemmas.List.{map-append}
use Rattle.warg_record.specs.Record.{Kind}
use Rattle.warg_record.specs.Envelope.{Signed}
use Rattle.warg_log.specs.Lawful.{IsLawful}
use Rattle.warg_log.specs.Rules.{Accepts}
use Rattle.warg_exchange.specs.declared.logs.PublishedRecord.{PublishedRecord}
use Rattle.warg_info.specs.declared.error.TakeError.{TakeError}
use Rattle.warg_info.specs.declared.error.TakeError.TheVariants as fault
use Rattle.warg_info.specs.Faults.{FirstFault}
use Rattle.warg_info.specs.Info.{IsLawfulLog}
use Rattle.warg_info.specs.Kept.{Kept, AreKeptAs, Ascends, Grows, signed_log}
use Rattle.warg_ledger.proofs.AscendLaws.{honest-grows}

-- the laws of logs that grow, and of fronts of lawful logs
pub record Laws : Type 0 where
  pub one : (kind : Kind) (old new other : List Kept) (ps : List PublishedRecord) → Grows kind old ps new → Grows kind old ps other → new ≡ other
  pub taken : (kind : Kind) (accepts : Accepts) (old new : List Kept) (ps : List PublishedRecord) (e : TakeError) (kept : List Kept) → Grows kind old ps new → IsLawfulLog kind accepts new → FirstFault e kind accepts old ps kept → e ≡ fault.Memory
  pub front : (kind : Kind) (accepts : Accepts) (log more : List Signed) → IsLawful kind accepts (log ++ more) → IsLawful kind accepts log

-- of an ascending and lawful log, what is published behind its beginning is never refused
pub never-refused : Laws → (e : TakeError) (kind : Kind) (accepts : Accepts) (before next after : List Kept) (ps : List PublishedRecord) (kept : List Kept) → IsLawfulLog kind accepts (before ++ (next ++ after))
    → Ascends (before ++ (next ++ after)) → AreKeptAs kind ps next → FirstFault e kind accepts before ps kept → e ≡ fault.Memory
never-refused laws e kind accepts before next after ps kept lawful ascends are f =
    let parts : signed_log (before ++ (next ++ after)) ≡ signed_log (before ++ next) ++ signed_log after =
    ap signed_log (sym (append_assoc before next after)) ∙ map-append (λ (k : Kept). k.signed) (before ++ next) after in
    let front : IsLawfulLog kind accepts (before ++ next) = laws.front kind accepts (signed_log (before ++ next)) (signed_log after) (subst (IsLawful kind accepts) parts lawful) in
    laws.taken kind accepts before (before ++ next) ps e kept (honest-grows kind before next after ps ascends are) front f
