use Rattle.warg_model.proofs.RegistryLaws.{the-registry}
use Rattle.warg_model.proofs.SignedLaws.{if-latest-signed}
use Rattle.warg_model.proofs.laws.what_is_signed_is_accepted.Goals as goal

pub returns-clause-honest : goal.returns-clause-honest
returns-clause-honest c accepts h model apart own =
    the-registry (record { none = c.lawful_record_by_record.ensures.none; more = c.lawful_record_by_record.ensures.more; front = c.fronts_are_lawful.ensures.front }) h accepts model own apart

pub returns-clause-signed : goal.returns-clause-signed
returns-clause-signed c accepts h model own = if-latest-signed accepts h h.latest model own model.latest
