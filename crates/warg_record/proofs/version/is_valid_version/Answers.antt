use Rattle.std.proofs.Common.{subst, ◌∙◌}
use Rattle.semver.specs.Identifiers.{parts_of}
use Rattle.warg_record.specs.Answer.{Refuses}
use Rattle.warg_record.specs.Reading.{version_of}
use Rattle.warg_record.proofs.ValidLaws.{valid_by, invalid_by}
use Rattle.warg_record.proofs.version.is_valid_version.Goals as goal

pub returns-in-Ok : goal.returns-in-Ok
returns-in-Ok c =
    valid_by c.as_bytes.result.now (parts_of c.args.version.now) (parts_of c.in-Ok.read) c.have_same_parts.result
    (c.as_bytes.ensures.value ∙ c.in_ok-text.ensures.ok) c.in-Ok.ensures c.have_same_parts.ensures

pub returns-in-Err-Form : goal.returns-in-Err-Form
returns-in-Err-Form c =
    invalid_by c.as_bytes.result.now (parts_of c.args.version.now) (c.as_bytes.ensures.value ∙ c.in_ok-text.ensures.ok)
    (subst (λ e. Refuses e (version_of c.as_bytes.result.now)) c.in-Err-Form.field-0-is c.in-Err-Form.ensures)
