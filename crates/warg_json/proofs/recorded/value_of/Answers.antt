use Rattle.std.proofs.Common.{◌≡◌, refl, sym}
use Rattle.warg_json.proofs.HeaderLaws.{is_value, no_value}
use Rattle.warg_json.proofs.recorded.value_of.Goals as goal

pub returns-in-Ok : goal.returns-in-Ok
returns-in-Ok c =
    let test = is_value c.as_str.result.now (λ none. absurd (cc (c.in-Ok.is, c.from_str.ensures.invalid.1 none))) in
    rw (sym c.as_str.ensures, test, c.in-Ok.ensures.ok) refl

pub returns-in-Err-Invalid : goal.returns-in-Err-Invalid
returns-in-Err-Invalid c =
    let test = no_value c.as_str.result.now (c.from_str.ensures.invalid.0 (cc (c.in-Err-Invalid.is, c.in-Err-Invalid.field-0-is))) in
    rw (sym c.as_str.ensures, test) refl
