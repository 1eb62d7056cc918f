use Rattle.std.proofs.Common.{◌≡◌, ◌∙◌, refl, sym}
use Rattle.warg_json.proofs.HeaderLaws.{is_name, no_name}
use Rattle.warg_json.proofs.recorded.name_of.Goals as goal

pub returns-in-Ok : goal.returns-in-Ok
returns-in-Ok c =
    let text : c.as_bytes.result.now ≡ c.args.name.now = c.as_bytes.ensures.value ∙ c.as_str.ensures in
    let test = is_name c.as_bytes.result.now (λ none. absurd (cc (c.in-Ok.is, c.from_bytes.ensures.invalid.1 none))) in
    rw (sym text, test, c.in-Ok.ensures.ok) refl

pub returns-in-Err-Invalid : goal.returns-in-Err-Invalid
returns-in-Err-Invalid c =
    let text : c.as_bytes.result.now ≡ c.args.name.now = c.as_bytes.ensures.value ∙ c.as_str.ensures in
    let test = no_name c.as_bytes.result.now (c.from_bytes.ensures.invalid.0 (cc (c.in-Err-Invalid.is, c.in-Err-Invalid.field-0-is))) in
    rw (sym text, test) refl
