use Rattle.std.proofs.Common.{◌≡◌, ◌++◌, List, ℕ, codes, rules, subst, sym, ap, ◌∙◌}
use Rattle.http_header.specs.FieldValue.{IsFieldValue}
use Rattle.warg_request.proofs.headers.bearer_value.Goals as goal

pub returns-in-Err-Invalid-clause-bad_header : goal.returns-in-Err-Invalid-clause-bad_header
returns-in-Err-Invalid-clause-bad_header c = λ same valid.
    let text : c.deref.result.now ≡ codes "Bearer " ++ c.args.token.now = c.deref.ensures ∙ c.in_ok-text.ensures ∙ ap (λ (t : List ℕ). codes "Bearer " ++ t) c.as_str.ensures in
    let bad : IsFieldValue c.deref.result.now → ⊥ = search rules in
    bad (subst IsFieldValue (sym text) valid)
