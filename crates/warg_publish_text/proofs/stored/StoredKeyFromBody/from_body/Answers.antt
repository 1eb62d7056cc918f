use Rattle.std.proofs.Common.{◌≡◌, false, refl}
use Rattle.std.proofs.lemmas.Bool.{false_from_ne_true}
use Rattle.warg_record.specs.Key.{is_key_text}
use Rattle.warg_publish_text.proofs.stored.StoredKeyFromBody.from_body.Goals as goal

pub returns-in-Err-Form : goal.returns-in-Err-Form
returns-in-Err-Form c =
    let text = c.in_ok-text.text.now in
    let tested = c.key_texts_are_tested.ensures text c.in_ok-text.ensures.utf8 in
    let none : is_key_text text ≡ false =
    false_from_ne_true _ (λ t. c.new.ensures.form (cc (c.in-Err-Form.is, c.in-Err-Form.field-0-is)) (tested.0 t)) in
    rw (c.in_ok-text.ensures.meant, none) refl
