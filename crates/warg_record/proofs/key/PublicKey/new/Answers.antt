use Rattle.std.proofs.lemmas.Bool.{both_ways}
use Rattle.std.proofs.lemmas.Result.{err_from_is_err_and}
use Rattle.warg_record.specs.KeyLaws.{is_key_text-sound, is_key_text-complete}
use Rattle.warg_record.proofs.key.PublicKey.new.Goals as goal

pub returns-in_err-check_form-clause-form : goal.returns-in_err-check_form-clause-form
returns-in_err-check_form-clause-form c = λ h is.
    let p = err_from_is_err_and c.from_residual.result c.from_residual.ensures.1 in
    let k = rw (p.1, p.2) at h in
    both_ways _ (c.in_err-check_form.ensures.form (cc k)) (is_key_text-complete c.args.text.now is)

pub returns-clause-ok : goal.returns-clause-ok
returns-clause-ok c = (c.in_ok-text.ensures, is_key_text-sound c.args.text.now c.utf8.text c.in_ok-check_form.ensures.ok)
