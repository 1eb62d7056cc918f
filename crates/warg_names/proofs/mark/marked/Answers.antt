use Rattle.std.proofs.Common.{◌++◌, sym, subst, ◌∙◌, codes}
use Rattle.std.specs.Str.{IsUtf8}
use Rattle.std.proofs.lemmas.List.{append-nil}
use Rattle.warg_names.proofs.MarkSteps.{digits_of_another_number, bytes_without_text, unmarked}
use Rattle.warg_names.proofs.mark.marked.Goals as goal

pub returns-then-digits-ne64 : goal.returns-then-digits-ne64
returns-then-digits-ne64 c = unmarked c.args.mark.now c.in_ok-digits.digits.now c.in_ok-digits.ensures (digits_of_another_number c.in_ok-digits.digits.now c.if-digits-ne64.true)

pub returns-in-Err : goal.returns-in-Err
returns-in-Err c =
    let digits = c.in_ok-digits.digits.now in
    let same = sym (append-nil c.copy_from_slice.new.self ∙ c.copy_from_slice.ensures.after ∙ c.as_bytes.ensures.value) in
    unmarked c.args.mark.now digits c.in_ok-digits.ensures
    (bytes_without_text (codes "sha256:" ++ digits) (λ text. c.in-Err.ensures.cases.0 (subst (λ d. IsUtf8 (codes "sha256:" ++ d)) same text)))
