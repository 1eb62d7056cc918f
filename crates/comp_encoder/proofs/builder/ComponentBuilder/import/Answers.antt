use Rattle.std.proofs.Common.{◌≡◌, ◌+◌, Result, Err, sym, ap, ◌∙◌, inr}
use Rattle.std.proofs.lemmas.Result.{err_from_is_err_and}
use Rattle.comp_format.specs.declared.error.EncodeError.{EncodeError}
use Rattle.comp_format.specs.declared.error.EncodeError.TheVariants as encode_error
use Rattle.comp_encoder.specs.Builder.{entries_of}
use Rattle.comp_encoder.specs.Writing.{next_index}
use Rattle.comp_encoder.proofs.builder.ComponentBuilder.import.Goals as goal

abbrev failed : {A : Type 0} → EncodeError → Result A EncodeError
failed x = Err x

err_is : {A : Type 0} (x y : EncodeError) → failed {A = A} x ≡ failed y → x ≡ y
err_is x y e = cc

pub returns-in_err-index-clause-too_large : goal.returns-in_err-index-clause-too_large
returns-in_err-index-clause-too_large c = λ n e.
    let p = err_from_is_err_and c.from_residual.result c.from_residual.ensures.1 in
    let same : p.0 ≡ encode_error.TooLarge n = err_is p.0 (encode_error.TooLarge n) (sym p.1 ∙ e) in
    let refused = c.in_err-index.ensures.too_large n (ap (λ (x : EncodeError). Err x) (sym p.2 ∙ same)) in
    (refused.1, inr (refused.0 ∙ ap (λ s. next_index s (entries_of c.args.self.now) + 1) c.described_sort-sort.ensures))
