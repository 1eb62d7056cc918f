use Rattle.std.proofs.Common.{◌≡◌, ◌∙◌, ◌<◌, Err, length, get_or, sym, ap, subst, arith}
use Rattle.std.specs.List.{fold}
use Rattle.std.proofs.lemmas.Result.{err_from_is_err_and}
use Rattle.std.proofs.lemmas.Slice.{first_rest}
use Rattle.comp_format.specs.declared.error.EncodeError.{EncodeError}
use Rattle.comp_format.specs.declared.error.EncodeError.TheVariants as encode_error
use Rattle.compose_check.specs.Composition.{composition_tree}
use Rattle.compose_encode.specs.Held.{Holds, with_component}
use Rattle.compose_encode.proofs.Errors.{err_is}
use Rattle.compose_encode.proofs.HeldLaws.{component_extends, large_first}
use Rattle.compose_encode.proofs.LookLaws.{all_at}
use Rattle.compose_encode.proofs.components.write_all.Goals as goal

pub returns-in_err-index-in-len1-up-clause-too_large : goal.returns-in_err-index-in-len1-up-clause-too_large
returns-in_err-index-in-len1-up-clause-too_large c = λ imports w n h e.
    let p = err_from_is_err_and c.from_residual.result c.from_residual.ensures.1 in
    let same : p.0 ≡ encode_error.TooLarge n = err_is p.0 (encode_error.TooLarge n) (sym p.1 ∙ e) in
    let k = composition_tree c.args.composition.now in
    let xs = c.args.numbers.now in
    large_first (with_component k) (component_extends k) xs (get_or xs 0 0) _ n imports w (first_rest xs 0 (omega arith))
    (c.in_err-index-in-len1-up.ensures.too_large imports w n h (ap (λ (x : EncodeError). Err x) (sym p.2 ∙ same)))

pub returns-in_ok-write_each-in-len1-up-clause-written : goal.returns-in_ok-write_each-in-len1-up-clause-written
returns-in_ok-write_each-in-len1-up-clause-written c = λ imports w h.
    let k = composition_tree c.args.composition.now in
    let xs = c.args.numbers.now in
    subst (λ ys. Holds imports c.write_each.new.output (fold (with_component k) w ys)) (sym (first_rest xs 0 (omega arith)))
    (c.in_ok-write_each-in-len1-up.ensures.written imports (with_component k w (get_or xs 0 0)) (c.in_ok-index-in-len1-up.ensures.written imports w h))

pub returns-in_ok-write_each-in-len1-up-clause-index : goal.returns-in_ok-write_each-in-len1-up-clause-index
returns-in_ok-write_each-in-len1-up-clause-index c = λ imports w h lt.
    let k = composition_tree c.args.composition.now in
    c.in_ok-index-in-len1-up.ensures.index imports w h (all_at (λ n. n < length k.components) c.args.numbers.now 0 0 c.requires lt)
