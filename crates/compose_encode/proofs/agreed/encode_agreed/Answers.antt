use Rattle.std.proofs.Common.{◌≡◌, ◌∙◌, [], ◌∷◌, Err, ap, inl, inr, map, subst, sym}
use Rattle.std.proofs.lemmas.Result.{err_from_is_err_and}
use Rattle.comp_format.specs.declared.error.EncodeError.{EncodeError}
use Rattle.comp_format.specs.declared.error.EncodeError.TheVariants as encode_error
use Rattle.compose_check.specs.Composition.{composition_tree}
use Rattle.compose_image.specs.Imports.{imports_of}
use Rattle.compose_order.specs.Known.{left_tree}
use Rattle.compose_writing.specs.Scopes.{outermost}
use Rattle.compose_encode.specs.Encoded.{IsTooLargeFor}
use Rattle.compose_encode.proofs.AgreedLaws.{items_are, large_for, largest_alone}
use Rattle.compose_encode.proofs.Errors.{err_is}
use Rattle.compose_encode.proofs.agreed.encode_agreed.Goals as goal

pub returns-in_err-bytes-clause-too_large : goal.returns-in_err-bytes-clause-too_large
returns-in_err-bytes-clause-too_large c = λ n e.
    let w = c.in_ok-imported.ensures.written in
    let p = err_from_is_err_and c.from_residual-in_err-bytes.result c.from_residual-in_err-bytes.ensures.1 in
    let same : p.0 ≡ encode_error.TooLarge n = err_is p.0 (encode_error.TooLarge n) (sym p.1 ∙ e) in
    large_for n (composition_tree c.args.composition.now) c.args.define c.args.export c.args.order.now w.0
    (c.in_err-bytes.ensures.too_large w.0 n w.2 (ap (λ (x : EncodeError). Err x) (sym p.2 ∙ same)))

pub returns-in_err-imported-clause-among : goal.returns-in_err-imported-clause-among
returns-in_err-imported-clause-among c = λ n e.
    let k = composition_tree c.args.composition.now in
    let lefts = map left_tree c.args.lefts.items in
    let p = err_from_is_err_and c.from_residual.result c.from_residual.ensures.1 in
    let same : p.0 ≡ encode_error.TooLarge n = err_is p.0 (encode_error.TooLarge n) (sym p.1 ∙ e) in
    let written = c.what_can_be_imported_is_written.ensures (imports_of k c.args.define lefts) outermost c.requires.imports in
    record {
      scope = written.0;
      imports = written.1;
      among =
          inl (largest_alone n written.0 (c.in_err-imported.ensures.among n (written.0 ∷ [])
          (ap (λ (x : EncodeError). Err x) (sym p.2 ∙ same)) written.1));
    }

pub returns-in_err-bytes-clause-among : goal.returns-in_err-bytes-clause-among
returns-in_err-bytes-clause-among c = λ n e.
    let k = composition_tree c.args.composition.now in
    let ls = imports_of k c.args.define (map left_tree c.args.lefts.items) in
    let w = c.in_ok-imported.ensures.written in
    let p = err_from_is_err_and c.from_residual-in_err-bytes.result c.from_residual-in_err-bytes.ensures.1 in
    let same : p.0 ≡ encode_error.TooLarge n = err_is p.0 (encode_error.TooLarge n) (sym p.1 ∙ e) in
    let written = c.what_can_be_imported_is_written.ensures ls outermost c.requires.imports in
    record {
      scope = written.0;
      imports = written.1;
      among =
          inr (subst (IsTooLargeFor n k c.args.define c.args.export c.args.order.now) (items_are ls written.0 w.0 written.1 w.1)
          (c.in_err-bytes.ensures.too_large w.0 n w.2 (ap (λ (x : EncodeError). Err x) (sym p.2 ∙ same))));
    }

pub returns-clause-encoded : goal.returns-clause-encoded
returns-clause-encoded c =
    let w = c.in_ok-imported.ensures.written in
    (w.0, w.1, c.in_ok-bytes.ensures.encoded w.0 w.2)

pub returns-clause-fits : goal.returns-clause-fits
returns-clause-fits c =
    let w = c.in_ok-imported.ensures.written in
    (w.0, w.1, c.in_ok-bytes.ensures.fits w.0 w.2)
