use Rattle.std.proofs.Common.{◌≡◌, ◌∙◌, ◌++◌, Err, sym, ap, subst}
use Rattle.std.proofs.lemmas.Result.{err_from_is_err_and}
use Rattle.comp_format.specs.declared.error.EncodeError.{EncodeError}
use Rattle.comp_format.specs.declared.error.EncodeError.TheVariants as encode_error
use Rattle.compose_check.specs.Composition.{composition_tree}
use Rattle.compose_image.specs.Instances.{component_items, written}
use Rattle.compose_left.specs.Wired.{FindsWires}
use Rattle.compose_encode.specs.Held.{begun}
use Rattle.compose_encode.proofs.Errors.{err_is}
use Rattle.compose_encode.proofs.HeldLaws.{large_still, written_extends}
use Rattle.compose_encode.proofs.encode.build.Goals as goal

pub returns-in_err-first-clause-too_large : goal.returns-in_err-first-clause-too_large
returns-in_err-first-clause-too_large c = λ imports n a e.
    let p = err_from_is_err_and c.from_residual-in_err-first.result c.from_residual-in_err-first.ensures.1 in
    let same : p.0 ≡ encode_error.TooLarge n = err_is p.0 (encode_error.TooLarge n) (sym p.1 ∙ e) in
    let k = composition_tree c.args.composition.now in
    large_still n imports (begun (imports ++ component_items k c.args.define)) (written k c.args.define c.args.export c.args.order.now imports)
    (written_extends k c.args.define c.args.export c.args.order.now imports)
    (c.in_err-first.ensures.too_large imports n (c.new-output.ensures imports a.entries) (ap (λ (x : EncodeError). Err x) (sym p.2 ∙ same)))

pub write_made-requires-clause-held : goal.write_made-requires-clause-held
write_made-requires-clause-held c =
    let k = composition_tree c.args.composition.now in
    let imports = c.requires.imported.0 in
    let held = c.new-output.ensures imports c.requires.imported.1.entries in
    record {
      define = c.args.define;
      imports = imports;
      written = begun (imports ++ component_items k c.args.define);
      tables = record {
        inputs = subst (λ ws. FindsWires c.in_ok-inputs.inputs ws) c.deref-3.ensures.value c.in_ok-inputs.ensures;
        names = c.requires.imported.1.names;
        made = c.requires.writable.composition.made;
        ranks = c.in_ok-used.ensures.ranks;
        first = c.in_ok-first.ensures.index imports held;
      };
      holds = c.in_ok-first.ensures.written imports held;
    }

pub returns-in_err-write_made-clause-too_large : goal.returns-in_err-write_made-clause-too_large
returns-in_err-write_made-clause-too_large c = λ imports n a e.
    let p = err_from_is_err_and c.from_residual-in_err-write_made.result c.from_residual-in_err-write_made.ensures.1 in
    let same : p.0 ≡ encode_error.TooLarge n = err_is p.0 (encode_error.TooLarge n) (sym p.1 ∙ e) in
    let k = composition_tree c.args.composition.now in
    let held = c.new-output.ensures imports a.entries in
    c.in_err-write_made.ensures.too_large c.args.define imports (begun (imports ++ component_items k c.args.define)) n
    (record {
      inputs = subst (λ ws. FindsWires c.in_ok-inputs.inputs ws) c.deref-3.ensures.value c.in_ok-inputs.ensures;
      names = a.names;
      made = c.requires.writable.composition.made;
      ranks = c.in_ok-used.ensures.ranks;
      first = c.in_ok-first.ensures.index imports held;
    })
    (c.in_ok-first.ensures.written imports held) (ap (λ (x : EncodeError). Err x) (sym p.2 ∙ same))

pub returns-clause-written : goal.returns-clause-written
returns-clause-written c = λ imports a.
    let k = composition_tree c.args.composition.now in
    let held = c.new-output.ensures imports a.entries in
    c.in_ok-write_made.ensures.written c.args.define imports (begun (imports ++ component_items k c.args.define))
    (record {
      inputs = subst (λ ws. FindsWires c.in_ok-inputs.inputs ws) c.deref-3.ensures.value c.in_ok-inputs.ensures;
      names = a.names;
      made = c.requires.writable.composition.made;
      ranks = c.in_ok-used.ensures.ranks;
      first = c.in_ok-first.ensures.index imports held;
    })
    (c.in_ok-first.ensures.written imports held)
