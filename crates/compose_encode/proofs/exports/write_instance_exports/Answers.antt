use Rattle.std.proofs.Common.{◌≡◌, ◌∙◌, ◌<◌, ℕ, length, Err, sym, ap, subst, arith, take}
use Rattle.std.specs.List.{fold}
use Rattle.std.proofs.lemmas.List.FromFn.{get_or-map-range_with_len, length-map-range_with_len}
use Rattle.std.proofs.lemmas.Result.{err_from_is_err_and}
use Rattle.comp_format.specs.declared.error.EncodeError.{EncodeError}
use Rattle.comp_format.specs.declared.error.EncodeError.TheVariants as encode_error
use Rattle.compose_check.specs.Composition.{composition_tree}
use Rattle.compose_encode.specs.Held.{Holds}
use Rattle.compose_encode.specs.Numbers.{IsTooLarge}
use Rattle.compose_encode.proofs.Errors.{err_is}
use Rattle.compose_encode.proofs.HeldLaws.{export_extends, loop_end, loop_large, loop_more}
use Rattle.compose_image.specs.Instances.{Part, parts_of, shape_of, with_export}
use Rattle.compose_encode.proofs.exports.write_instance_exports.Goals as goal

abbrev nowhere : Part
nowhere = (0, 0)

pub returns-in_err-write_export-clause-too_large : goal.returns-in_err-write_export-clause-too_large
returns-in_err-write_export-clause-too_large c = λ imports w n h e.
    let p = err_from_is_err_and c.from_residual.result c.from_residual.ensures.1 in
    let same : p.0 ≡ encode_error.TooLarge n = err_is p.0 (encode_error.TooLarge n) (sym p.1 ∙ e) in
    let k = composition_tree c.args.composition.now in
    let f : ℕ → Part = λ n. (c.args.instance, n) in
    let count = length (shape_of k c.args.instance).exports in
    let all = length-map-range_with_len f 0 count in
    let i = c.loop-export.export in
    let lt : i < count = omega (arith, c.export_count-export-end.ensures) in
    let v = fold (with_export k) w (take i (parts_of k c.args.instance)) in
    loop_large (with_export k) (export_extends k) (parts_of k c.args.instance) imports w n i nowhere (omega (arith, all, lt))
    (subst (λ (x : Part). IsTooLarge n imports (with_export k v x).items) (sym (get_or-map-range_with_len f 0 count i i nowhere lt (omega arith)))
    (c.in_err-write_export.ensures.too_large imports v n (c.loop-export.invariant imports w h) (ap (λ (x : EncodeError). Err x) (sym p.2 ∙ same))))

pub loop-export-preserved : goal.loop-export-preserved
loop-export-preserved c = λ imports w h.
    let k = composition_tree c.args.composition.now in
    let f : ℕ → Part = λ n. (c.args.instance, n) in
    let count = length (shape_of k c.args.instance).exports in
    let all = length-map-range_with_len f 0 count in
    let i = c.loop-export.export in
    let lt : i < count = omega (arith, c.export_count-export-end.ensures) in
    let v = fold (with_export k) w (take i (parts_of k c.args.instance)) in
    loop_more (with_export k) (export_extends k) (parts_of k c.args.instance) imports w c.write_export.new.output i nowhere (omega (arith, all, lt))
    (subst (λ (x : Part). Holds imports c.write_export.new.output (with_export k v x)) (sym (get_or-map-range_with_len f 0 count i i nowhere lt (omega arith)))
    (c.in_ok-write_export.ensures.written imports v (c.loop-export.invariant imports w h)))

pub returns-clause-written : goal.returns-clause-written
returns-clause-written c = λ imports w h.
    let k = composition_tree c.args.composition.now in
    let f : ℕ → Part = λ n. (c.args.instance, n) in
    let all = length-map-range_with_len f 0 (length (shape_of k c.args.instance).exports) in
    loop_end (with_export k) (export_extends k) (parts_of k c.args.instance) imports w c.loop-export.output c.loop-export.export (omega (arith, all, c.export_count-export-end.ensures)) (c.loop-export.invariant imports w h)
