use Rattle.std.proofs.Common.{◌≡◌, ◌∙◌, ◌<◌, ◌≤◌, length, Err, Option, Some, sym, ap, arith}
use Rattle.std.specs.Borrow.{Bor}
use Rattle.compose_component.specs.declared.component.Component.{Component}
use Rattle.std.proofs.lemmas.Result.{err_from_is_err_and}
use Rattle.comp_encoder.specs.Builder.{entries_of}
use Rattle.comp_format.specs.declared.error.EncodeError.{EncodeError}
use Rattle.comp_format.specs.declared.error.EncodeError.TheVariants as encode_error
use Rattle.comp_format.specs.declared.types.Sort.TheVariants as sort
use Rattle.compose_check.specs.Composition.{component_tree, composition_tree}
use Rattle.compose_encode.proofs.Errors.{err_is}
use Rattle.compose_encode.proofs.HeldLaws.{component_holds, component_large, component_missing, next_is}
use Rattle.compose_encode.proofs.LookLaws.{component_is, component_none, get_there}
use Rattle.compose_encode.proofs.components.write_component.Goals as goal

abbrev some_of : Bor Component → Option (Bor Component)
some_of r = Some r

pub returns-then-number-len-clause-written : goal.returns-then-number-len-clause-written
returns-then-number-len-clause-written c = λ imports w h.
    let past : length c.args.composition.now.components.items ≤ c.args.number = omega arith in
    component_missing (composition_tree c.args.composition.now) imports c.args.output.now w c.args.number (component_none c.args.composition.now c.args.number past) h

pub returns-in_err-index-clause-too_large : goal.returns-in_err-index-clause-too_large
returns-in_err-index-clause-too_large c = λ imports w n h e.
    let p = err_from_is_err_and c.from_residual.result c.from_residual.ensures.1 in
    let same : p.0 ≡ encode_error.TooLarge n = err_is p.0 (encode_error.TooLarge n) (sym p.1 ∙ e) in
    let there : c.args.number < length c.args.composition.now.components.items = omega arith in
    let at = get_there c.args.composition.now.components.items c.args.number c.index-component.result.now there ∙ ap some_of (sym c.index-component.ensures) in
    component_large (composition_tree c.args.composition.now) imports c.args.output.now w c.args.number h n (component_tree c.index-component.result.now) c.bytes.result.now
    (component_is c.args.composition.now c.args.number c.index-component.result.now at) c.bytes.ensures.value (c.in_err-index.ensures.too_large n (ap (λ (x : EncodeError). Err x) (sym p.2 ∙ same)))

pub returns-clause-written : goal.returns-clause-written
returns-clause-written c = λ imports w h.
    let there : c.args.number < length c.args.composition.now.components.items = omega arith in
    let at = get_there c.args.composition.now.components.items c.args.number c.index-component.result.now there ∙ ap some_of (sym c.index-component.ensures) in
    component_holds (composition_tree c.args.composition.now) imports c.args.output.now w c.args.number h (component_tree c.index-component.result.now) c.bytes.result.now c.component_raw.new.self
    (component_is c.args.composition.now c.args.number c.index-component.result.now at) c.bytes.ensures.value c.in_ok-index.ensures.added c.in_ok-index.ensures.fits

pub returns-clause-index : goal.returns-clause-index
returns-clause-index c = λ imports w h lt. c.in_ok-index.ensures.index ∙ next_is sort.Component (entries_of c.args.output.now.builder) w.items h.entries
