use Rattle.std.proofs.Common.{◌≡◌, ◌∙◌, ℕ, List, Err, All, sym, ap, subst}
use Rattle.std.specs.Prelude.{OnOk}
use Rattle.std.specs.List.{AllByRecursion}
use Rattle.std.proofs.lemmas.List.Elements.{All-from_recursion}
use Rattle.std.proofs.lemmas.Result.{err_from_is_err_and}
use Rattle.comp_format.specs.declared.error.EncodeError.{EncodeError}
use Rattle.comp_format.specs.declared.error.EncodeError.TheVariants as encode_error
use Rattle.comp_format.specs.declared.types.Arg.{Arg}
use Rattle.compose_check.specs.Composition.{HasEnds, wiring}
use Rattle.compose_image.specs.Instances.{args_of, by_source, component_index, wires_of, with_instance, with_parts}
use Rattle.compose_encode.specs.Held.{Holds, with_made}
use Rattle.compose_encode.specs.Looked.{lent_tree}
use Rattle.compose_encode.specs.Numbers.{IsTooLarge}
use Rattle.compose_encode.proofs.Errors.{err_is}
use Rattle.compose_encode.proofs.HeldLaws.{index_large, instance_behind, large_still}
use Rattle.compose_encode.proofs.LookLaws.{IsNamedArg, args_named, ends_into}
use Rattle.compose_encode.proofs.instances.write_instance.Goals as goal

pub write_parts-requires : goal.write_parts-requires
write_parts-requires c =
    let k = lent_tree c.args.tables.now in
    let same = c.deref.ensures.value ∙ c.in_ok-wires.ensures ∙ ap by_source (c.requires.wires.wires c.args.instance) in
    subst (λ ws. AllByRecursion (HasEnds (wiring k)) ws) (sym same) (ends_into k c.args.instance c.requires.wires.ends)

pub returns-in_err-write_parts-clause-too_large : goal.returns-in_err-write_parts-clause-too_large
returns-in_err-write_parts-clause-too_large c = λ define imports w n t h e.
    let p = err_from_is_err_and c.from_residual-in_err-write_parts.result c.from_residual-in_err-write_parts.ensures.1 in
    let is : p.0 ≡ encode_error.TooLarge n = err_is p.0 (encode_error.TooLarge n) (sym p.1 ∙ e) in
    let k = lent_tree c.args.tables.now in
    let i = c.args.instance in
    let same = c.deref.ensures.value ∙ c.in_ok-wires.ensures ∙ ap by_source (c.requires.wires.wires i) in
    let large = c.in_err-write_parts.ensures.too_large imports w n h (ap (λ (x : EncodeError). Err x) (sym p.2 ∙ is)) in
    large_still n imports (with_parts k w (wires_of k i)) (with_instance k define imports w i) (instance_behind k define imports w i)
    (subst (λ ws. IsTooLarge n imports (with_parts k w ws).items) same large)

pub returns-in_err-component-clause-too_large : goal.returns-in_err-component-clause-too_large
returns-in_err-component-clause-too_large c = λ define imports w n t h e.
    let p = err_from_is_err_and c.from_residual-in_err-component.result c.from_residual-in_err-component.ensures.1 in
    let is : p.0 ≡ encode_error.TooLarge n = err_is p.0 (encode_error.TooLarge n) (sym p.1 ∙ e) in
    let k = lent_tree c.args.tables.now in
    let i = c.args.instance in
    let same = c.deref.ensures.value ∙ c.in_ok-wires.ensures ∙ ap by_source (c.requires.wires.wires i) in
    let held = subst (λ ws. Holds imports c.write_parts.new.output (with_parts k w ws)) same (c.in_ok-write_parts.ensures.written imports w h) in
    let large = c.in_err-component.ensures.too_large define imports n t (ap (λ (x : EncodeError). Err x) (sym p.2 ∙ is)) in
    index_large imports c.write_parts.new.output c.write_parts.new.output (with_parts k w (wires_of k i)) i (component_index k define imports i) (args_of k imports (with_parts k w (wires_of k i)) i) held n large.0 large.1

pub add_instance-requires : goal.add_instance-requires
add_instance-requires c =
    let k = lent_tree c.args.tables.now in
    let i = c.args.instance in
    let same = c.deref.ensures.value ∙ c.in_ok-wires.ensures ∙ ap by_source (c.requires.wires.wires i) in
    let imports = c.requires.held.imports in
    let w = c.requires.held.written in
    let held = subst (λ ws. Holds imports c.write_parts.new.output (with_parts k w ws)) same (c.in_ok-write_parts.ensures.written imports w c.requires.held.holds) in
    let args = c.deref-3.ensures.value ∙ c.in_ok-args.ensures c.requires.held.define imports (with_parts k w (wires_of k i)) c.requires.held.tables held in
    subst (λ (xs : List Arg). All IsNamedArg xs) (sym args)
    (All-from_recursion IsNamedArg (args_of k imports (with_parts k w (wires_of k i)) i) (args_named k imports (with_parts k w (wires_of k i)) i c.requires.wires.ends c.requires.wires.named))

pub returns-clause-written : goal.returns-clause-written
returns-clause-written c = λ define imports w t h.
    let k = lent_tree c.args.tables.now in
    let i = c.args.instance in
    let same = c.deref.ensures.value ∙ c.in_ok-wires.ensures ∙ ap by_source (c.requires.wires.wires i) in
    let given = with_parts k w (wires_of k i) in
    let held = subst (λ ws. Holds imports c.write_parts.new.output (with_parts k w ws)) same (c.in_ok-write_parts.ensures.written imports w h) in
    let args = c.deref-3.ensures.value ∙ c.in_ok-args.ensures define imports given t held in
    let component = c.in_ok-component.ensures.index define imports t in
    subst (λ (x : ℕ × List Arg). OnOk c.add_instance.result (Holds imports c.add_instance.new.output (with_made given i x.0 x.1))) (λ j. (component j, args j)) (c.add_instance.ensures.written imports given held)

pub returns-clause-too_large : goal.returns-clause-too_large
returns-clause-too_large c = λ define imports w n t h e.
    let k = lent_tree c.args.tables.now in
    let i = c.args.instance in
    let same = c.deref.ensures.value ∙ c.in_ok-wires.ensures ∙ ap by_source (c.requires.wires.wires i) in
    let given = with_parts k w (wires_of k i) in
    let held = subst (λ ws. Holds imports c.write_parts.new.output (with_parts k w ws)) same (c.in_ok-write_parts.ensures.written imports w h) in
    let args = c.deref-3.ensures.value ∙ c.in_ok-args.ensures define imports given t held in
    let component = c.in_ok-component.ensures.index define imports t in
    subst (λ (x : ℕ × List Arg). IsTooLarge n imports (with_made given i x.0 x.1).items) (λ j. (component j, args j)) (c.add_instance.ensures.too_large imports given n held e)
