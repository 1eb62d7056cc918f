use Rattle.std.proofs.Common.{◌≡◌, ◌++◌, ◌∷◌, [], ◌<◌, ap, sym, subst, ◌∙◌, arith, get_or, length, map}
use Rattle.std.specs.List.{AllByRecursion}
use Rattle.std.proofs.lemmas.List.{length-map, map-append, map_more}
use Rattle.compose_left.specs.Wiring.{lent_shape, shapes_of}
use Rattle.compose_check.specs.Composition.{component_tree, shape_numbered}
use Rattle.compose_check.proofs.ShapeLaws.{all_at, shape_is}
use Rattle.compose_check.proofs.fit.shapes.Goals as goal

pub loop-number-preserved : goal.loop-number-preserved
loop-number-preserved c =
    let components = c.args.composition.now.components.items in
    let numbers = c.deref-number-items.result.now in
    let number = get_or numbers c.loop-number.number-index 0 in
    let size = length-map components component_tree in
    let made = all_at (λ n. n < length (map component_tree components)) numbers c.loop-number.number-index 0 c.loop-number-test.true (subst (AllByRecursion (λ n. n < length (map component_tree components))) (sym c.deref-number-items.ensures.value) c.requires.made) in
    let below : number < length components = omega (arith, made, size) in
    let one : lent_shape c.types.result ≡ shape_numbered (map component_tree components) number =
    c.types.ensures.value ∙ sym (shape_is components number c.index-component.result.now below c.index-component.ensures) in
    ap shapes_of c.in_ok-push.ensures.items ∙ map-append lent_shape c.loop-number.shapes.items (c.types.result ∷ [])
    ∙ (λ i. c.loop-number.invariant i ++ one i ∷ [])
    ∙ sym (map_more (shape_numbered (map component_tree components)) numbers c.loop-number.number-index 0 c.loop-number-test.true)
