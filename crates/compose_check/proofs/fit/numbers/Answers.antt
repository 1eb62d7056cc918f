use Rattle.std.proofs.Common.{List, ◌≡◌, ◌+◌, ◌<◌, ◌++◌, ◌∷◌, [], ap, arith, length, map, sym, subst, ◌∙◌, take}
use Rattle.std.proofs.lemmas.List.{map-append, take_more}
use Rattle.compose_fit.specs.Seen.{IsNumbered}
use Rattle.compose_fit.specs.declared.numbered.ShapeNumbers.{ShapeNumbers}
use Rattle.compose_check.specs.Shapes.{AreNumbered, lent_shape_tree}
use Rattle.compose_check.proofs.ShapeLaws.{numbered_more}
use Rattle.compose_check.proofs.fit.numbers.Goals as goal

pub loop-number-preserved : goal.loop-number-preserved
loop-number-preserved c =
    let components = c.args.composition.now.components.items in
    let before = map lent_shape_tree (take c.loop-number.number components) in
    let component = c.index-component.result.now in
    let numbers = c.in_ok-of.field-0 in
    let one : IsNumbered c.of.new.table numbers (lent_shape_tree component) = subst (IsNumbered c.of.new.table numbers) c.types.ensures.value c.in_ok-of.ensures.numbers in
    let below : c.loop-number.number < length components = omega arith in
    let both = numbered_more c.loop-number.table c.of.new.table c.in_ok-of.ensures.kept c.loop-number.numbers.items before numbers (lent_shape_tree component) c.loop-number.invariant one in
    let next : before ++ lent_shape_tree component ∷ [] ≡ map lent_shape_tree (take (c.loop-number.number + 1) components) =
    sym (ap (map lent_shape_tree) (take_more components c.loop-number.number component below ∙ ap (λ x. take c.loop-number.number components ++ x ∷ []) (sym c.index-component.ensures)) ∙ map-append lent_shape_tree (take c.loop-number.number components) (component ∷ [])) in
    subst (AreNumbered c.of.new.table c.push.new.self.items) next (subst (λ ns. AreNumbered c.of.new.table ns (before ++ lent_shape_tree component ∷ [])) (sym {A = List ShapeNumbers} c.in_ok-push.ensures.items) both)
