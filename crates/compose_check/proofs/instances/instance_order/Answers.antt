use Rattle.std.proofs.Common.{◌≡◌, length, ap, subst, ◌∙◌, arith}
use Rattle.compose_agree.specs.Order.{HasPlaces, IsOrder, Ordered, all_of, is_ready, needs_of}
use Rattle.compose_check.specs.Checked.{sources}
use Rattle.compose_check.specs.Composition.{composition_tree}
use Rattle.compose_check.proofs.InstanceLaws.{all_sources, no_circle}
use Rattle.compose_check.proofs.instances.instance_order.Goals as goal

pub returns-in-Whole-clause-no_circle : goal.returns-in-Whole-clause-no_circle
returns-in-Whole-clause-no_circle c =
    let tree = composition_tree c.args.composition.now in
    let needs = needs_of c.deref-2.result.now in
    let count : c.len.result ≡ length tree.instances = omega arith in
    let is : needs ≡ sources tree = ap needs_of c.deref-2.ensures.value ∙ c.in_ok-given.ensures ∙ (λ i. all_sources (c.deref.ensures.value i) (count i)) in
    let in_order : IsOrder (is_ready needs) (all_of needs) c.in-Whole.order.items = subst (Ordered (is_ready needs) (all_of needs)) c.in-Whole.is c.in_ok-order.ensures.order in
    let places = c.only_circles_have_no_order.ensures.places needs c.in-Whole.order.items in_order in
    no_circle tree c.requires places.0 (subst (λ ns. HasPlaces ns places.0) is places.1)
