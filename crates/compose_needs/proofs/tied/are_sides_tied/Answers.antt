use Rattle.std.proofs.Common.{rules, ◌≡◌, [], false, map, ◌∙◌}
use Rattle.std.specs.BTreeSet.{contains}
use Rattle.compose_left.specs.declared.spots.Thing.{Thing}
use Rattle.compose_left.specs.Wired.{thing_cmp}
use Rattle.compose_needs.specs.Tied.{are_tied, near_place}
use Rattle.compose_needs.proofs.SideLaws.{sides_leaves}
use Rattle.compose_needs.proofs.tied.are_sides_tied.Goals as goal

pub returns : goal.returns
returns c =
    let nothing : (t : Thing) → contains thing_cmp c.new-seen.result t ≡ false = λ t. search rules in
    c.in_ok-tied.ensures.tied [] nothing
    ∙ (λ i. are_tied [] (c.deref-4.ensures.value i)) ∙ (λ i. are_tied [] (c.in_ok-places.ensures i)) ∙ (λ i. are_tied [] (map near_place (c.deref-3.ensures.value i)))
    ∙ (λ i. are_tied [] (map near_place (sides_leaves c.args.component.now _ _ _ _ _ _ c.new-path.ensures c.new-leaves.ensures.items c.in_ok-push_inner_leaves.ensures c.in_ok-push_inner_leaves-2.ensures c.deref.ensures.value c.deref-2.ensures.value i)))
