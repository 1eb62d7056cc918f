use Rattle.std.proofs.Common.{rules, ◌≡◌, [], false, ap, sym, ◌∙◌}
use Rattle.std.specs.BTreeSet.{contains}
use Rattle.std.specs.Prelude.{◌&&◌}
use Rattle.compose_left.specs.declared.spots.Thing.{Thing}
use Rattle.compose_left.specs.Wired.{thing_cmp}
use Rattle.compose_needs.specs.Tied.{are_tied, entity_holds_tied}
use Rattle.compose_order.specs.Known.{known_left}
use Rattle.compose_order.proofs.needs.is_brought.Goals as goal

pub returns : goal.returns
returns c = λ w o.
    let nothing : (t : Thing) → contains thing_cmp c.new-seen.result t ≡ false = λ t. search rules in
    let tied = sym (c.in_ok-are_tied.ensures.tied [] nothing ∙ ap (are_tied []) (c.deref.ensures.value ∙ c.in_ok-places.ensures w o)) ∙ c.if-not-branch.false in
    c.in_ok-holds_tied.ensures ∙ (λ i. sym tied i && entity_holds_tied (known_left c.args.known.now).entity)
