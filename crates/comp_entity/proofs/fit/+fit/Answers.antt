use Rattle.std.proofs.Common.{sym, ◌∙◌}
use Rattle.comp_entity.specs.Comparing.{entity_suits, exports_suit}
use Rattle.comp_entity.proofs.ViewLaws.{instances_suit}
use Rattle.comp_entity.proofs.fit.+fit.Goals as goal

pub entity_fits-returns-in-Instance-Instance : goal.entity_fits-returns-in-Instance-Instance
entity_fits-returns-in-Instance-Instance t c =
    c.exports_fit.ensures ∙ (λ i. exports_suit c.args.naming.now (c.deref-in-Instance-Instance.ensures.value i) (c.deref.ensures.value i))
    ∙ sym (instances_suit c.args.naming.now c.in-Instance-Instance.given c.in-Instance-Instance.asked)
    ∙ (λ i. entity_suits c.args.naming.now (sym c.in-Instance-Instance.is-1 i) (sym c.in-Instance-Instance.is-0 i))
