use Rattle.std.proofs.Common.{sym, ap, subst, ◌∙◌, List, ℕ, map}
use Rattle.std.specs.Prelude.{MatchOption}
use Rattle.comp_entity.specs.declared.entity.Entity.{Entity}
use Rattle.comp_entity.specs.Views.{entity_tree}
use Rattle.compose_agree.specs.LetterCase.{AreApart}
use Rattle.compose_order.specs.Agreed.{export_names}
use Rattle.compose_order.specs.Known.{IsNameClashOf}
use Rattle.compose_order.proofs.OrderLaws.{names_are}
use Rattle.compose_order.proofs.ViewLaws.{entity_instance}
use Rattle.compose_order.proofs.clash.export_clash.Goals as goal

pub returns-in_ok-clash-in-Instance : goal.returns-in_ok-clash-in-Instance
returns-in_ok-clash-in-Instance c =
    subst (λ ns. MatchOption c.in_ok-clash-in-Instance.clash (AreApart ns) (IsNameClashOf ns))
    (ap (λ es. map (λ (e : List ℕ × Entity). e.0) es) c.deref.ensures.value ∙ names_are c.in-Instance.instance.exports.items ∙ ap export_names (sym (entity_instance c.in-Instance.instance)) ∙ ap (λ e. export_names (entity_tree e)) (sym c.in-Instance.is))
    c.in_ok-clash-in-Instance.ensures
