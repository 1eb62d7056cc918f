use Rattle.std.proofs.Common.{◌≡◌, sym, ◌∙◌, subst}
use Rattle.comp_entity.specs.Entity.{IsModule}
use Rattle.comp_entity.specs.Fits.{fits}
use Rattle.comp_view.specs.KindLaws.{module_lies}
use Rattle.comp_view.specs.Kinds.{IsTreeOf}
use Rattle.comp_view.specs.Kinds as kind
use Rattle.comp_fit.proofs.ModuleLaws.{module_tree}
use Rattle.comp_fit.proofs.modules.modules_fit.Goals as goal

pub module_at-requires-clause-number : goal.module_at-requires-clause-number
module_at-requires-clause-number c = let given = c.requires.given in
    record { there = given.1.there; is_one = subst (IsTreeOf kind.AnyEntity) (sym given.1.tree_is) (module_lies given.0) }

pub module_at-requires-2-clause-number : goal.module_at-requires-2-clause-number
module_at-requires-2-clause-number c = let asked = c.requires.asked in
    record { there = asked.1.there; is_one = subst (IsTreeOf kind.AnyEntity) (sym asked.1.tree_is) (module_lies asked.0) }

pub returns : goal.returns
returns c = λ given asked stands stand.
    let left : IsModule c.in_ok-module_at.field-0 ≡ IsModule given = c.one_entity.ensures (IsModule c.in_ok-module_at.field-0) (IsModule given) (sym c.in_ok-module_at.ensures.tree_is ∙ stands.tree_is) in
    let right : IsModule c.in_ok-module_at-2.field-0 ≡ IsModule asked = c.one_entity.ensures (IsModule c.in_ok-module_at-2.field-0) (IsModule asked) (sym c.in_ok-module_at-2.ensures.tree_is ∙ stand.tree_is) in
    c.fits.ensures
    ∙ (λ i. fits (module_tree c.in_ok-module_at.field-0 i) (module_tree c.in_ok-module_at-2.field-0 i))
    ∙ (λ i. fits (left i) (right i))
