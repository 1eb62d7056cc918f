use Rattle.std.proofs.Common.{◌≡◌, sym, subst, true, false, ◌∙◌}
use Rattle.comp_entity.specs.Fits.{same_name}
use Rattle.comp_instance.proofs.OwnLaws.{shown_is, unfit}
use Rattle.comp_instance.specs.declared.own_modules.Within.TheVariants.{Everything}
use Rattle.comp_instance.specs.OwnModules.{holds}
use Rattle.comp_instance.proofs.fitting.fits.Goals as goal

pub returns-then-branch : goal.returns-then-branch
returns-then-branch c = λ x y s u.
    sym (unfit same_name x y (subst (λ t. holds Everything t ≡ true) u.tree_is (sym c.in_ok-holds_own_module.ensures ∙ c.if-branch.true)))

pub fits_as_named-requires-clause-asked : goal.fits_as_named-requires-clause-asked
fits_as_named-requires-clause-asked c =
    let asked = c.requires.asked in
    (asked.0, asked.1, shown_is asked.0 (subst (λ t. holds Everything t ≡ false) asked.1.tree_is (sym c.in_ok-holds_own_module.ensures ∙ c.if-branch.false)))

pub returns : goal.returns
returns c = λ x y s u.
    c.in_ok-answer.ensures x y s u (shown_is y (subst (λ t. holds Everything t ≡ false) u.tree_is (sym c.in_ok-holds_own_module.ensures ∙ c.if-branch.false)))
