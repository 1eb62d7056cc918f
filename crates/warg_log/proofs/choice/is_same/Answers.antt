use Rattle.std.proofs.Common.{◌≡◌, refl, ap, ◌∙◌}
use Rattle.std.specs.Prelude.{◌==◌}
use Rattle.std.specs.Ordering.{is_eq, ordering_index}
use Rattle.std.specs.declared.cmp.Ordering.{Ordering}
use Rattle.std.specs.declared.cmp.Ordering.TheVariants.{Less, Equal, Greater}
use Rattle.warg_log.proofs.VersionKeys.{is_eq-version}
use Rattle.warg_log.proofs.choice.is_same.Goals as goal

tied : (o : Ordering) → (ordering_index o == 1) ≡ is_eq o
tied Less = refl
tied Equal = refl
tied Greater = refl

pub returns : goal.returns
returns c = c.eq.ensures ∙ tied c.cmp.result ∙ ap is_eq c.cmp.ensures ∙ is_eq-version c.args.a.now c.args.b.now
