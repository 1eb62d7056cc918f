use Rattle.std.proofs.Common.{◌≡◌, Err, ap, map, subst, ◌∙◌}
use Rattle.std.specs.Prelude.{MatchOption}
use Rattle.compose_order.specs.Agreed.{HasNoPlace, NoClash}
use Rattle.compose_order.specs.Known.{IsCaseClashOf, left_tree}
use Rattle.compose_needs.specs.Lefts.{lefts_of}
use Rattle.compose_order.specs.declared.error.OrderError.TheVariants as OrderError
use Rattle.compose_order.proofs.order.ordered.Goals as goal

pub returns-in-Err-clause-circle : goal.returns-in-Err-clause-circle
returns-in-Err-clause-circle c = λ w o n e.
    let same : c.in-Err.error ≡ OrderError.Circle n = cc in (
      subst (λ ls. NoClash ls) (ap (map left_tree) c.deref.ensures.value ∙ c.in_ok-lefts.ensures)
          (subst (λ f. MatchOption f (NoClash (map left_tree c.deref.result.now)) (IsCaseClashOf (map left_tree c.deref.result.now))) c.in-None.is c.in_ok-earlier.ensures),
      subst (λ ls. HasNoPlace (lefts_of w) ls n) (ap (map left_tree) c.deref-in-None.ensures.value ∙ c.in_ok-lefts.ensures) (c.in-Err.ensures.circle w o n (ap Err same)),
    )
