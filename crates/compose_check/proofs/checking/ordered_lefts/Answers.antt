use Rattle.std.proofs.Common.{List, inl, map, subst}
use Rattle.compose_order.specs.Agreed.{HasNoPlace, IsUnbrought, NoClash}
use Rattle.compose_order.specs.Known.{left_tree, merged_left}
use Rattle.compose_order.specs.Needs.{LeftTree}
use Rattle.compose_needs.specs.Lefts.{lefts_of}
use Rattle.compose_check.specs.Open.{lefts}
use Rattle.compose_check.specs.Composition.{wiring}
use Rattle.compose_check.proofs.RefusalLaws.{founded, in_order}
use Rattle.compose_check.proofs.checking.ordered_lefts.Goals as goal

pub returns-in-Ok-clause-ordered : goal.returns-in-Ok-clause-ordered
returns-in-Ok-clause-ordered c = λ k origins is merges.
    in_order (wiring k) (map merged_left c.args.list.items) (map left_tree c.in-Ok.lefts.items) is merges c.in-Ok.ensures.apart (c.in-Ok.ensures.ordered (wiring k) origins)

pub returns-in-Err-NeedsUnbrought-clause-refused : goal.returns-in-Err-NeedsUnbrought-clause-refused
returns-in-Err-NeedsUnbrought-clause-refused c = λ k origins is merges no_circle fit.
    let name = c.in-Err-NeedsUnbrought.name in
    record {
      no_circle = no_circle;
      cause = record {
        fit = fit;
        merges = merges;
        cause =
            founded (NoClash (lefts (wiring k))) (IsUnbrought (lefts_of (wiring k)) (lefts (wiring k)) name) _
            (subst (λ (ls : List LeftTree). NoClash ls × IsUnbrought (lefts_of (wiring k)) ls name) is (c.in-Err-NeedsUnbrought.ensures.unbrought (wiring k) origins name (cc)));
      };
    }

pub returns-in-Err-Circle-clause-refused : goal.returns-in-Err-Circle-clause-refused
returns-in-Err-Circle-clause-refused c = λ k origins is merges no_circle fit.
    let name = c.in-Err-Circle.name in
    record {
      no_circle = no_circle;
      cause = record {
        fit = fit;
        merges = merges;
        cause = subst (λ (ls : List LeftTree). NoClash ls × HasNoPlace (lefts_of (wiring k)) ls name) is (c.in-Err-Circle.ensures.circle (wiring k) origins name (cc));
      };
    }
