use Rattle.std.proofs.Common.{sym, subst, inl}
use Rattle.std.specs.Prelude.{MatchOption}
use Rattle.compose_left.specs.Wired.{FindsWires}
use Rattle.compose_fit.specs.Fit.{EachFits, IsFirstMisfit, loosely}
use Rattle.compose_fit.specs.KeptLaws.{instances_kept}
use Rattle.compose_fit.proofs.FirstLaws.{both_ways}
use Rattle.compose_fit.proofs.PassLaws.{compared_loosely, compared_in_place}
use Rattle.compose_fit.proofs.fit.first_misfit.Goals as goal

pub returns-in-Some-clause-fit : goal.returns-in-Some-clause-fit
returns-in-Some-clause-fit c = λ w are wires origins circle.
    let finds = subst (FindsWires c.in_ok-by_import.by_import) (sym wires) c.in_ok-by_import.ensures in
    let found = subst (λ cmp. MatchOption c.in_ok-misfit.field-0 (EachFits cmp w) (IsFirstMisfit cmp w)) (compared_loosely c.a_change_keeps_fit.ensures) (c.in_ok-misfit.ensures.found w are finds) in
    inl (subst (λ o. MatchOption o (EachFits loosely w) (IsFirstMisfit loosely w)) c.in-Some.is found)

pub misfit_in-requires-2 : goal.misfit_in-requires-2
misfit_in-requires-2 c =
    let known = c.requires in
    (known.0, instances_kept c.args.table.now c.misfit_in.new.table c.misfit_in.ensures.kept c.args.components.now c.args.instances.now known.0 known.1)

pub returns-clause-fit : goal.returns-clause-fit
returns-clause-fit c = λ w are wires origins circle.
    let finds = subst (FindsWires c.in_ok-by_import.by_import) (sym wires) c.in_ok-by_import.ensures in
    let loose = subst (λ cmp. MatchOption c.in_ok-misfit.field-0 (EachFits cmp w) (IsFirstMisfit cmp w)) (compared_loosely c.a_change_keeps_fit.ensures) (c.in_ok-misfit.ensures.found w are finds) in
    let each = subst (λ o. MatchOption o (EachFits loosely w) (IsFirstMisfit loosely w)) c.in_default.is loose in
    let still = instances_kept c.args.table.now c.misfit_in.new.table c.misfit_in.ensures.kept c.args.components.now c.args.instances.now w.shapes are in
    let found = subst (λ cmp. MatchOption c.in_ok-misfit-2.misfit (EachFits cmp w) (IsFirstMisfit cmp w)) (compared_in_place c.args.origins.now w (λ at. c.origins_call_things_as_placed.ensures c.args.origins.now w at origins circle)) (c.in_ok-misfit-2.ensures.found w still finds) in
    both_ways w c.in_ok-misfit-2.misfit each found
