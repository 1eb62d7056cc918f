use Rattle.std.proofs.Common.{◌≡◌, arith, length, sym, subst}
use Rattle.std.proofs.lemmas.Bool.Decides.{nat_tests}
use Rattle.std.specs.Prelude.{MatchOption}
use Rattle.compose_fit.specs.Fit.{IsMisfit, WiresFit}
use Rattle.compose_check.specs.Composition.{composition_tree, wiring}
use Rattle.compose_check.proofs.RefusalLaws.{unfit_refuses}
use Rattle.compose_check.proofs.ShapeLaws.{instances_have}
use Rattle.compose_check.proofs.WireLaws.{no_wires_fit}
use Rattle.compose_check.proofs.fit.check_fit.Goals as goal

pub returns-then-is_empty-clause-fit : goal.returns-then-is_empty-clause-fit
returns-then-is_empty-clause-fit c =
    let none : length c.args.composition.now.wires.items ≡ 0 = grind (arith, nat_tests) in
    no_wires_fit (wiring (composition_tree c.args.composition.now)) none

pub first_misfit-requires : goal.first_misfit-requires
first_misfit-requires c =
    ((wiring (composition_tree c.args.composition.now)).shapes, instances_have c.numbers.new.table c.args.composition.now c.in_ok-numbers.numbers.items c.deref.result.now c.deref-2.result.now c.requires.made c.in_ok-numbers.ensures c.deref.ensures.value c.deref-2.ensures.value)

pub returns-in-None-clause-fit : goal.returns-in-None-clause-fit
returns-in-None-clause-fit c =
    let w = wiring (composition_tree c.args.composition.now) in
    let have = instances_have c.numbers.new.table c.args.composition.now c.in_ok-numbers.numbers.items c.deref.result.now c.deref-2.result.now c.requires.made c.in_ok-numbers.ensures c.deref.ensures.value c.deref-2.ensures.value in
    subst (λ o. MatchOption o (WiresFit w) (IsMisfit w)) c.in-None.is (c.in_ok-first_misfit.ensures.fit w have (sym c.deref-3.ensures.value) c.requires.origins c.requires.no_circle)

pub returns-clause-refused : goal.returns-clause-refused
returns-clause-refused c =
    let w = wiring (composition_tree c.args.composition.now) in
    let have = instances_have c.numbers.new.table c.args.composition.now c.in_ok-numbers.numbers.items c.deref.result.now c.deref-2.result.now c.requires.made c.in_ok-numbers.ensures c.deref.ensures.value c.deref-2.ensures.value in
    let misfit : IsMisfit w c.in-Some.misfit = subst (λ o. MatchOption o (WiresFit w) (IsMisfit w)) c.in-Some.is (c.in_ok-first_misfit.ensures.fit w have (sym c.deref-3.ensures.value) c.requires.origins c.requires.no_circle) in
    record {
      no_circle = c.requires.no_circle;
      cause = unfit_refuses w c.unfit.result c.in-Some.misfit misfit c.unfit.ensures;
    }
