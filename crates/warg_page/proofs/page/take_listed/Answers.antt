use Rattle.std.proofs.Common.{◌≡◌, ◌<◌, [], ℕ, Some, List, map, length, refl, sym, ◌∙◌, ap, subst, arith}
use Rattle.std.specs.Prelude.{slice_get}
use Rattle.std.proofs.lemmas.Grind.{common_steps}
use Rattle.std.proofs.lemmas.List.Elements.{All-set}
use Rattle.std.proofs.lemmas.Option.{slice_get-get_or, slice_get_read}
use Rattle.std.proofs.lemmas.Result.{err_from_is_err_and}
use Rattle.warg_info.specs.Kept.{Kept}
use Rattle.warg_info.specs.Info.{IsSoundPackage}
use Rattle.warg_page.specs.Steps.{IsGood}
use Rattle.warg_page.specs.Views.{package_view}
use Rattle.warg_page.proofs.InfosLaws.{listed-one, listed-none, listed-fault, no-id, ids-set, package-at}
use Rattle.warg_page.proofs.page.take_listed.Goals as goal

pub returns-then-is_empty-clause-grows : goal.returns-then-is_empty-clause-grows
returns-then-is_empty-clause-grows g c ids good = listed-none c.args.ids.now.keys c.args.packages.now.items c.args.id.now c.args.records.now ids c.in_default.ensures.absent

pub returns-else-is_empty-clause-fault : goal.returns-else-is_empty-clause-fault
returns-else-is_empty-clause-fault g c ids good =
    let some : 0 < length c.args.records.now = grind (arith, common_steps) in (
      refl,
      some,
      λ p has e. no-id c.args.ids.now.keys c.args.packages.now.items c.args.id.now ids c.in_default.ensures.absent has.0 p
          (slice_get-get_or (map package_view c.args.packages.now.items) has.0 p has.1 ∙ ap (λ (q : List ℕ × List Kept). Some q) has.2) (sym e),
    )

pub returns-in_err-take_package-clause-ids : goal.returns-in_err-take_package-clause-ids
returns-in_err-take_package-clause-ids g c ids =
    ids-set c.args.ids.now.keys c.args.packages.now.items c.in-Some.at c.index_mut.result.now c.take_package.new.info ids c.index_mut.ensures.value c.take_package.ensures.same_name

pub returns-in_err-take_package-clause-sound : goal.returns-in_err-take_package-clause-sound
returns-in_err-take_package-clause-sound g c sound =
    let xs = c.args.packages.now.items in
    let p = c.index_mut.result.now in
    let lt : c.in-Some.at < length xs = omega (arith, c.len.ensures, c.args.packages.now.ok.0) in
    let was : IsSoundPackage p = subst IsSoundPackage (sym c.index_mut.ensures.value) (sound c.in-Some.at p lt) in
    All-set IsSoundPackage xs c.in-Some.at c.take_package.new.info (c.take_package.ensures.sound was) sound

pub returns-in_err-take_package-clause-good : goal.returns-in_err-take_package-clause-good
returns-in_err-take_package-clause-good g c good =
    let accepts = g.V.Verifier.good c.args.verifier.now in
    let xs = c.args.packages.now.items in
    let p = c.index_mut.result.now in
    let lt : c.in-Some.at < length xs = omega (arith, c.len.ensures, c.args.packages.now.ok.0) in
    let was : IsGood accepts p = subst (IsGood accepts) (sym c.index_mut.ensures.value) (good c.in-Some.at p lt) in
    All-set (IsGood accepts) xs c.in-Some.at c.take_package.new.info (c.take_package.ensures.good was) good

pub returns-in_err-take_package-clause-fault : goal.returns-in_err-take_package-clause-fault
returns-in_err-take_package-clause-fault g c =
    let accepts = g.V.Verifier.good c.args.verifier.now in
    let xs = c.args.packages.now.items in
    let p = c.index_mut.result.now in
    let lt : c.in-Some.at < length xs = omega (arith, c.len.ensures, c.args.packages.now.ok.0) in
    let there : slice_get xs c.in-Some.at ≡ Some p = slice_get_read xs (length xs) c.in-Some.at p refl lt c.index_mut.ensures.value in
    let q = err_from_is_err_and c.from_residual.result c.from_residual.ensures.1 in
    rw (q.1, q.2) (λ ids good. listed-fault c.in_err-take_package.field-0.0 accepts c.args.ids.now.keys xs c.args.id.now c.args.records.now c.in-Some.at p ids c.in-Some.ensures.found there
    (c.in_err-take_package.ensures.fault (subst (IsGood accepts) (sym c.index_mut.ensures.value) (good c.in-Some.at p lt))))

pub returns-clause-ids : goal.returns-clause-ids
returns-clause-ids g c ids =
    ids-set c.args.ids.now.keys c.args.packages.now.items c.in-Some.at c.index_mut.result.now c.take_package.new.info ids c.index_mut.ensures.value c.take_package.ensures.same_name

pub returns-clause-sound : goal.returns-clause-sound
returns-clause-sound g c sound =
    let xs = c.args.packages.now.items in
    let p = c.index_mut.result.now in
    let lt : c.in-Some.at < length xs = omega (arith, c.len.ensures, c.args.packages.now.ok.0) in
    let was : IsSoundPackage p = subst IsSoundPackage (sym c.index_mut.ensures.value) (sound c.in-Some.at p lt) in
    All-set IsSoundPackage xs c.in-Some.at c.take_package.new.info (c.take_package.ensures.sound was) sound

pub returns-clause-good : goal.returns-clause-good
returns-clause-good g c good =
    let accepts = g.V.Verifier.good c.args.verifier.now in
    let xs = c.args.packages.now.items in
    let p = c.index_mut.result.now in
    let lt : c.in-Some.at < length xs = omega (arith, c.len.ensures, c.args.packages.now.ok.0) in
    let was : IsGood accepts p = subst (IsGood accepts) (sym c.index_mut.ensures.value) (good c.in-Some.at p lt) in
    All-set (IsGood accepts) xs c.in-Some.at c.take_package.new.info (c.take_package.ensures.good was) good

pub returns-clause-grows : goal.returns-clause-grows
returns-clause-grows g c ids good =
    let accepts = g.V.Verifier.good c.args.verifier.now in
    let xs = c.args.packages.now.items in
    let p = c.index_mut.result.now in
    let lt : c.in-Some.at < length xs = omega (arith, c.len.ensures, c.args.packages.now.ok.0) in
    let there : slice_get xs c.in-Some.at ≡ Some p = slice_get_read xs (length xs) c.in-Some.at p refl lt c.index_mut.ensures.value in
    listed-one c.args.ids.now.keys xs c.args.id.now c.args.records.now c.in-Some.at p c.take_package.new.info ids c.in-Some.ensures.found there c.take_package.ensures.same_name
    (c.in_ok-take_package.ensures.grows (subst (IsGood accepts) (sym c.index_mut.ensures.value) (good c.in-Some.at p lt)))

pub returns-then-is_empty-clause-asked : goal.returns-then-is_empty-clause-asked
returns-then-is_empty-clause-asked g c ids some =
    let none : c.args.records.now ≡ [] = grind (arith, common_steps) in
    absurd (some none)

pub returns-clause-asked : goal.returns-clause-asked
returns-clause-asked g c ids some =
    let xs = c.args.packages.now.items in
    let p = c.index_mut.result.now in
    let lt : c.in-Some.at < length xs = omega (arith, c.len.ensures, c.args.packages.now.ok.0) in
    let there : slice_get xs c.in-Some.at ≡ Some p = slice_get_read xs (length xs) c.in-Some.at p refl lt c.index_mut.ensures.value in
    package-at c.args.ids.now.keys xs c.args.id.now c.in-Some.at p ids c.in-Some.ensures.found there
