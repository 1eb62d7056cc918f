use Rattle.std.proofs.Common.{◌≡◌, Some, refl, length, take, rules, subst}
use Rattle.std.specs.Prelude.{slice_get}
use Rattle.std.specs.List.{All}
use Rattle.std.proofs.lemmas.List.{take_all}
use Rattle.std.proofs.lemmas.List.Elements.{All-more}
use Rattle.warg_info.specs.declared.package.PackageInfo.{PackageInfo}
use Rattle.std.proofs.lemmas.Option.{slice_get_read}
use Rattle.warg_page.proofs.EmptyLaws.{IsKept, leaves-none, listed-empty}
use Rattle.warg_page.proofs.listed.check_listed.Goals as goal

pub returns-then-is_left_empty-clause-err : goal.returns-then-is_left_empty-clause-err
returns-then-is_left_empty-clause-err c =
    let ps = c.args.packages.now in
    let n = c.loop-info.info-index in
    let p = c.info-item.result in
    let there : slice_get ps n ≡ Some p = slice_get_read ps (length ps) n p refl c.loop-info-test.true c.info-item.is in
    listed-empty c.empty_log.result p ps c.args.listed.now.entries n c.empty_log.ensures there (c.is_left_empty.ensures.empty c.if-is_left_empty.true) (c.is_left_empty.ensures.listed c.if-is_left_empty.true)

pub returns-clause-ok : goal.returns-clause-ok
returns-clause-ok c =
    let ps = c.args.packages.now in
    let whole : take c.loop-info.info-index ps ≡ ps = search (rules, take_all) in
    leaves-none c.args.listed.now.entries ps (subst (All (IsKept c.args.listed.now.entries)) whole c.loop-info.invariant)

pub loop-info-preserved : goal.loop-info-preserved
loop-info-preserved c =
    let ps = c.args.packages.now in
    let n = c.loop-info.info-index in
    let p = c.info-item.result in
    let kept : IsKept c.args.listed.now.entries p = c.is_left_empty.ensures.kept c.if-is_left_empty.false in
    All-more (IsKept c.args.listed.now.entries) ps n p c.loop-info-test.true c.loop-info.invariant (subst (λ (q : PackageInfo). IsKept c.args.listed.now.entries q) c.info-item.is kept)
