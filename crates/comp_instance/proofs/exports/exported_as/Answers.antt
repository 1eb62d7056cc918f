use Rattle.std.proofs.Common.{subst}
use Rattle.comp_scope.specs.Descriptions.{described, new_made}
use Rattle.comp_scope.specs.Exports.{fitting}
use Rattle.comp_space.specs.Descriptions.{ShowsDescribed}
use Rattle.comp_space.specs.Faults.{Fails, Found}
use Rattle.comp_space.specs.SpaceLaws.{space_kept}
use Rattle.comp_space.specs.StandingLaws.{fails_bind, found_bind, passed_on}
use Rattle.comp_table.specs.StandLaws.{stands_kept}
use Rattle.comp_instance.proofs.exports.exported_as.Goals as goal

pub returns-in-None-clause-found : goal.returns-in-None-clause-found
returns-in-None-clause-found c = λ s e shows stands. rw c.in-None.is (c.plain_export.ensures.found s e shows stands)

pub returns-in_err-described-in-Some-clause-found : goal.returns-in_err-described-in-Some-clause-found
returns-in_err-described-in-Some-clause-found c = λ s e shows stands. rw c.in-Some.is
    (passed_on _ c.from_residual.result c.in_err-described-in-Some.field-0.0 _ c.from_residual.ensures.1
    (fails_bind (described s (new_made s) c.in-Some.ty) (λ d. fitting s (e, c.args.item.named) d) c.in_err-described-in-Some.field-0.0
    (subst (λ new. Fails c.in_err-described-in-Some.field-0.0 (described s new c.in-Some.ty)) (c.made.ensures c.args.table.now s shows) (c.in_err-described-in-Some.ensures.found s shows))))

pub fitting-requires-clause-item : goal.fitting-requires-clause-item
fitting-requires-clause-item c = let item = c.requires.item in (item.0, stands_kept _ _ c.described.ensures.extends _ _ item.1)

pub fitting-requires-clause-described : goal.fitting-requires-clause-described
fitting-requires-clause-described c =
    let space = c.requires.space in
    let f = c.in_ok-described-in-Some.ensures.found space.0 space.1 in
    (f.value.standing.0, f.shown.standing.stands)

pub returns-in_ok-described-in-Some-clause-found : goal.returns-in_ok-described-in-Some-clause-found
returns-in_ok-described-in-Some-clause-found c = λ s e shows stands. rw c.in-Some.is
    (let f = subst (λ new. Found (ShowsDescribed c.described.new.table) c.in_ok-described-in-Some.described (described s new c.in-Some.ty)) (c.made.ensures c.args.table.now s shows) (c.in_ok-described-in-Some.ensures.found s shows) in
    found_bind (ShowsDescribed c.described.new.table) (ShowsDescribed c.fitting.new.table) c.in_ok-described-in-Some.described (described s (new_made s) c.in-Some.ty) (λ d. fitting s (e, c.args.item.named) d) c.fitting.result f
    (c.fitting.ensures.found s e f.value (space_kept _ _ c.described.ensures.extends c.args.space.now s shows) (stands_kept _ _ c.described.ensures.extends _ _ stands) f.shown))
