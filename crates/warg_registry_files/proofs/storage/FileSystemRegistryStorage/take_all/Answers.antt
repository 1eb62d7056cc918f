-- Each path that is listed is taken, where it is kept of a registry.
use Rattle.std.proofs.Common.{◌≡◌, true, None, IfSome, sym, subst, ◌∙◌, arith}
use Rattle.std.specs.List.{All}
use Rattle.std.proofs.lemmas.List.{take_all}
use Rattle.warg_base.specs.Files.{file_at, paths_under}
use Rattle.warg_registry_files.specs.Resets.{IsKept}
use Rattle.warg_registry_files.specs.Shown.{place_view}
use Rattle.warg_registry_files.proofs.ResetLaws.{more_go, none_left, none_yet, one_more_gone, others_none}
use Rattle.warg_registry_files.proofs.storage.FileSystemRegistryStorage.take_all.Goals as goal

pub returns-in_err-paths-clause-others : goal.returns-in_err-paths-clause-others
returns-in_err-paths-clause-others g c = others_none _ _ _ c.in_err-paths.ensures.untouched

pub loop-path-init : goal.loop-path-init
loop-path-init g c = record {
  place = c.list.ensures.place;
  faults = c.list.ensures.never_falls;
  others = others_none _ _ _ c.list.ensures.untouched;
  gone = none_yet (place_view c.args.self.now.place) _ _ c.deref-path-items.result.now;
}

pub returns-in_err-take_kept-clause-others : goal.returns-in_err-take_kept-clause-others
returns-in_err-take_kept-clause-others g c =
    more_go (place_view c.args.self.now.place) (place_view c.loop-path.self.place) true _ _ _ c.loop-path.invariant.place c.loop-path.invariant.others c.take_kept.ensures.others

pub loop-path-preserved : goal.loop-path-preserved
loop-path-preserved g c = record {
  place = c.take_kept.ensures.place ∙ c.loop-path.invariant.place;
  faults = omega (arith, c.loop-path.invariant.faults, c.take_kept.ensures.never_falls);
  others = more_go (place_view c.args.self.now.place) (place_view c.loop-path.self.place) true _ _ _ c.loop-path.invariant.place c.loop-path.invariant.others c.take_kept.ensures.others;
  gone = one_more_gone (place_view c.args.self.now.place) (place_view c.loop-path.self.place) _ _ _ c.deref-path-items.result.now c.loop-path.path-index c.path-item.result c.loop-path.invariant.place c.loop-path-test.true c.path-item.is
      c.loop-path.invariant.others c.loop-path.invariant.gone c.take_kept.ensures.others c.in_ok-take_kept.ensures.gone;
}

pub returns-clause-gone : goal.returns-clause-gone
returns-clause-gone g c =
    let place = place_view c.args.self.now.place in
    let old = g.F.Files.told c.args.self.now.files in
    let new = g.F.Files.told c.loop-path.self.files in
    none_left place c.args.self.now.place.single old new c.deref-path-items.result.now
    (subst (λ ps. IfSome old (λ files. ps ≡ paths_under files place.parent)) (sym c.deref-path-items.ensures.value) c.in_ok-paths.ensures.listed) c.loop-path.invariant.others
    (subst (λ ps. IfSome old (λ _. IfSome new (λ now. All (λ p. IsKept place p → file_at now p ≡ None) ps))) (take_all c.loop-path.path-index c.deref-path-items.result.now c.loop-path-test.false) c.loop-path.invariant.gone)
