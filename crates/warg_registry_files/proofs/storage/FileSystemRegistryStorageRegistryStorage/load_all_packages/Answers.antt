-- Each path that is listed is passed, and the package is listed whose log is there.
use Rattle.std.proofs.Common.{◌≡◌, ◌≢◌, [], All, IfSome, Option, Vec, ap, map, sym, subst, option_map, ◌∙◌, arith}
use Rattle.std.specs.Global.{Global}
use Rattle.std.specs.Map.{lookup}
use Rattle.std.specs.Option.{option_map_or}
use Rattle.std.proofs.lemmas.List.{take_all}
use Rattle.std.proofs.lemmas.List.Elements.{All-nil}
use Rattle.warg_base.specs.Files.{paths_under}
use Rattle.warg_info.specs.declared.package.PackageInfo.{PackageInfo}
use Rattle.warg_info.specs.Info.{IsSoundPackage}
use Rattle.warg_store.specs.Held.{Held, Registry, is_registry, named_info}
use Rattle.warg_store.specs.Listed.{IsListingFault, infos_of, listed_in}
use Rattle.warg_registry_files.specs.RegistryFiles.{held_in}
use Rattle.warg_registry_files.specs.Shown.{place_view}
use Rattle.warg_registry_files.proofs.FileLaws.{told_still}
use Rattle.warg_registry_files.proofs.ListingLaws.{ListedSoFar, files_all, files_more, files_none, handed_on, later_fault, of_store_fault}
use Rattle.warg_registry_files.proofs.storage.FileSystemRegistryStorageRegistryStorage.load_all_packages.Goals as goal

pub returns-in_err-paths-clause-fault : goal.returns-in_err-paths-clause-fault
returns-in_err-paths-clause-fault g c =
    let place = place_view c.args.self.now.place in
    let told = g.F.Files.told c.args.self.now.files in
    let e = c.in_err-paths.field-0.0 in
    handed_on c.from_residual.result e (λ d. IsListingFault d (g.F.Files.faults c.args.self.now.files) (g.F.Files.faults c.list.new.self.files) (option_map (λ (h : Held). h.packages) (option_map (held_in place) told))) c.from_residual.ensures.1
    (of_store_fault e _ _ (option_map (λ (h : Held). h.packages) (option_map (held_in place) told)) c.in_err-paths.ensures.fault)

pub loop-path-init : goal.loop-path-init
loop-path-init g c =
    let none : (r : Registry) → infos_of c.new-all.result r ≡ [] = (λ r. ap (λ es. option_map_or (λ (list : Vec PackageInfo Global). list.items) (lookup (is_registry r) es) []) c.new-all.ensures.empty) in
    record {
      place = c.list.ensures.place;
      faults = c.list.ensures.never_falls;
      untouched = c.list.ensures.untouched;
      so_far = files_none (place_view c.args.self.now.place) (g.F.Files.told c.args.self.now.files) c.deref-path-items.result.now (listed_in c.new-all.result) (λ r. ap (map named_info) (none r));
      sound = λ r. subst (All IsSoundPackage) (sym (none r)) (All-nil IsSoundPackage);
      have_some = λ r. subst (λ (o : Option (Vec PackageInfo Global)). IfSome o (λ l. l.items ≢ [])) (sym (ap (λ es. lookup (is_registry r) es) c.new-all.ensures.empty)) tt;
    }

pub returns-in_err-list_at-clause-kept : goal.returns-in_err-list_at-clause-kept
returns-in_err-list_at-clause-kept g c =
    told_still (place_view c.args.self.now.place) (place_view c.list_at.new.self.place) _ _ (c.list_at.ensures.place ∙ c.loop-path.invariant.place) (c.list_at.ensures.untouched ∙ c.loop-path.invariant.untouched)

pub returns-in_err-list_at-clause-fault : goal.returns-in_err-list_at-clause-fault
returns-in_err-list_at-clause-fault g c =
    let place = place_view c.args.self.now.place in
    let told = g.F.Files.told c.args.self.now.files in
    let e = c.in_err-list_at.field-0.0 in
    handed_on c.from_residual-in_err-list_at.result e (λ d. IsListingFault d (g.F.Files.faults c.args.self.now.files) (g.F.Files.faults c.list_at.new.self.files) (option_map (λ (h : Held). h.packages) (option_map (held_in place) told)))
    c.from_residual-in_err-list_at.ensures.1
    (later_fault e place (place_view c.loop-path.self.place) told (g.F.Files.told c.loop-path.self.files) _ _ _ c.loop-path.invariant.place c.loop-path.invariant.untouched c.loop-path.invariant.faults c.in_err-list_at.ensures.fault)

pub loop-path-preserved : goal.loop-path-preserved
loop-path-preserved g c =
    let place = place_view c.args.self.now.place in
    let told = g.F.Files.told c.args.self.now.files in
    let paths = c.deref-path-items.result.now in
    record {
      place = c.list_at.ensures.place ∙ c.loop-path.invariant.place;
      faults = omega (arith, c.loop-path.invariant.faults, c.list_at.ensures.never_falls);
      untouched = c.list_at.ensures.untouched ∙ c.loop-path.invariant.untouched;
      so_far = files_more place (place_view c.loop-path.self.place) told (g.F.Files.told c.loop-path.self.files) paths c.loop-path.path-index c.path-item.result (listed_in c.loop-path.all) (listed_in c.list_at.new.all) c.args.self.now.place.single
          c.loop-path.invariant.place c.loop-path.invariant.untouched c.loop-path-test.true c.path-item.is
          (subst (λ ps. IfSome told (λ files. ps ≡ paths_under files place.parent)) (sym c.deref-path-items.ensures.value) c.in_ok-paths.ensures.listed) c.loop-path.invariant.so_far c.in_ok-list_at.ensures.listed;
      sound = c.in_ok-list_at.ensures.sound c.loop-path.invariant.sound;
      have_some = c.in_ok-list_at.ensures.have_some c.loop-path.invariant.have_some;
    }

pub returns-clause-kept : goal.returns-clause-kept
returns-clause-kept g c = told_still (place_view c.args.self.now.place) (place_view c.loop-path.self.place) _ _ c.loop-path.invariant.place c.loop-path.invariant.untouched

pub returns-clause-found : goal.returns-clause-found
returns-clause-found g c =
    let place = place_view c.args.self.now.place in
    let told = g.F.Files.told c.args.self.now.files in
    let paths = c.deref-path-items.result.now in
    files_all place told paths (listed_in c.loop-path.all) c.args.self.now.place.single
    (subst (λ ps. IfSome told (λ files. ps ≡ paths_under files place.parent)) (sym c.deref-path-items.ensures.value) c.in_ok-paths.ensures.listed)
    (subst (λ ps. IfSome told (λ files. ListedSoFar place files ps (listed_in c.loop-path.all))) (take_all c.loop-path.path-index paths c.loop-path-test.false) c.loop-path.invariant.so_far)
