-- Each file is as it was, or is gone where it may go, and none is left of the paths so far.
use Rattle.std.proofs.Common.{◌≡◌, ◌≤◌, true, None, IfSome, take}
use Rattle.std.specs.List.{All}
use Rattle.warg_base.specs.Files.{file_at}
use Rattle.warg_registry_files.specs.Resets.{IsKept, LeavesOthers, MayGo}
use Rattle.warg_registry_files.specs.Shown.{place_view}
use Rattle.warg_registry_files.proofs.storage.FileSystemRegistryStorage.take_all.Given as goal

abbrev pub invariant-loop-path : goal.invariant-loop-path
invariant-loop-path g l = record {
  place : place_view l.self.place ≡ place_view l.fn.self.place;
  faults : g.F.Files.faults l.fn.self.files ≤ g.F.Files.faults l.self.files;
  others : IfSome (g.F.Files.told l.fn.self.files) (λ files. LeavesOthers (g.F.Files.told l.self.files) files (MayGo (place_view l.fn.self.place) true));
  gone : IfSome (g.F.Files.told l.fn.self.files) (λ _. IfSome (g.F.Files.told l.self.files) (λ now.
      All (λ p. IsKept (place_view l.fn.self.place) p → file_at now p ≡ None) (take l.path-index l.path-items)));
}
