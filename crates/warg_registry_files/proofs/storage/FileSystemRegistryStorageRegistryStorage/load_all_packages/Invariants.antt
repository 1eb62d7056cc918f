-- The packages whose logs are at the paths so far are listed.
use Rattle.std.proofs.Common.{◌≡◌, ◌≤◌, IfSome, take}
use Rattle.warg_store.specs.Listed.{AreSoundLists, HaveSome, listed_in}
use Rattle.warg_registry_files.specs.Shown.{place_view}
use Rattle.warg_registry_files.proofs.ListingLaws.{ListedSoFar}
use Rattle.warg_registry_files.proofs.storage.FileSystemRegistryStorageRegistryStorage.load_all_packages.Given as goal

abbrev pub invariant-loop-path : goal.invariant-loop-path
invariant-loop-path g l = record {
  place : place_view l.self.place ≡ place_view l.fn.self.place;
  faults : g.F.Files.faults l.fn.self.files ≤ g.F.Files.faults l.self.files;
  untouched : g.F.Files.told l.self.files ≡ g.F.Files.told l.fn.self.files;
  so_far : IfSome (g.F.Files.told l.fn.self.files) (λ files. ListedSoFar (place_view l.fn.self.place) files (take l.path-index l.path-items) (listed_in l.all));
  sound : AreSoundLists l.all;
  have_some : HaveSome l.all;
}
