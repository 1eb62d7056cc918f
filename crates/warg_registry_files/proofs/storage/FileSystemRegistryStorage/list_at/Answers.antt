-- What is read at the path is listed.
use Rattle.std.proofs.Common.{option_map}
use Rattle.warg_store.specs.Held.{Held, is_registry, named_info}
use Rattle.warg_store.specs.Listed.{IsListingFault, infos_of, listed_in}
use Rattle.warg_store.specs.ListedLaws.{named_more, sound_more}
use Rattle.warg_registry_files.specs.RegistryFiles.{held_in}
use Rattle.warg_registry_files.specs.Shown.{place_view}
use Rattle.warg_registry_files.proofs.ListingLaws.{handed_on, lists_none, lists_one}
use Rattle.warg_registry_files.proofs.storage.FileSystemRegistryStorage.list_at.Goals as goal

pub returns-in_err-registry-clause-fault : goal.returns-in_err-registry-clause-fault
returns-in_err-registry-clause-fault g c =
    handed_on c.from_residual.result c.in_err-registry.field-0.0
    (λ d. IsListingFault d (g.F.Files.faults c.args.self.now.files) (g.F.Files.faults c.load_at.new.self.files) (option_map (λ (h : Held). h.packages) (option_map (held_in (place_view c.args.self.now.place)) (g.F.Files.told c.args.self.now.files)))) c.from_residual.ensures.1
    c.in_err-registry.ensures.fault

pub returns-in_default-clause-listed : goal.returns-in_default-clause-listed
returns-in_default-clause-listed g c =
    lists_none (place_view c.args.self.now.place) (g.F.Files.told c.args.self.now.files) c.args.path.now (listed_in c.args.all.now) (rw c.in_default.is at c.in_ok-registry.ensures.found)

pub returns-clause-listed : goal.returns-clause-listed
returns-clause-listed g c =
    let info = c.in-Some.info in
    let registry = c.in-Some.registry in
    lists_one (place_view c.args.self.now.place) (g.F.Files.told c.args.self.now.files) c.args.path.now (listed_in c.args.all.now) (listed_in c.list_package.new.all) (registry, named_info info) (rw c.in-Some.is at c.in_ok-registry.ensures.found)
    (λ r. named_more (infos_of c.list_package.new.all r) (infos_of c.args.all.now r) info (is_registry registry r) (c.in_ok-list_package.ensures.listed r))

pub returns-clause-sound : goal.returns-clause-sound
returns-clause-sound g c = λ was r.
    let info = c.in-Some.info in
    sound_more (infos_of c.list_package.new.all r) (infos_of c.args.all.now r) info (is_registry c.in-Some.registry r) (c.in_ok-list_package.ensures.listed r) (was r) (rw c.in-Some.is at c.in_ok-registry.ensures.sound)
