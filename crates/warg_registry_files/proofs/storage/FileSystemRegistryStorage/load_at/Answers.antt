-- What a log's file has is what is held.
use Rattle.std.proofs.Common.{refl, option_map}
use Rattle.warg_store.specs.Held.{Held, named_info}
use Rattle.warg_store.specs.Listed.{IsListingFault}
use Rattle.warg_registry_files.specs.RegistryFiles.{held_in}
use Rattle.warg_registry_files.specs.Shown.{place_view}
use Rattle.warg_registry_files.proofs.ListingLaws.{handed_on, of_store_fault, told_damaged, told_missing, told_none, told_whole}
use Rattle.warg_registry_files.proofs.storage.FileSystemRegistryStorage.load_at.Goals as goal

pub returns-in_default-clause-found : goal.returns-in_default-clause-found
returns-in_default-clause-found g c = told_none (place_view c.args.self.now.place) (g.F.Files.told c.args.self.now.files) c.args.path.now c.as_str.result.now c.as_str.ensures (rw c.in_default.is at c.in_ok-registry.ensures)

pub returns-in_err-bytes-clause-fault : goal.returns-in_err-bytes-clause-fault
returns-in_err-bytes-clause-fault g c =
    let place = place_view c.args.self.now.place in
    let told = g.F.Files.told c.args.self.now.files in
    let e = c.in_err-bytes.field-0.0 in
    handed_on c.from_residual-in_err-bytes.result e (λ d. IsListingFault d (g.F.Files.faults c.args.self.now.files) (g.F.Files.faults c.read.new.self.files) (option_map (λ (h : Held). h.packages) (option_map (held_in place) told))) c.from_residual-in_err-bytes.ensures.1
    (of_store_fault e _ _ (option_map (λ (h : Held). h.packages) (option_map (held_in place) told)) c.in_err-bytes.ensures.fault)

pub returns-in_default-2-clause-found : goal.returns-in_default-2-clause-found
returns-in_default-2-clause-found g c = told_missing (place_view c.args.self.now.place) (g.F.Files.told c.args.self.now.files) c.args.path.now (rw c.in_default-2.is at c.in_ok-bytes.ensures.found)

pub returns-in-Some-3-clause-found : goal.returns-in-Some-3-clause-found
returns-in-Some-3-clause-found g c =
    let here = rw c.in-Some.is at c.in_ok-registry.ensures in
    told_whole (place_view c.args.self.now.place) (g.F.Files.told c.args.self.now.files) c.args.path.now c.as_str.result.now c.as_str.ensures c.in-Some.registry c.in-Some.id.items c.in-Some-2.bytes.items c.deref-2.result.now c.deref.result.now c.deref-2.ensures.value c.deref.ensures.value
    here (rw c.in-Some-2.is at c.in_ok-bytes.ensures.found) (named_info c.in-Some-3.info) (rw c.in-Some-3.is at c.in_ok-info.ensures.found) (rw c.in-Some-3.is at c.in_ok-info.ensures.id)

pub returns-in-None-clause-fault : goal.returns-in-None-clause-fault
returns-in-None-clause-fault g c =
    let here = rw c.in-Some.is at c.in_ok-registry.ensures in (
      refl,
      told_damaged (place_view c.args.self.now.place) (g.F.Files.told c.args.self.now.files) c.args.path.now c.as_str.result.now c.as_str.ensures c.in-Some.registry c.in-Some.id.items c.in-Some-2.bytes.items c.deref-2.result.now c.deref.result.now c.deref-2.ensures.value c.deref.ensures.value
          here (rw c.in-Some-2.is at c.in_ok-bytes.ensures.found) (rw c.in-None.is at c.in_ok-info.ensures.found),
    )
