-- The package that was read has the name, and so has its log's id.
use Rattle.std.proofs.Common.{Some, refl, sym, ap, ◌∙◌}
use Rattle.std.specs.Option.{option_copied}
use Rattle.std.proofs.lemmas.Slice.Eq.{bytes_eq-Decides}
use Rattle.warg_hash.specs.Hash.{package_log_id}
use Rattle.warg_info_text.specs.StoredTexts.{package_of}
use Rattle.warg_store.specs.Entry.{Whole}
use Rattle.warg_store.specs.Held.{Held, entry_named, named_info, package_key}
use Rattle.warg_registry_files.specs.Paths.{is_log, package_path}
use Rattle.warg_registry_files.specs.RegistryFiles.{package_with_id}
use Rattle.warg_registry_files.specs.Shown.{place_view}
use Rattle.warg_registry_files.proofs.FileLaws.{found_as}
use Rattle.warg_registry_files.proofs.NamedLaws.{found_named}
use Rattle.warg_registry_files.proofs.storage.FileSystemRegistryStorageRegistryStorage.load_package.Goals as goal

pub returns-in-Some-2-clause-found : goal.returns-in-Some-2-clause-found
returns-in-Some-2-clause-found g c =
    let place = place_view c.args.self.now.place in
    let name = c.args.name.now in
    let key = package_key (option_copied c.args.registry) name in
    found_as (entry_named name) place (λ (h : Held). h.packages key) (is_log key) (package_with_id (package_log_id name)) (package_path place key) c.in_ok-path.path (λ files. refl)
    (g.F.Files.told c.args.self.now.files) (Some c.in-Some.bytes.items) (Whole (named_info c.in-Some-2.info)) c.in_ok-path.ensures.named c.in_ok-path.ensures.path (rw c.in-Some.is at c.in_ok-bytes.ensures.found)
    (found_named name c.in-Some.bytes.items (named_info c.in-Some-2.info) (ap package_of (sym c.deref.ensures.value) ∙ sym (rw c.in-Some-2.is at c.in_ok-info.ensures.found)) ((bytes_eq-Decides _ _).0 (sym c.eq.ensures ∙ c.if-eq.true)))
