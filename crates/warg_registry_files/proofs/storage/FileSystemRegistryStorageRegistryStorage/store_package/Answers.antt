-- What was written reads back, and what was cut does not.
use Rattle.std.proofs.Common.{refl, ◌∙◌}
use Rattle.std.specs.Option.{option_copied}
use Rattle.warg_hash.specs.Hash.{package_log_id}
use Rattle.warg_store.specs.Held.{Held, named_info, package_info, package_key, with_package}
use Rattle.warg_info_text.specs.StoredTexts.{package_text}
use Rattle.warg_registry_files.specs.Paths.{package_path}
use Rattle.warg_registry_files.specs.RegistryFiles.{package_with_id}
use Rattle.warg_registry_files.specs.Shown.{place_view}
use Rattle.warg_registry_files.proofs.FileLaws.{IsWritten, nothing_left, nothing_written, on_err_too, refused_at, stored_at, package_written}
use Rattle.warg_registry_files.proofs.NamedLaws.{named_front, named_whole}
use Rattle.warg_registry_files.proofs.storage.FileSystemRegistryStorageRegistryStorage.store_package.Goals as goal

pub returns-in_err-path-clause-refused : goal.returns-in_err-path-clause-refused
returns-in_err-path-clause-refused g c = nothing_left c.from_residual.result _ _ (λ (h : Held). with_package h (package_key (option_copied c.args.registry) c.args.info.now.name)) _

pub returns-in_err-path-clause-partly_written : goal.returns-in_err-path-clause-partly_written
returns-in_err-path-clause-partly_written g c = nothing_written c.from_residual.result _ _ _ _ refl

pub returns-in_err-text-clause-refused : goal.returns-in_err-text-clause-refused
returns-in_err-text-clause-refused g c = nothing_left c.from_residual-in_err-text.result _ _ (λ (h : Held). with_package h (package_key (option_copied c.args.registry) c.args.info.now.name)) _

pub returns-in_err-text-clause-partly_written : goal.returns-in_err-text-clause-partly_written
returns-in_err-text-clause-partly_written g c = nothing_written c.from_residual-in_err-text.result _ _ _ _ refl

pub returns-clause-stored : goal.returns-clause-stored
returns-clause-stored g c =
    let place = place_view c.args.self.now.place in
    let reads : IsWritten (package_with_id (package_log_id c.args.info.now.name)) (package_text c.args.info.now.name (package_info c.args.info.now)) (named_info c.args.info.now) = record { whole = named_whole c.args.info.now.name _ (package_info c.args.info.now) c.in_ok-text.ensures.whole; front = (λ n lt. named_front (package_log_id c.args.info.now.name) _ (c.in_ok-text.ensures.front n lt)) } in
    stored_at (package_with_id (package_log_id c.args.info.now.name)) place (package_path place (package_key (option_copied c.args.registry) c.args.info.now.name)) (λ (h : Held). with_package h (package_key (option_copied c.args.registry) c.args.info.now.name))
    (package_written place c.args.self.now.place.single (package_key (option_copied c.args.registry) c.args.info.now.name) c.in_ok-path.ensures.named) (place_view c.write.new.self.place)
    _ _ c.in_ok-path.path c.deref.result.now (package_text c.args.info.now.name (package_info c.args.info.now)) (named_info c.args.info.now) c.in_ok-write.ensures.place c.in_ok-path.ensures.path (c.deref.ensures.value ∙ c.in_ok-text.ensures.text) reads c.in_ok-write.ensures.written

pub returns-in_err-write-clause-refused : goal.returns-in_err-write-clause-refused
returns-in_err-write-clause-refused g c =
    let place = place_view c.args.self.now.place in
    let reads : IsWritten (package_with_id (package_log_id c.args.info.now.name)) (package_text c.args.info.now.name (package_info c.args.info.now)) (named_info c.args.info.now) = record { whole = named_whole c.args.info.now.name _ (package_info c.args.info.now) c.in_ok-text.ensures.whole; front = (λ n lt. named_front (package_log_id c.args.info.now.name) _ (c.in_ok-text.ensures.front n lt)) } in
    on_err_too c.from_residual-in_err-write.result
    (refused_at (package_with_id (package_log_id c.args.info.now.name)) place (package_path place (package_key (option_copied c.args.registry) c.args.info.now.name)) (λ (h : Held). with_package h (package_key (option_copied c.args.registry) c.args.info.now.name))
    (package_written place c.args.self.now.place.single (package_key (option_copied c.args.registry) c.args.info.now.name) c.in_ok-path.ensures.named) (place_view c.write.new.self.place)
    _ _ c.in_ok-path.path c.deref.result.now (package_text c.args.info.now.name (package_info c.args.info.now)) (named_info c.args.info.now) c.in_err-write.ensures.place c.in_ok-path.ensures.path (c.deref.ensures.value ∙ c.in_ok-text.ensures.text) reads c.in_err-write.ensures.partly_written)
