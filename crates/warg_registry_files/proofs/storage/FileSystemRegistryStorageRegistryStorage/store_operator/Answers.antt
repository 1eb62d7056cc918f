-- What was written reads back, and what was cut does not.
use Rattle.std.proofs.Common.{refl, ◌∙◌}
use Rattle.std.specs.Option.{option_copied}
use Rattle.warg_store.specs.Held.{Held, operator_info, with_operator}
use Rattle.warg_info_text.specs.StoredTexts.{operator_of, operator_text}
use Rattle.warg_registry_files.specs.Paths.{operator_path}
use Rattle.warg_registry_files.specs.Shown.{place_view}
use Rattle.warg_registry_files.proofs.FileLaws.{IsWritten, nothing_left, nothing_written, on_err_too, refused_at, stored_at, operator_written}
use Rattle.warg_registry_files.proofs.storage.FileSystemRegistryStorageRegistryStorage.store_operator.Goals as goal

pub returns-in_err-path-clause-refused : goal.returns-in_err-path-clause-refused
returns-in_err-path-clause-refused g c = nothing_left c.from_residual.result _ _ (λ (h : Held). with_operator h (option_copied c.args.registry)) _

pub returns-in_err-path-clause-partly_written : goal.returns-in_err-path-clause-partly_written
returns-in_err-path-clause-partly_written g c = nothing_written c.from_residual.result _ _ _ _ refl

pub returns-in_err-text-clause-refused : goal.returns-in_err-text-clause-refused
returns-in_err-text-clause-refused g c = nothing_left c.from_residual-in_err-text.result _ _ (λ (h : Held). with_operator h (option_copied c.args.registry)) _

pub returns-in_err-text-clause-partly_written : goal.returns-in_err-text-clause-partly_written
returns-in_err-text-clause-partly_written g c = nothing_written c.from_residual-in_err-text.result _ _ _ _ refl

pub returns-clause-stored : goal.returns-clause-stored
returns-clause-stored g c =
    let place = place_view c.args.self.now.place in
    let reads : IsWritten operator_of (operator_text (operator_info c.args.info.now)) (operator_info c.args.info.now) = record { whole = c.in_ok-text.ensures.whole; front = c.in_ok-text.ensures.front } in
    stored_at operator_of place (operator_path place (option_copied c.args.registry)) (λ (h : Held). with_operator h (option_copied c.args.registry))
    (operator_written place c.args.self.now.place.single (option_copied c.args.registry) c.in_ok-path.ensures.named) (place_view c.write.new.self.place)
    _ _ c.in_ok-path.path c.deref.result.now (operator_text (operator_info c.args.info.now)) (operator_info c.args.info.now) c.in_ok-write.ensures.place c.in_ok-path.ensures.path (c.deref.ensures.value ∙ c.in_ok-text.ensures.text) reads c.in_ok-write.ensures.written

pub returns-in_err-write-clause-refused : goal.returns-in_err-write-clause-refused
returns-in_err-write-clause-refused g c =
    let place = place_view c.args.self.now.place in
    let reads : IsWritten operator_of (operator_text (operator_info c.args.info.now)) (operator_info c.args.info.now) = record { whole = c.in_ok-text.ensures.whole; front = c.in_ok-text.ensures.front } in
    on_err_too c.from_residual-in_err-write.result
    (refused_at operator_of place (operator_path place (option_copied c.args.registry)) (λ (h : Held). with_operator h (option_copied c.args.registry))
    (operator_written place c.args.self.now.place.single (option_copied c.args.registry) c.in_ok-path.ensures.named) (place_view c.write.new.self.place)
    _ _ c.in_ok-path.path c.deref.result.now (operator_text (operator_info c.args.info.now)) (operator_info c.args.info.now) c.in_err-write.ensures.place c.in_ok-path.ensures.path (c.deref.ensures.value ∙ c.in_ok-text.ensures.text) reads c.in_err-write.ensures.partly_written)
