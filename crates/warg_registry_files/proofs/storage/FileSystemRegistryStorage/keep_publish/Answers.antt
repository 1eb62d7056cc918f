-- What was written reads back, and what was cut does not.
use Rattle.std.proofs.Common.{refl, ◌∙◌}
use Rattle.warg_publish.specs.Shown.{info_view}
use Rattle.warg_publish_text.specs.PublishText.{publish_of, publish_text}
use Rattle.warg_store.specs.Held.{Held, with_publish}
use Rattle.warg_registry_files.specs.Paths.{publish_path}
use Rattle.warg_registry_files.specs.Shown.{place_view}
use Rattle.warg_registry_files.proofs.FileLaws.{IsWritten, nothing_left, nothing_written, on_err_too, refused_at, stored_at, publish_written}
use Rattle.warg_registry_files.proofs.storage.FileSystemRegistryStorage.keep_publish.Goals as goal

pub returns-in_err-path-clause-refused : goal.returns-in_err-path-clause-refused
returns-in_err-path-clause-refused g c = nothing_left c.from_residual.result _ _ (λ (h : Held). with_publish h) _

pub returns-in_err-path-clause-partly_written : goal.returns-in_err-path-clause-partly_written
returns-in_err-path-clause-partly_written g c = nothing_written c.from_residual.result _ _ _ _ refl

pub returns-in_err-text-clause-refused : goal.returns-in_err-text-clause-refused
returns-in_err-text-clause-refused g c = nothing_left c.from_residual-in_err-text.result _ _ (λ (h : Held). with_publish h) _

pub returns-in_err-text-clause-partly_written : goal.returns-in_err-text-clause-partly_written
returns-in_err-text-clause-partly_written g c = nothing_written c.from_residual-in_err-text.result _ _ _ _ refl

pub returns-clause-stored : goal.returns-clause-stored
returns-clause-stored g c =
    let place = place_view c.args.self.now.place in
    let info = info_view c.args.info.now in
    let reads : IsWritten publish_of (publish_text info) info = record { whole = c.in_ok-text.ensures.whole c.requires; front = c.in_ok-text.ensures.front } in
    stored_at publish_of place (publish_path place) (λ (h : Held). with_publish h)
    (publish_written place c.args.self.now.place.single) (place_view c.write.new.self.place)
    _ _ c.in_ok-path.path c.deref.result.now (publish_text info) info c.in_ok-write.ensures.place c.in_ok-path.ensures (c.deref.ensures.value ∙ c.in_ok-text.ensures.text) reads c.in_ok-write.ensures.written

pub returns-in_err-write-clause-refused : goal.returns-in_err-write-clause-refused
returns-in_err-write-clause-refused g c =
    let place = place_view c.args.self.now.place in
    let info = info_view c.args.info.now in
    let reads : IsWritten publish_of (publish_text info) info = record { whole = c.in_ok-text.ensures.whole c.requires; front = c.in_ok-text.ensures.front } in
    on_err_too c.from_residual-in_err-write.result
    (refused_at publish_of place (publish_path place) (λ (h : Held). with_publish h)
    (publish_written place c.args.self.now.place.single) (place_view c.write.new.self.place)
    _ _ c.in_ok-path.path c.deref.result.now (publish_text info) info c.in_err-write.ensures.place c.in_ok-path.ensures (c.deref.ensures.value ∙ c.in_ok-text.ensures.text) reads c.in_err-write.ensures.partly_written)
