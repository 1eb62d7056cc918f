-- What is at one path is taken.
use Rattle.std.proofs.lemmas.Result.{on_ok_weaker}
use Rattle.warg_registry_files.specs.Shown.{place_view}
use Rattle.warg_registry_files.proofs.FileLaws.{on_err_too}
use Rattle.warg_registry_files.proofs.PublishLaws.{nothing_removed, publish_left, publish_taken, publish_unasked}
use Rattle.warg_registry_files.proofs.storage.FileSystemRegistryStorage.take_publish.Goals as goal

pub returns-in_err-path-clause-refused : goal.returns-in_err-path-clause-refused
returns-in_err-path-clause-refused g c = on_err_too c.from_residual.result (publish_unasked (place_view c.args.self.now.place) _)

pub returns-in_err-path-clause-partly_removed : goal.returns-in_err-path-clause-partly_removed
returns-in_err-path-clause-partly_removed g c = nothing_removed c.from_residual.result _ _

pub returns-clause-stored : goal.returns-clause-stored
returns-clause-stored g c =
    let place = place_view c.args.self.now.place in
    on_ok_weaker c.take.result
    (publish_taken place (place_view c.take.new.self.place) c.args.self.now.place.single c.take.ensures.place _ _ (rw (← c.in_ok-path.ensures) c.take.ensures.others))
    (rw (← c.in_ok-path.ensures) c.take.ensures.gone)

pub returns-clause-refused : goal.returns-clause-refused
returns-clause-refused g c =
    let place = place_view c.args.self.now.place in
    on_err_too c.take.result
    (publish_left place (place_view c.take.new.self.place) c.args.self.now.place.single c.take.ensures.place _ _ (rw (← c.in_ok-path.ensures) c.take.ensures.others))
