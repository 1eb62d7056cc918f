-- What is held once files were taken away.
use Rattle.std.proofs.lemmas.Result.{on_ok_weaker}
use Rattle.warg_registry_files.specs.Shown.{place_view}
use Rattle.warg_registry_files.proofs.FileLaws.{on_err_too}
use Rattle.warg_registry_files.proofs.ResetLaws.{reset_leaves, reset_tells}
use Rattle.warg_registry_files.proofs.storage.FileSystemRegistryStorageRegistryStorage.reset.Goals as goal

pub returns-clause-reset : goal.returns-clause-reset
returns-clause-reset g c =
    on_ok_weaker c.take_away.result
    (reset_tells (place_view c.args.self.now.place) (place_view c.take_away.new.self.place) c.take_away.ensures.place c.args.self.now.place.single c.args.all_registries _ _ c.take_away.ensures.others)
    c.take_away.ensures.gone

pub returns-clause-refused : goal.returns-clause-refused
returns-clause-refused g c =
    on_err_too c.take_away.result
    (reset_leaves (place_view c.args.self.now.place) (place_view c.take_away.new.self.place) c.take_away.ensures.place c.args.self.now.place.single c.args.all_registries _ _ c.take_away.ensures.others)
