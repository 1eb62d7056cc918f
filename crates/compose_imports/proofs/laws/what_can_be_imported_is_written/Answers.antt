use Rattle.compose_imports.proofs.GrownLaws.{lefts_possible}
use Rattle.compose_imports.proofs.laws.what_can_be_imported_is_written.Goals as goal

pub returns : goal.returns
returns c =
    lefts_possible c.what_is_known_is_written.ensures.entity c.an_import_is_one_item.ensures.needs
    c.an_import_is_one_item.ensures.item c.an_import_is_one_item.ensures.calls
