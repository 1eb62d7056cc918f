use Rattle.compose_settled.proofs.Reading.{all_read, items_read}
use Rattle.compose_settled.proofs.laws.imports_read_back.Goals as goal

pub returns-clause-scopes : goal.returns-clause-scopes
returns-clause-scopes c = λ mean ls m k later. all_read c.what_is_written_reads_back.ensures c.an_import_reads_back.ensures c.another_number_is_known.ensures mean ls m k later

pub returns-clause-items : goal.returns-clause-items
returns-clause-items c =
    items_read c.nothing_is_written.ensures c.declarations_are_items.ensures c.what_is_written_reads_back.ensures c.an_import_reads_back.ensures c.another_number_is_known.ensures
