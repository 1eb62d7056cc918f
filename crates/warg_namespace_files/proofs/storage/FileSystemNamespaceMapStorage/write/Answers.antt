-- What was written reads back, and what was cut does not.
use Rattle.std.proofs.Common.{refl, ◌∙◌}
use Rattle.warg_namespace_files.specs.NamespaceFile.{names_text}
use Rattle.warg_namespace_files.proofs.FileLaws.{IsWritten, stored_names, refused_names, nothing_written_here, on_err_too}
use Rattle.warg_namespace_files.proofs.storage.FileSystemNamespaceMapStorage.write.Goals as goal

pub returns-in_err-text-clause-partly_written : goal.returns-in_err-text-clause-partly_written
returns-in_err-text-clause-partly_written g c = on_err_too c.from_residual.result (nothing_written_here _ _ _ _ refl)

pub returns-in-Ok-clause-stored : goal.returns-in-Ok-clause-stored
returns-in-Ok-clause-stored g c =
    let names = c.args.names.now.entries in
    let law = c.written_names_read_back.ensures in
    let reads : IsWritten (names_text names) names =
    record { whole = law.whole names c.in_ok-text.ensures.distinct c.in_ok-text.ensures.utf8; front = law.front names } in
    stored_names _ _ c.args.self.now.path c.as_str.result.now c.deref.result.now names c.as_str.ensures (c.deref.ensures.value ∙ c.in_ok-text.ensures.text) reads c.in-Ok.ensures.written

pub returns-clause-refused : goal.returns-clause-refused
returns-clause-refused g c =
    let names = c.args.names.now.entries in
    let law = c.written_names_read_back.ensures in
    let reads : IsWritten (names_text names) names =
    record { whole = law.whole names c.in_ok-text.ensures.distinct c.in_ok-text.ensures.utf8; front = law.front names } in
    refused_names _ _ c.args.self.now.path c.as_str.result.now c.deref.result.now names c.as_str.ensures (c.deref.ensures.value ∙ c.in_ok-text.ensures.text) reads c.in-Err.ensures.refused
