-- Nothing was written.
use Rattle.warg_namespace_files.specs.NamespaceFile.{held_at, names_text}
use Rattle.warg_namespace_files.proofs.FileLaws.{nothing_written, on_err_too}
use Rattle.warg_store.specs.Namespaces.{with_name}
use Rattle.warg_namespace_files.proofs.storage.FileSystemNamespaceMapStorageNamespaceMapStorage.store_namespace.Goals as goal

pub returns-in_err-names-clause-partly_written : goal.returns-in_err-names-clause-partly_written
returns-in_err-names-clause-partly_written g c =
    on_err_too c.from_residual.result
    (nothing_written _ _ c.args.self.now.path (λ files. names_text (with_name (held_at c.args.self.now.path files) c.args.namespace.now c.args.registry.now)) c.names.ensures.untouched)

pub returns-in_err-add_name-clause-partly_written : goal.returns-in_err-add_name-clause-partly_written
returns-in_err-add_name-clause-partly_written g c =
    on_err_too c.from_residual-in_err-add_name.result
    (nothing_written _ _ c.args.self.now.path (λ files. names_text (with_name (held_at c.args.self.now.path files) c.args.namespace.now c.args.registry.now)) c.names.ensures.untouched)
