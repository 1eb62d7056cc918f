-- What clauses see of records and their entries: plain values.
use Rattle.std.specs.Prelude.{List, ℕ, codes, map}
use Rattle.semver.specs.Identifiers.{parts_of}
use Rattle.warg_record.specs.Record.{PlainEntry, Init, GrantFlat, RevokeFlat, Release, Yank, DefineNamespace, ImportNamespace, PlainRecord}
use Rattle.warg_record.specs.Envelope.{Signed}
use Rattle.warg_record.specs.declared.envelope.Envelope.{Envelope}
use Rattle.warg_record.specs.declared.record.Record.{Record}
use Rattle.warg_record.specs.declared.package.Permission.{Permission}
use Rattle.warg_record.specs.declared.package.Permission.TheVariants as package_permission
use Rattle.warg_record.specs.declared.operator.Permission.{Permission as OperatorPermission}
use Rattle.warg_record.specs.declared.operator.Permission.TheVariants as operator_permission
use Rattle.warg_record.specs.declared.package.PackageEntry.{PackageEntry}
use Rattle.warg_record.specs.declared.package.PackageEntry.TheVariants as package_entry
use Rattle.warg_record.specs.declared.operator.OperatorEntry.{OperatorEntry}
use Rattle.warg_record.specs.declared.operator.OperatorEntry.TheVariants as operator_entry

-- a permission is seen as its text
abbrev pub package_permission_text : Permission → List ℕ
package_permission_text package_permission.Release = codes "release"
package_permission_text package_permission.Yank = codes "yank"

abbrev pub operator_permission_text : OperatorPermission → List ℕ
operator_permission_text operator_permission.Commit = codes "commit"
operator_permission_text operator_permission.DefineNamespace = codes "defineNamespace"
operator_permission_text operator_permission.ImportNamespace = codes "importNamespace"

-- an entry of a package's log
abbrev pub package_entry_view : PackageEntry → PlainEntry
package_entry_view (package_entry.Init key algorithm) = Init key algorithm
package_entry_view (package_entry.GrantFlat key permissions) = GrantFlat key (map package_permission_text permissions.items)
package_entry_view (package_entry.RevokeFlat key_id permissions) = RevokeFlat key_id (map package_permission_text permissions.items)
package_entry_view (package_entry.Release version content) = Release (parts_of version) content
package_entry_view (package_entry.Yank version) = Yank (parts_of version)

-- an entry of an operator's log
abbrev pub operator_entry_view : OperatorEntry → PlainEntry
operator_entry_view (operator_entry.Init key algorithm) = Init key algorithm
operator_entry_view (operator_entry.GrantFlat key permissions) = GrantFlat key (map operator_permission_text permissions.items)
operator_entry_view (operator_entry.RevokeFlat key_id permissions) = RevokeFlat key_id (map operator_permission_text permissions.items)
operator_entry_view (operator_entry.DefineNamespace namespace) = DefineNamespace namespace
operator_entry_view (operator_entry.ImportNamespace namespace registry) = ImportNamespace namespace registry

-- a record, where an entry is seen by view
abbrev pub record_view : {E : Type 0} → (E → PlainEntry) → Record E → PlainRecord
record_view view r = record { prev = r.prev; version = r.version; time = r.time; entries = map view r.entries.items }

-- an envelope, where an entry is seen by view
abbrev pub envelope_view : {E : Type 0} → (E → PlainEntry) → Envelope (Record E) → Signed
envelope_view view env = record { rec = record_view view env.rec; contents = env.contents.items; key_id = env.key_id; signature = env.signature }
