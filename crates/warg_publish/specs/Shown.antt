-- What clauses see of what is to be published: plain values.
use Rattle.std.specs.Prelude.{map}
use Rattle.semver.specs.Identifiers.{parts_of}
use Rattle.warg_record.specs.View.{package_permission_text}
use Rattle.warg_publish.specs.Publish.{PlainPublishEntry, PlainPublishInfo, Init, Release, Yank, Grant, Revoke}
use Rattle.warg_publish.specs.declared.entry.PublishEntry.{PublishEntry}
use Rattle.warg_publish.specs.declared.entry.PublishEntry.TheVariants as made
use Rattle.warg_publish.specs.declared.info.PublishInfo.{PublishInfo}

abbrev pub entry_view : PublishEntry → PlainPublishEntry
entry_view made.Init = Init
entry_view (made.Release version content) = Release (parts_of version) content
entry_view (made.Yank version) = Yank (parts_of version)
entry_view (made.Grant key permissions) = Grant key (map package_permission_text permissions.items)
entry_view (made.Revoke key_id permissions) = Revoke key_id (map package_permission_text permissions.items)

abbrev pub info_view : PublishInfo → PlainPublishInfo
info_view info = record { name = info.name; head = info.head; entries = map entry_view info.entries.items }
