-- Each entry by what it has.
use Rattle.std.proofs.Common.{map, subst}
use Rattle.semver.specs.Identifiers.{parts_of}
use Rattle.warg_record.specs.View.{package_permission_text}
use Rattle.warg_publish_text.specs.ReadsBack.{NamesItself}
use Rattle.warg_publish_text.proofs.EntryLaws.{init_read, release_read, yank_read, grant_read, revoke_read, permissions_stand}
use Rattle.warg_publish_text.proofs.values.reads_back.Goals as goal

pub returns-in-Init : goal.returns-in-Init
returns-in-Init c = rw c.in-Init.is init_read

pub returns-in-Release : goal.returns-in-Release
returns-in-Release c = rw c.in-Release.is (release_read (parts_of c.in-Release.version) c.in-Release.content c.names_itself.ensures)

pub returns-in-Yank : goal.returns-in-Yank
returns-in-Yank c = rw c.in-Yank.is (yank_read (parts_of c.in-Yank.version))

pub returns-in-Grant : goal.returns-in-Grant
returns-in-Grant c =
    rw c.in-Grant.is (grant_read c.in-Grant.key (map package_permission_text c.in-Grant.permissions.items) c.has_form.ensures (permissions_stand c.in-Grant.permissions.items))

pub returns-in-Revoke : goal.returns-in-Revoke
returns-in-Revoke c =
    rw c.in-Revoke.is (revoke_read c.in-Revoke.key_id (map package_permission_text c.in-Revoke.permissions.items)
    (subst NamesItself c.hash.ensures.value c.names_itself-in-Revoke.ensures) (permissions_stand c.in-Revoke.permissions.items))
