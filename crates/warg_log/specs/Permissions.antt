-- The permissions of a key, by their texts.
use Rattle.std.specs.Prelude.{ℕ, ◌&&◌, ◌||◌, not, Bool, false, true, if◌then◌else◌, List, bytes_eq, codes, fold}
use Rattle.warg_record.specs.Record.{Kind, Package, Operator}
use Rattle.warg_log.specs.declared.permissions.PermissionSet.{PermissionSet}

-- whether the permission of this text is in the set
abbrev pub has_permission : PermissionSet → List ℕ → Bool
has_permission set q =
    if bytes_eq q (codes "release") then set.release
    else if bytes_eq q (codes "yank") then set.yank
    else if bytes_eq q (codes "commit") then set.commit
    else if bytes_eq q (codes "defineNamespace") then set.define_namespace
    else if bytes_eq q (codes "importNamespace") then set.import_namespace
    else false

-- no permission
abbrev pub no_permissions : PermissionSet
no_permissions = record { release = false; yank = false; commit = false; define_namespace = false; import_namespace = false }

-- the permission of this text alone
abbrev pub only : List ℕ → PermissionSet
only p = record {
  release = bytes_eq p (codes "release");
  yank = bytes_eq p (codes "yank");
  commit = bytes_eq p (codes "commit");
  define_namespace = bytes_eq p (codes "defineNamespace");
  import_namespace = bytes_eq p (codes "importNamespace");
}

-- the permissions of both sets
abbrev pub union : PermissionSet → PermissionSet → PermissionSet
union a b = record {
  release = a.release || b.release;
  yank = a.yank || b.yank;
  commit = a.commit || b.commit;
  define_namespace = a.define_namespace || b.define_namespace;
  import_namespace = a.import_namespace || b.import_namespace;
}

-- the permissions of the first set that the second has not
abbrev pub without : PermissionSet → PermissionSet → PermissionSet
without a b = record {
  release = a.release && not b.release;
  yank = a.yank && not b.yank;
  commit = a.commit && not b.commit;
  define_namespace = a.define_namespace && not b.define_namespace;
  import_namespace = a.import_namespace && not b.import_namespace;
}

-- these permissions
abbrev pub set_of : List (List ℕ) → PermissionSet
set_of ps = fold (λ set p. union set (only p)) no_permissions ps

-- all permissions of a kind of log
abbrev pub all_of : Kind → PermissionSet
all_of Package = record { release = true; yank = true; commit = false; define_namespace = false; import_namespace = false }
all_of Operator = record { release = false; yank = false; commit = true; define_namespace = true; import_namespace = true }
