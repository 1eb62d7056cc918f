-- What is held of registries, and of what is to be published, where files stand.
use Rattle.std.specs.Prelude.{◌≡◌, List, [], ◌∷◌, ◌++◌, ℕ, true, if◌then◌else◌, bytes_eq, Option, Some, None, option_and_then}
use Rattle.std.specs.Option.{option_map_or}
use Rattle.warg_base.specs.Files.{FileMap, file_at}
use Rattle.warg_hash.specs.Hash.{package_log_id}
use Rattle.warg_info_text.specs.StoredTexts.{checkpoint_of, operator_of, package_of}
use Rattle.warg_publish_text.specs.PublishText.{publish_of}
use Rattle.warg_store.specs.Entry.{Entry, Absent, Whole, Unreadable}
use Rattle.warg_store.specs.Held.{Held, NamedInfo, Package, Registry, is_registry, package_key}
use Rattle.warg_registry_files.specs.Paths.{Place, checkpoint_path, is_log, is_named, operator_path, package_path, publish_path}

-- the entry of a file, which may be missing, whose bytes are read so
abbrev pub entry_by : {X : Type 0} → (List ℕ → Option X) → Option (List ℕ) → Entry X
entry_by read None = Absent
entry_by read (Some bytes) = option_map_or Whole (read bytes) Unreadable

-- a package whose log has this id
abbrev pub package_with_id : List ℕ → List ℕ → Option NamedInfo
package_with_id id bytes = option_and_then
    (λ found. if bytes_eq (package_log_id found.0) id then Some (record { name = found.0; info = found.1 }) else None)
    (package_of bytes)

-- What is held: each entry is what its file has, and a package's is one whose log has the id that names the file. Of
-- what is no name and no id nothing is held.
abbrev pub held_in : Place → FileMap → Held
held_in place files = record {
  checkpoints = λ r. if is_named r then entry_by checkpoint_of (file_at files (checkpoint_path place r)) else Absent;
  operators = λ r. if is_named r then entry_by operator_of (file_at files (operator_path place r)) else Absent;
  packages = λ p. if is_log p then entry_by (package_with_id p.1) (file_at files (package_path place p)) else Absent;
  publish = entry_by publish_of (file_at files (publish_path place));
}

-- what is read at a path: a package that is held, where it is the path of the package's log; or else nothing, where no
-- package is held of whose log it is the path
abbrev pub IsReadAt : Place → FileMap → List ℕ → Option (Registry × NamedInfo) → Type 0
IsReadAt place files path None =
    (p : Package) → is_log p ≡ true → path ≡ package_path place p → (held_in place files).packages p ≡ Absent
IsReadAt place files path (Some found) =
    (is_log (package_key found.0 found.1.name) ≡ true)
    × (path ≡ package_path place (package_key found.0 found.1.name))
    × ((held_in place files).packages (package_key found.0 found.1.name) ≡ Whole found.1)

-- what is listed of each registry is what was listed of it, with what is read at a path
abbrev pub Lists : Place → FileMap → List ℕ → (Registry → List NamedInfo) → (Registry → List NamedInfo) → Type 0
Lists place files path listed more =
    (o : Option (Registry × NamedInfo)) × IsReadAt place files path o
    × ((r : Registry) → more r
    ≡ listed r ++ option_map_or (λ found. if is_registry found.0 r then found.1 ∷ [] else []) o [])
