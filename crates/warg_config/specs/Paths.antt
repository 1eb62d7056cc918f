-- Paths as places: the names that lead to a place from the root, and from one folder to another. `path_join`,
-- `path_parent` and `path_components` are std's, and those of Rust's `Path`.
use Rattle.std.specs.Prelude.{ℕ, zero, suc, ◌-◌, ◌||◌, List, [], ◌∷◌, ◌++◌, length, take, fold, replicate, bytes_eq, if◌then◌else◌, codes, Option, Some, None, unwrap_or}
use Rattle.std.specs.List.{join_by}
use Rattle.std.specs.Path.{root_dir, cur_dir, parent_dir, path_join, path_parent, path_components}

-- a place, by the names of the folders from the root on
abbrev pub Place : Type 0
Place = List (List ℕ)

-- the folder above a place. Above the root is the root
abbrev pub above : Place → Place
above place = take (length place - 1) place

-- where a component of a path leads: `..` to the folder above, `/` and `.` nowhere else, and a name into its folder
abbrev pub step : Place → List ℕ → Place
step place part =
    if bytes_eq part parent_dir then above place
    else (if bytes_eq part root_dir || bytes_eq part cur_dir then place else place ++ part ∷ [])

-- the place of a path that begins with `/`, where no folder is a link: its `.` and `..` are taken out
unfoldable pub place_of : List ℕ → Place
place_of path = fold step [] (path_components path)

-- as many `..` as there are names
abbrev pub up : Place → Place
up names = replicate (length names) parent_dir

-- the names that lead from one place to another: up to the folder that both have, and down from there
unfoldable pub way : Place → Place → Place
way [] to = to
way (a ∷ from) [] = up (a ∷ from)
way (a ∷ from) (b ∷ to) = if bytes_eq a b then way from to else up (a ∷ from) ++ b ∷ to

-- names with a slash between each two
abbrev pub path_of : Place → List ℕ
path_of names = join_by (λ (name : List ℕ). name) (codes "/") names

-- the folder of a file, which is the empty path where the file's path has none
abbrev pub folder_of : List ℕ → List ℕ
folder_of path = unwrap_or (path_parent path) []

-- a path as it is written in a file of a folder: the way from there to where it leads from there
unfoldable pub relative_to : List ℕ → List ℕ → List ℕ
relative_to folder path = path_of (way (place_of folder) (place_of (path_join folder path)))

-- a folder and those above it, lowest first, but no more than a bound
abbrev pub folders_from : ℕ → Option (List ℕ) → List (List ℕ)
folders_from zero folder = []
folders_from (suc bound) None = []
folders_from (suc bound) (Some folder) = folder ∷ folders_from bound (path_parent folder)

-- a folder and all those above it: the path of each is shorter than that of the one before
unfoldable pub folders_up : List ℕ → List (List ℕ)
folders_up folder = folders_from (suc (length folder)) (Some folder)
