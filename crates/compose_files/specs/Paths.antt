-- Paths, whose parts stand between slashes: how one is joined with a folder, the folder of a file, and the stem of its name.
use Rattle.std.specs.Prelude.{ℕ, Bool, not, ◌&&◌, ◌==◌, if◌then◌else◌, List, [], ◌∷◌, ◌++◌, length, codes, bytes_eq, Option, Some, None, option_map, option_and_then, slice_index, ◌-◌}
use Rattle.std.specs.Option.{option_or}

abbrev pub slash : ℕ
slash = 0x2f

abbrev pub dot : ℕ
dot = 0x2e

abbrev pub is_empty : List ℕ → Bool
is_empty text = length text == 0

-- ---- joining

-- a path that begins with a slash stays where it is
abbrev pub is_absolute : List ℕ → Bool
is_absolute path = not (is_empty path) && (slice_index path 0 == slash)

-- a slash has to stand between a folder and what lies in it; the empty folder adds nothing
abbrev pub needs_slash : List ℕ → Bool
needs_slash folder = not (is_empty folder) && not (slice_index folder (length folder - 1) == slash)

-- a folder, as it stands in front of what lies in it
abbrev pub in_front : List ℕ → List ℕ
in_front folder = if needs_slash folder then folder ++ codes "/" else folder

abbrev pub joined : List ℕ → List ℕ → List ℕ
joined folder path = if is_absolute path then path else in_front folder ++ path

-- the file in which a component of this name is looked for in a folder
abbrev pub wasm_in : List ℕ → List ℕ → List ℕ
wasm_in name folder = joined folder (name ++ codes ".wasm")

-- ---- cutting

-- the text before the last mark, and the text after it
unfoldable pub cut_last : ℕ → List ℕ → Option (List ℕ × List ℕ)
cut_last mark [] = None
cut_last mark (b ∷ text) = option_or (option_map (λ cut. (b ∷ cut.0, cut.1)) (cut_last mark text)) (if b == mark then Some ([], text) else None)

abbrev pub folder_before : Option (List ℕ × List ℕ) → List ℕ
folder_before None = []
folder_before (Some cut) = if is_empty cut.0 then codes "/" else cut.0

-- the folder of a file
abbrev pub folder : List ℕ → List ℕ
folder path = folder_before (cut_last slash path)

-- ---- the stem

abbrev pub onto : ℕ → List (List ℕ) → List (List ℕ)
onto b [] = (b ∷ []) ∷ []
onto b (part ∷ parts) = (b ∷ part) ∷ parts

-- the texts between the slashes
unfoldable pub parts : List ℕ → List (List ℕ)
parts [] = [] ∷ []
parts (b ∷ path) = if b == slash then [] ∷ parts path else onto b (parts path)

-- a part leads somewhere
abbrev pub leads : List ℕ → Bool
leads part = not (is_empty part) && not (bytes_eq part (codes "."))

abbrev pub if_leads : List ℕ → Option (List ℕ)
if_leads part = if leads part then Some part else None

-- the last part that leads somewhere
unfoldable pub last_part : List (List ℕ) → Option (List ℕ)
last_part [] = None
last_part (part ∷ more) = option_or (last_part more) (if_leads part)

-- the text before the last dot, which does not stand in front
abbrev pub before_dot : List ℕ → Option (List ℕ × List ℕ) → List ℕ
before_dot part None = part
before_dot part (Some cut) = if is_empty cut.0 then part else cut.0

-- a part as a file's name, without its ending
abbrev pub stem_of : List ℕ → Option (List ℕ)
stem_of part = if bytes_eq part (codes "..") then None else Some (before_dot part (cut_last dot part))

-- the stem of the last part, unless the path leads to a folder that has no name there
abbrev pub stem : List ℕ → Option (List ℕ)
stem path = option_and_then stem_of (last_part (parts path))
