-- What is written behind what, and why not.
use Rattle.std.specs.Prelude.{◌≡◌, ℕ, ◌+◌, ◌<◌, ◌≤◌, List, [], ◌++◌, ◌==◌, if◌then◌else◌, codes, Result, Ok, Err, string_bytes}
use Rattle.std.specs.Io.{StartsWith}
use Rattle.yaml_small.specs.Trees.{depth}
use Rattle.yaml_text.specs.Texts.{quoted}
use Rattle.yaml_text.specs.Written.{Written, tree_of, written, new_line}
use Rattle.serde_yaml2.specs.declared.error.Errors.{Errors}
use Rattle.serde_yaml2.specs.declared.error.Errors.TheVariants as errors
use Rattle.serde_yaml2.specs.declared.serializer.YamlSerializer.{YamlSerializer}
use Rattle.serde_yaml2.specs.declared.collection.SequenceSerializer.{SequenceSerializer}
use Rattle.serde_yaml2.specs.declared.collection.MapSerializer.{MapSerializer}

-- What was written, and how many lists and maps are open.
pub record Output : Type 0 where
  pub text : List ℕ
  pub level : ℕ

abbrev pub output_of : YamlSerializer → Output
output_of ser = record { text = string_bytes ser.text; level = ser.level.depth }

-- what a list's or a map's serializer writes to, and which borrow it holds
abbrev pub list_output : SequenceSerializer → Output
list_output list = output_of list.ser.now

abbrev pub list_name : SequenceSerializer → ℕ
list_name list = list.ser.ghost_name

abbrev pub map_output : MapSerializer → Output
map_output map = output_of map.ser.now

abbrev pub map_name : MapSerializer → ℕ
map_name map = map.ser.ghost_name

-- one piece more
abbrev pub appended : Output → List ℕ → Output
appended before piece = record { text = before.text ++ piece; level = before.level }

-- A front of a piece was appended.
abbrev pub IsCut : Output → List ℕ → Output → Type 0
IsCut before piece after =
    StartsWith after.text before.text × StartsWith (before.text ++ piece) after.text × (after.level ≡ before.level)

-- Why a value so deep was not written.
abbrev pub Explains : Errors → ℕ → Type 0
Explains errors.FormArgsError deep = 64 < deep
Explains (errors.UnsupportedSerializationError what) deep = ⊥
Explains errors.Memory deep = Unit {0}

-- A piece was appended that holds so many levels of lists and maps, or a front of it where it was refused.
abbrev pub Puts : Result (Unit {0}) Errors → Output → List ℕ → ℕ → Output → Type 0
Puts (Ok _) before piece levels after = (after ≡ appended before piece) × (before.level + levels ≤ 64)
Puts (Err e) before piece levels after = IsCut before piece after × Explains e (before.level + levels)

-- A value was written, or a front of its text.
abbrev pub Writes : Result (Unit {0}) Errors → Output → Written → Output → Type 0
Writes result before w after = Puts result before (written before.level w) (depth (tree_of w)) after

-- A piece was appended, or a front of it where memory ran out.
abbrev pub Pushes : Result (Unit {0}) Errors → Output → List ℕ → Output → Type 0
Pushes (Ok _) before piece after = after ≡ appended before piece
Pushes (Err e) before piece after = IsCut before piece after × (e ≡ errors.Memory)

-- a value on a line of its own, and one level deeper
abbrev pub line_of : ℕ → Written → List ℕ
line_of level w = new_line level ++ written level w

abbrev pub below : ℕ → Written → List ℕ
below level w = line_of (level + 1) w

-- the same, and the line behind it
abbrev pub nested : ℕ → Written → List ℕ
nested level w = below level w ++ new_line level

-- an item of a list, and a key of a map
abbrev pub item_text : ℕ → Written → List ℕ
item_text level w = codes "- " ++ nested level w

abbrev pub key_text : List ℕ → List ℕ
key_text key = quoted key ++ codes ":"

-- what stands for a list or map of so many parts before the first of them, and a list's and a map's
abbrev pub head : ℕ → List ℕ → List ℕ
head len empty = if len == 0 then empty else []

abbrev pub list_head : ℕ → List ℕ
list_head len = head len (codes "[]")

abbrev pub map_head : ℕ → List ℕ
map_head len = head len (codes "{}")
