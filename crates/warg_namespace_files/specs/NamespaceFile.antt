-- A file with the registries of namespaces: a JSON object (RFC 8259) whose members have the namespaces as their names,
-- and the names of the registries as their values.
use Rattle.std.specs.Prelude.{ℕ, List, [], ◌∷◌, if◌then◌else◌, bytes_eq, Option, Some, None, option_map, option_and_then}
use Rattle.std.specs.Option.{option_map_or}
use Rattle.std.specs.Str.{is_utf8}
use Rattle.indexmap.specs.IndexMap.{insert_all}
use Rattle.json.specs.Json.{Json, object, string, Members, no_members, member, document}
use Rattle.json.specs.Print.{print}
use Rattle.json.specs.Tree.{json_tokens}
use Rattle.warg_base.specs.Files.{FileMap, file_at}
use Rattle.warg_store.specs.Entry.{Entry, Absent, Whole, Unreadable}
use Rattle.warg_store.specs.Namespaces.{Names}

-- ---- what bytes mean

-- the members' names and texts, where each value is a text
abbrev pub texts_of : Members → Option (List (List ℕ × List ℕ))
texts_of no_members = Some []
texts_of (member name (string text) ms) = option_map (λ texts. (name, text) ∷ texts) (texts_of ms)
texts_of (member name value ms) = None

-- those of an object
abbrev pub object_texts : Json → Option (List (List ℕ × List ℕ))
object_texts (object ms) = texts_of ms
object_texts value = None

-- the names that bytes have. Of members with one name the first has the place, and the last the value
abbrev pub names_in : List ℕ → Option Names
names_in bytes =
    if is_utf8 bytes then option_map (insert_all bytes_eq []) (option_and_then object_texts (document bytes)) else None

-- what a file holds, which may be missing
abbrev pub entry_in : Option (List ℕ) → Entry Names
entry_in None = Absent
entry_in (Some bytes) = option_map_or Whole (names_in bytes) Unreadable

-- what is held where these files stand
abbrev pub held_at : List ℕ → FileMap → Entry Names
held_at path files = entry_in (file_at files path)

-- ---- what is written

abbrev pub members_of : Names → Members
members_of [] = no_members
members_of (name ∷ names) = member name.0 (string name.1) (members_of names)

-- the names as compact JSON, in their order
abbrev pub names_text : Names → List ℕ
names_text names = print (json_tokens (object (members_of names)))
