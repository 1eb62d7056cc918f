-- Worked rows of the definitions.
use Rattle.std.proofs.Common.{◌≡◌, ◌∷◌, [], codes, Some, None, refl}
use Rattle.std.specs.Str.{chars, is_utf8}
use Rattle.json.proofs.OnLiterals.{json_on_literals}
use Rattle.warg_store.specs.Entry.{Absent, Whole, Unreadable}
use Rattle.warg_namespace_files.specs.NamespaceFile.{names_in, names_text, entry_in}

-- two names are written in their order, with no space
two-written : names_text ((codes "b", codes "x.test") ∷ (codes "a", codes "\"") ∷ []) ≡ codes "{\"b\":\"x.test\",\"a\":\"\\\"\"}"
unfolding json_on_literals is_utf8 chars
two-written = refl

-- white space is passed over, and of a repeated name the last value counts
spaced-read : names_in (codes " {\"a\" : \"x\", \"b\": \"y\", \"a\": \"z\"}") ≡ Some ((codes "a", codes "z") ∷ (codes "b", codes "y") ∷ [])
unfolding json_on_literals is_utf8 chars
spaced-read = refl

-- what is cut can't be read
cut-unread : entry_in (Some (codes "{")) ≡ Unreadable
unfolding json_on_literals is_utf8 chars
cut-unread = refl

-- nor can a number in the place of a registry's name, nor a list
number-unread : entry_in (Some (codes "{\"a\":1}")) ≡ Unreadable
unfolding json_on_literals is_utf8 chars
number-unread = refl

list-unread : entry_in (Some (codes "[]")) ≡ Unreadable
unfolding json_on_literals is_utf8 chars
list-unread = refl

-- an empty object has no names, and a file that is missing is no entry
empty-read : entry_in (Some (codes "{}")) ≡ Whole []
unfolding json_on_literals is_utf8 chars
empty-read = refl

missing-absent : entry_in None ≡ Absent
missing-absent = refl
