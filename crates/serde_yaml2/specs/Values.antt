-- What is written for values of std's types.
use Rattle.std.specs.Prelude.{ℕ, List, map, Option, Some, None, if◌then◌else◌, encode_utf8}
use Rattle.std.specs.Char.{is_ascii_alphanumeric}
use Rattle.yaml_text.specs.Written as spec
use Rattle.yaml_text.specs.Written.{Written, elements_of, members_of, no_elements, element}
use Rattle.yaml_read.specs.Entries.{seen_entry}

-- a character: a letter or digit of ASCII as it is, and any other as a text
abbrev pub character_of : ℕ → Written
character_of c = if is_ascii_alphanumeric c then spec.character c else spec.text (encode_utf8 c)

-- what may be missing
abbrev pub optional : {X : Type 0} → (X → Written) → Option X → Written
optional written None = spec.null
optional written (Some x) = written x

-- a list of two and of three, a list, and a map
abbrev pub pair_of : Written → Written → Written
pair_of v w = spec.list (element v (element w no_elements))

abbrev pub triple_of : Written → Written → Written → Written
triple_of v w x = spec.list (element v (element w (element x no_elements)))

abbrev pub list_of : {X : Type 0} → (X → Written) → List X → Written
list_of written xs = spec.list (elements_of (map written xs))

abbrev pub map_of : {X : Type 0} → (X → Written) → List (List ℕ × X) → Written
map_of written es = spec.map (members_of (map (seen_entry written) es))
