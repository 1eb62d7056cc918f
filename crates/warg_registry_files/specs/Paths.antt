-- Where what is kept of registries stands: in a folder for each registry, beside that of the home registry.
use Rattle.std.specs.Prelude.{◌≡◌, ℕ, nat_eq, nat_lt, ◌&&◌, ◌||◌, not, Bool, true, false, if◌then◌else◌, List, [], ◌∷◌, ◌++◌, length, bytes_eq, codes, Some, None}
use Rattle.std.specs.Char.{is_ascii_alphanumeric}
use Rattle.std.specs.List.{list_all, list_any}
use Rattle.std.specs.Str.{is_utf8}
use Rattle.hex.specs.Hex.{encode_lower, encode_upper}
use Rattle.warg_store.specs.Held.{Registry, Package}

abbrev pub slash : ℕ
slash = 0x2f

abbrev pub dot : ℕ
dot = 0x2e

abbrev pub hyphen : ℕ
hyphen = 0x2d

abbrev pub underscore : ℕ
underscore = 0x5f

abbrev pub percent : ℕ
percent = 0x25

-- ---- names of folders

-- whether a byte of a registry's name stands in a folder's name as it is: letters, digits, `-` and `_` do, and `.`
-- unless it is the first byte
abbrev pub stands : Bool → ℕ → Bool
stands first b =
    is_ascii_alphanumeric b || (nat_eq b hyphen || (nat_eq b underscore || (not first && nat_eq b dot)))

-- a byte, or `%` and its two upper-case hexadecimal digits
abbrev pub escaped_byte : Bool → ℕ → List ℕ
escaped_byte first b = if stands first b then b ∷ [] else percent ∷ encode_upper (b ∷ [])

abbrev pub escaped_bytes : Bool → List ℕ → List ℕ
escaped_bytes first [] = []
escaped_bytes first (b ∷ bs) = escaped_byte first b ++ escaped_bytes false bs

-- a registry's name, escaped. The empty name is `%`
abbrev pub escaped : List ℕ → List ℕ
escaped [] = percent ∷ []
escaped (b ∷ bs) = escaped_bytes true (b ∷ bs)

abbrev pub has_slash : List ℕ → Bool
has_slash path = list_any (λ b. nat_eq b slash) path

-- where the folders of registries are: the path of the folder that has them, and the name of the home registry's
pub record Place : Type 0 where
  pub parent : List ℕ
  pub own : List ℕ

-- A path with a slash. One that has none is in the folder in which a program runs, `.`, and the empty path is that
-- folder.
abbrev pub with_slash : List ℕ → List ℕ
with_slash path =
    if has_slash path then path else codes "./" ++ (if nat_eq (length path) 0 then dot ∷ [] else path)

-- the home registry's folder has this path
pub record IsPlaceOf (base : List ℕ) (place : Place) : Type 0 where
  pub joined : place.parent ++ slash ∷ place.own ≡ with_slash base
  pub last : has_slash place.own ≡ false

-- each number is a byte
abbrev pub are_bytes : List ℕ → Bool
are_bytes bs = list_all (λ b. nat_lt b 256) bs

-- the numbers are bytes, and a text in UTF-8
abbrev pub is_text : List ℕ → Bool
is_text bs = are_bytes bs && is_utf8 bs

-- a registry's name is a text, where it has one
abbrev pub is_named : Registry → Bool
is_named None = true
is_named (Some name) = is_text name

-- a package's registry is named so, and the id of its log is bytes
abbrev pub is_log : Package → Bool
is_log p = is_named p.0 && are_bytes p.1

-- the name of a registry's folder, which has `%%` before it where it were the home registry's own
abbrev pub folder_name : List ℕ → Registry → List ℕ
folder_name own None = own
folder_name own (Some name) =
    if bytes_eq (escaped name) own then percent ∷ percent ∷ escaped name else escaped name

abbrev pub folder_path : Place → Registry → List ℕ
folder_path place r = place.parent ++ slash ∷ folder_name place.own r

-- ---- files

-- the path that a store locks: `.lock` in the home registry's folder. The empty text is the folder in which a program
-- runs
abbrev pub lock_path : List ℕ → List ℕ
lock_path base = if nat_eq (length base) 0 then codes ".lock" else base ++ codes "/.lock"

abbrev pub checkpoint_path : Place → Registry → List ℕ
checkpoint_path place r = folder_path place r ++ codes "/checkpoint"

abbrev pub operator_path : Place → Registry → List ℕ
operator_path place r = folder_path place r ++ codes "/operator.log"

-- what is to be published, in the home registry's folder
abbrev pub publish_path : Place → List ℕ
publish_path place = folder_path place None ++ codes "/pending-publish.json"

-- the folder of the packages' logs
abbrev pub packages_path : Place → Registry → List ℕ
packages_path place r = folder_path place r ++ codes "/package-logs"

-- the log of a package, by the lower-case hexadecimal digits of its id
abbrev pub package_path : Place → Package → List ℕ
package_path place p = folder_path place p.0 ++ codes "/package-logs/sha256/" ++ encode_lower p.1
