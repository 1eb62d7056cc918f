-- The lines that tell what was made.
use Rattle.std.specs.Prelude.{ℕ, List, ◌++◌, length, codes, decimal, Option, Some, None}
use Rattle.std.specs.List.{flat_map}
use Rattle.hex.specs.Hex.{encode_lower}
use Rattle.semver.specs.Identifiers.{parts_text}
use Rattle.semver.specs.Parse.{Parts}
use Rattle.sha2.specs.Sha256.{sha256}
use Rattle.warg_hash.specs.Hash.{hash_text}
use Rattle.warg_names.specs.Import.{ImportTree, KindTree, Locked}
use Rattle.warg_names.specs.Texts.{versioned_name, versioned_text}
use Rattle.warg_plan.specs.Keys.{Key, Named, Parsed}
use Rattle.warg_plan.specs.Walk.{Entry}

-- how many bytes there are, and their SHA-256
abbrev pub digest_of : List ℕ → List ℕ
digest_of bytes = decimal (length bytes) ++ codes " " ++ encode_lower (sha256 bytes) ++ codes "\n"

-- the line of a link or of a composition
abbrev pub bytes_line : List ℕ → List ℕ
bytes_line linked = codes "bytes " ++ digest_of linked

-- the name of a package, with the version of a locked release, where it has one
abbrev pub exact_text : List ℕ → Option Parts → List ℕ
exact_text name None = name
exact_text name (Some version) = versioned_name name (parts_text version)

abbrev pub import_by : KindTree → ImportTree → List ℕ
import_by (Locked mark) i = exact_text i.name i.exact
import_by _ i = versioned_text i.name i.requirement

-- what the name of an import asks for, without a digest
abbrev pub import_text : ImportTree → List ℕ
import_text i = import_by i.kind i

-- the key of an entry: the name that the plan's text gives it, or what the name of an import asks for
abbrev pub key_text : Key → List ℕ
key_text (Named name) = codes "named " ++ name
key_text (Parsed import) = codes "parsed " ++ import_text import

-- the line of an entry: its package, its version, its digest, and its key
abbrev pub entry_line : Entry → List ℕ
entry_line e =
    codes "entry " ++ e.name ++ codes " " ++ parts_text e.version ++ codes " " ++ hash_text e.digest ++ codes " "
    ++ key_text e.key ++ codes "\n"

-- the line of an import that is left open
abbrev pub left_line : List ℕ → List ℕ
left_line name = codes "left " ++ name ++ codes "\n"

-- the lines of a lock and of a component
abbrev pub made_lines : List ℕ → List ℕ → List ℕ
made_lines lock bundle = codes "lock " ++ digest_of lock ++ codes "bundle " ++ digest_of bundle

-- the lines of an assembly: one for each entry of its plan, one for each import that is left open, and those of the lock and
-- of the component
abbrev pub assembly_lines : List Entry → List (List ℕ) → List ℕ → List ℕ → List ℕ
assembly_lines entries left lock bundle =
    flat_map entry_line entries ++ flat_map left_line left ++ made_lines lock bundle

-- the lines of the demo world: how many entries its plan has, and how many imports it leaves open; and those of the lock and
-- of the component
abbrev pub demo_lines : List Entry → List (List ℕ) → List ℕ → List ℕ → List ℕ
demo_lines entries left lock bundle =
    codes "entries " ++ decimal (length entries) ++ codes " left " ++ decimal (length left) ++ codes "\n"
    ++ made_lines lock bundle
