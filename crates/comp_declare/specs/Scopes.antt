-- A scope by numbers of a table: its index spaces, and beside them its imports and exports.
use Rattle.std.specs.Prelude.{◌≡◌, ℕ, false, List, map}
use Rattle.std.specs.Str.{str_to_ascii_lowercase}
use Rattle.comp_scope.specs.Spaces as scope
use Rattle.comp_scope.specs.Descriptions.{Described}
use Rattle.comp_scope.specs.Spaces.{Known, is_taken}
use Rattle.comp_declare.specs.declared.entries.Entries.{Entries}
use Rattle.comp_declare.specs.declared.scope.NamedDescription.{NamedDescription}
use Rattle.comp_declare.specs.declared.scope.Scope.{Scope}
use Rattle.comp_space.specs.Descriptions.{ShowsDescribed}
use Rattle.comp_space.specs.SpaceViews.{ShowsSpaces}
use Rattle.comp_table.specs.declared.head.Head.TheVariants as head
use Rattle.comp_table.specs.Plain.{around, plain_entity}
use Rattle.comp_table.specs.Trees.{PlainTree, Stands, AllStand}

-- an import or an export under its name, with its truth value
abbrev pub plain_entry : List ℕ × scope.Standing → PlainTree
plain_entry e = around (head.Entry e.1.1 e.0) (plain_entity e.1.0)

abbrev pub lower_names : List (List ℕ × scope.Standing) → List (List ℕ)
lower_names entries = map (λ e. str_to_ascii_lowercase e.0) entries

-- the numbers stand for these imports or exports, in order, and these are their names, letter case set aside
pub record ShowsEntries (table : List PlainTree) (part : Entries) (entries : List (List ℕ × scope.Standing)) : Type 0 where
  pub stand : AllStand table part.numbers.items (map plain_entry entries)
  pub names_are : part.names.keys ≡ lower_names entries

pub record ShowsScope (table : List PlainTree) (part : Scope) (k : Known) : Type 0 where
  pub spaces : ShowsSpaces table part.space k.spaces
  pub imports : ShowsEntries table part.imports k.imports
  pub exports : ShowsEntries table part.exports k.exports

-- they stand for some scope
abbrev pub IsScope : List PlainTree → Scope → Type 0
IsScope table part = (k : Known) × ShowsScope table part k

-- An import or an export that is not yet among others, under this name.
pub record ShowsNamed (table : List PlainTree) (name : List ℕ) (entries : List (List ℕ × scope.Standing)) (named : NamedDescription) (d : Described) : Type 0 where
  pub described : ShowsDescribed table named.described d
  pub stands : Stands table named.number (plain_entry (name, d.standing))
  pub is_new : is_taken name entries ≡ false
  pub name_is : named.name ≡ str_to_ascii_lowercase name
