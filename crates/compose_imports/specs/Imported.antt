-- Imports that are written, and where each is found.
use Rattle.std.specs.Prelude.{◌≡◌, ℕ, List, [], ◌∷◌, ◌++◌, map, Option, Some, None, bytes_eq, if◌then◌else◌}
use Rattle.std.specs.BTreeMap.{BTreeMap, get}
use Rattle.comp_encoder.specs.Builder.{entries_of}
use Rattle.comp_encoder.specs.Writing.{Entry, Single, described_sort, numbered}
use Rattle.comp_format.specs.Items.{ItemTree, Import}
use Rattle.compose_left.specs.Merged.{name_cmp}
use Rattle.compose_imports.specs.declared.imported.Imported.{Imported}
use Rattle.warg_values.specs.declared.text.Text.{Text}

abbrev pub Items : Type 0
Items = List ItemTree

-- what is added to a builder for items, one by one
abbrev pub singles : List ItemTree → List Entry
singles = map Single

-- the index of the first import of a name, behind some items
unfoldable pub found_import : List ℕ → List ItemTree → List ItemTree → Option ℕ
found_import name front [] = None
found_import name front (Import i ∷ items) =
    if bytes_eq name i.name then Some (numbered (described_sort i.ty) front)
    else found_import name (front ++ Import i ∷ []) items
found_import name front (item ∷ items) = found_import name (front ++ item ∷ []) items

abbrev pub FindsImports : BTreeMap Text ℕ → List ItemTree → Type 0
FindsImports names items = (name : List ℕ) → get name_cmp names name ≡ found_import name [] items

-- what was written for imports, and the index of the first of each name
pub record AreImported (i : Imported) (imports : List ItemTree) : Type 0 where
  pub entries : entries_of i.builder ≡ singles imports
  pub names : FindsImports i.names imports
