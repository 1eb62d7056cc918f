-- The bytes of a composition.
use Rattle.std.specs.Prelude.{◌≡◌, ◌≤◌, ◌⊎◌, ℕ, Bool, List, [], ◌∷◌, Option, Some}
use Rattle.std.specs.List.{AllByRecursion}
use Rattle.comp_format.specs.Items.{ItemTree}
use Rattle.comp_format.specs.Sections.{Reads}
use Rattle.comp_encoder.specs.Writing.{IsShort, IsTooLongAmong, component_text, sections_of}
use Rattle.compose_check.specs.Composition.{CompositionTree}
use Rattle.compose_order.specs.Needs.{LeftTree}
use Rattle.compose_writing.specs.Scopes.{WrittenScope, outermost}
use Rattle.compose_types.specs.Largest.{scope_size}
use Rattle.compose_meaning.specs.Items.{items_for}
use Rattle.compose_image.specs.Imports.{imports_of, write_lefts}
use Rattle.compose_image.specs.Instances.{written}
use Rattle.compose_imports.specs.Imported.{singles}
use Rattle.compose_encode.specs.Numbers.{FitBehind, IsTooLarge}

-- The bytes are those of the items that are written behind these imports, and have no other reading.
pub record IsEncoded (c : CompositionTree) (define : Bool) (export : Option ℕ) (order : List ℕ)
    (imports : List ItemTree) (bytes : List ℕ) : Type 0 where
  pub text : bytes ≡ component_text (singles (written c define export order imports).items)
  pub reads : Reads bytes (written c define export order imports).items
  pub once : (others : List ItemTree) → Reads bytes others → others ≡ (written c define export order imports).items

-- Each number that is written behind the imports is below 2 ^ 32, and so are the count and the length of each section.
pub record EncodingFits (c : CompositionTree) (define : Bool) (export : Option ℕ) (order : List ℕ)
    (imports : List ItemTree) : Type 0 where
  pub numbers : FitBehind imports (written c define export order imports).items
  pub sections : AllByRecursion IsShort (sections_of (singles (written c define export order imports).items))

-- the number is one that is written behind the imports, or such a count or length, and can't be written
abbrev pub IsTooLargeFor : ℕ → CompositionTree → Bool → Option ℕ → List ℕ → List ItemTree → Type 0
IsTooLargeFor n c define export order imports =
    IsTooLarge n imports (written c define export order imports).items
    ⊎ IsTooLongAmong n (sections_of (singles (written c define export order imports).items))

-- The number is one of what would be written with these left imports: it is not above the largest length, count or index
-- of what the imports are written as, or it is written behind them.
pub record IsOfWritten (n : ℕ) (c : CompositionTree) (define : Bool) (export : Option ℕ) (order : List ℕ)
    (lefts : List LeftTree) : Type 0 where
  pub scope : WrittenScope
  pub imports : write_lefts (imports_of c define lefts) (outermost ∷ []) ≡ Some (scope ∷ [])
  pub among : (n ≤ scope_size scope) ⊎ IsTooLargeFor n c define export order (items_for scope.decls)
