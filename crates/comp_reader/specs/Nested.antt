-- Declarations, sections and components, which stand in scopes of their own, where at most so many scopes are open at
-- one place.
use Rattle.std.specs.Prelude.{ℕ, zero, suc, Bool, List, length, Result, Ok, Err}
use Rattle.warg_values.specs.Reading.{◌>>=◌}
use Rattle.comp_format.specs.Fault.{Fault, TooDeep}
use Rattle.comp_format.specs.Items.{ItemTree}
use Rattle.comp_format.specs.Sections.{items_in, content_at, sections_at, component_at}
use Rattle.comp_format.specs.Vectors.{ReaderOf, vector_at}
use Rattle.comp_format.specs.CoreTypes.{ModuleDeclTree, module_decl_at, core_at}
use Rattle.comp_format.specs.Definitions.{DeclTree, decl_at, definition_at}

unfoldable pub module_decls_at : ℕ → ReaderOf (List ModuleDeclTree)
module_decls_at zero bytes = Err TooDeep
module_decls_at (suc scopes) bytes = vector_at (module_decl_at (core_at scopes)) bytes

unfoldable pub decls_at : ℕ → Bool → ReaderOf (List DeclTree)
decls_at zero imports bytes = Err TooDeep
decls_at (suc scopes) imports bytes = vector_at (decl_at imports (core_at scopes) (definition_at scopes)) bytes

-- the items of sections, and of a component
abbrev pub sections_items : ℕ → List ℕ → Result (List ItemTree) Fault
sections_items scopes bytes = sections_at (content_at scopes) (length bytes) bytes >>= λ ss. Ok (items_in ss)

abbrev pub component_items : ℕ → List ℕ → Result (List ItemTree) Fault
component_items scopes bytes = component_at scopes bytes >>= λ ss. Ok (items_in ss)
