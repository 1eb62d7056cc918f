-- The contents of the demo world's releases.
use Rattle.std.specs.Prelude.{ℕ, ◌+◌, List, [], ◌∷◌, ◌++◌, map, codes, decimal, Some, None}
use Rattle.comp_format.specs.declared.types.Alias.TheVariants as alias
use Rattle.comp_format.specs.declared.types.Primitive.TheVariants as primitive
use Rattle.comp_format.specs.declared.types.Sort.TheVariants as sort
use Rattle.comp_format.specs.declared.types.TypeRef.TheVariants as description
use Rattle.comp_format.specs.declared.types.ValType.TheVariants as value
use Rattle.comp_format.specs.Definitions.{Decls}
use Rattle.comp_format.specs.Definitions as tree
use Rattle.comp_format.specs.Items.{ItemTree, Aliased, Custom, Export, Import, Ty}
use Rattle.comp_encoder.specs.Writing.{Single, component_text}

-- the package with this number
abbrev pub package_name : ℕ → List ℕ
package_name number = codes "demo:p" ++ decimal number

-- the version that so many others of its package precede
abbrev pub version_text : ℕ → List ℕ
version_text minor = codes "1." ++ decimal minor ++ codes ".0"

-- the name of an import of any release of a package
abbrev pub need_name : ℕ → List ℕ
need_name number = codes "unlocked-dep=<" ++ package_name number ++ codes "@{>=1.0.0}>"

-- what instances are that export a function of this name, which has no parameters and gives a `u64`
abbrev pub exporting : List ℕ → Decls
exporting name =
    tree.more (tree.Ty (tree.Func (record { params = []; result = Some (value.Primitive primitive.U64) })))
    (tree.more (tree.Export name (description.Func 0)) tree.none)

-- the type of such instances, and an import of one, where the type has this index
abbrev pub import_items : (index : ℕ) → (name function : List ℕ) → List ItemTree
import_items index name function =
    Ty (tree.Instance (exporting function)) ∷ Import (record { name = name; ty = description.Instance index }) ∷ []

-- the imports of what is needed, the first of which has a type of this index
abbrev pub need_items : ℕ → List ℕ → List ItemTree
need_items index [] = []
need_items index (need ∷ needs) = import_items index (need_name need) (codes "get") ++ need_items (index + 1) needs

-- the clock's function under another name, and the version
abbrev pub rest_items : (version : List ℕ) → List ItemTree
rest_items version =
    Aliased (alias.Export sort.Func 0 (codes "now"))
    ∷ Export (record { name = codes "get"; sort = sort.Func; index = 0; ty = None })
    ∷ Custom (codes "version") version ∷ []

-- the items of a content: the import of a clock, those of what is needed, and what the component exports
abbrev pub content_items : (needs version : List ℕ) → List ItemTree
content_items needs version =
    import_items 0 (codes "demo:env/clock@1.0.0") (codes "now") ++ (need_items 1 needs ++ rest_items version)

-- the component of these items, each number in its shortest spelling
abbrev pub content_of : (needs version : List ℕ) → List ℕ
content_of needs version = component_text (map Single (content_items needs version))
