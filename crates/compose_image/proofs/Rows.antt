-- A small composition: what is written for it, and its image, computed from the definitions, against what was written
-- by hand.
use Rattle.std.proofs.Common.{◌≡◌, ℕ, List, [], ◌∷◌, ◌++◌, Some, None, true, false, refl, take, ◌+◌}
use Rattle.std.specs.Prelude.{codes}
use Rattle.comp_format.specs.declared.types.Arg.{Arg}
use Rattle.comp_format.specs.declared.types.Alias.TheVariants as alias
use Rattle.comp_format.specs.declared.types.InstanceItem.TheVariants as instance
use Rattle.comp_format.specs.declared.types.Sort.TheVariants as sort
use Rattle.comp_format.specs.declared.types.TypeRef.TheVariants as description
use Rattle.comp_format.specs.Definitions as tree
use Rattle.comp_format.specs.Definitions.{TypeTree, decls_of}
use Rattle.comp_format.specs.Items.{ItemTree, Aliased, Component, Export, Import, Instance, Ty}
use Rattle.comp_entity.specs.Entity.{Entries, EntityTree, IsFunc, IsInstance, entry, no_entry}
use Rattle.comp_scope.specs.Image.{ComponentOf, Defined, Image, Imported, OfExport, OfImport, OfInstance, image, seen, seen_all}
use Rattle.compose_order.specs.Needs.{LeftTree}
use Rattle.compose_writing.specs.Scopes.{change_top, closed, on_top}
use Rattle.compose_writing.specs.WriteValues.{write_func, write_params, write_result}
use Rattle.compose_writing.specs.WriteEntities.{note_all, note_here, with_named, write_entity}
use Rattle.compose_check.specs.Checked.{IsInstanceOrder}
use Rattle.compose_check.specs.Composition.{ComponentTree, CompositionTree, wiring}
use Rattle.compose_check.specs.Open.{lefts}
use Rattle.compose_image.specs.CompositionImage.{composition_image, is_component}
use Rattle.compose_image.specs.Imports.{all_called, import_items, imports_of, used, write_lefts}
use Rattle.compose_image.specs.Instances.{import_index, written}

abbrev call : EntityTree
call = IsFunc (record { params = []; result = None })

abbrev calling : Entries
calling = entry (codes "g") call true no_entry

-- a imports f and exports g
abbrev a : ComponentTree
a = record {
  name = codes "a";
  bytes = 0x0a ∷ [];
  shape = record { imports = (codes "f", call) ∷ []; exports = (codes "g", call) ∷ [] };
}

-- b imports an instance i with g, and the functions f and h; it exports g
abbrev b : ComponentTree
b = record {
  name = codes "b";
  bytes = 0x0b ∷ [];
  shape = record {
    imports = (codes "i", IsInstance calling) ∷ (codes "f", call) ∷ (codes "h", call) ∷ [];
    exports = (codes "g", call) ∷ [];
  };
}

-- no instance is made of this one
abbrev idle : ComponentTree
idle = record { name = codes "c"; bytes = 0x0c ∷ []; shape = record { imports = []; exports = [] } }

-- One instance of b and two of a. The first of a is given to b as a whole, and g of the second to f. The rest is left
-- open.
abbrev joined : CompositionTree
joined = record {
  components = a ∷ idle ∷ b ∷ [];
  instances = 2 ∷ 0 ∷ 0 ∷ [];
  wires =
      record { target = 0; import = 1; source = 2; export = Some 0 }
      ∷ record { target = 0; import = 0; source = 1; export = None }
      ∷ [];
}

used_row : used joined ≡ 0 ∷ 2 ∷ []
used_row = refl

abbrev order : List ℕ
order = 1 ∷ 2 ∷ 0 ∷ []

order_row : IsInstanceOrder joined order
order_row =
    (0 ∷ [], 2 ∷ [], refl, (refl, tt), refl, (0 ∷ [], [], refl, (refl, tt), refl, ([], [], refl, tt, refl, refl)))

-- f is asked twice, and written once
abbrev left : List ℕ → LeftTree
left name = record { name = name; entity = call; calls = [] }

abbrev opens : List LeftTree
opens = left (codes "h") ∷ left (codes "f") ∷ []

lefts_row : lefts (wiring joined) ≡ opens
lefts_row = refl

-- ---- components defined

abbrev call_type : TypeTree
call_type = tree.Func (record { params = []; result = None })

abbrev call_import : List ℕ → ℕ → List ItemTree
call_import name ty = Ty call_type ∷ Import (record { name = name; ty = description.Func ty }) ∷ []

abbrev call_imports : ℕ → List ItemTree
call_imports types = call_import (codes "h") types ++ call_import (codes "f") (types + 1)

imports_row : import_items (imports_of joined true opens) ≡ Some (call_imports 0)
unfolding write_lefts write_entity write_func write_params write_result with_named note_here on_top
    change_top all_called
imports_row = refl

-- the instances, by the indices of their components, and the exports
abbrev func_arg : List ℕ → ℕ → Arg
func_arg name index = record { name = name; sort = sort.Func; index = index }

abbrev instances_written : List ItemTree
instances_written =
    Instance (instance.Instantiate 0 (func_arg (codes "f") 1 ∷ []))
    ∷ Instance (instance.Instantiate 0 (func_arg (codes "f") 1 ∷ []))
    ∷ Aliased (alias.Export sort.Func 1 (codes "g"))
    ∷ Instance (instance.Instantiate 1
    (func_arg (codes "f") 2
    ∷ record { name = codes "i"; sort = sort.Instance; index = 0 }
    ∷ func_arg (codes "h") 0
    ∷ []))
    ∷ Aliased (alias.Export sort.Func 2 (codes "g"))
    ∷ Export (record { name = codes "g"; sort = sort.Func; index = 3; ty = None })
    ∷ []

defined_row : (written joined true (Some 0) order (call_imports 0)).items
    ≡ call_imports 0 ++ Component (0x0a ∷ []) ∷ Component (0x0b ∷ []) ∷ instances_written
unfolding import_index
defined_row = refl

-- ---- components imported

abbrev component_imports : List ItemTree
component_imports =
    Ty (tree.Component (decls_of
    (tree.Ty call_type ∷ tree.Import (codes "f") (description.Func 0) ∷ tree.Ty call_type ∷ tree.Export (codes "g")
    (description.Func 1) ∷ [])))
    ∷ Import (record { name = codes "a"; ty = description.Component 0 })
    ∷ Ty (tree.Component (decls_of
    (tree.Ty (tree.Instance (decls_of (tree.Ty call_type ∷ tree.Export (codes "g") (description.Func 0) ∷ [])))
    ∷ tree.Import (codes "i") (description.Instance 0)
    ∷ tree.Ty call_type
    ∷ tree.Import (codes "f") (description.Func 1)
    ∷ tree.Ty call_type
    ∷ tree.Import (codes "h") (description.Func 2)
    ∷ tree.Ty call_type
    ∷ tree.Export (codes "g") (description.Func 3)
    ∷ [])))
    ∷ Import (record { name = codes "b"; ty = description.Component 1 })
    ∷ call_imports 2

component_imports_row : import_items (imports_of joined false opens) ≡ Some component_imports
unfolding write_lefts write_entity write_func write_params write_result with_named note_here note_all closed on_top
    change_top all_called
component_imports_row = refl

imported_row : (written joined false (Some 0) order component_imports).items ≡ component_imports ++ instances_written
unfolding import_index
imported_row = refl

-- ---- the image

abbrev joined_image : List ComponentOf → Image
joined_image components = record {
  components = components;
  instances =
      (0, (codes "f", OfImport (codes "f")) ∷ [])
      ∷ (0, (codes "f", OfImport (codes "f")) ∷ [])
      ∷ (1, (codes "f", OfExport 1 (codes "g")) ∷ (codes "i", OfInstance 0) ∷ (codes "h", OfImport (codes "h")) ∷ [])
      ∷ [];
  imports = [];
  exports = record { name = codes "g"; kind = sort.Func; instance = 2; export = codes "g" } ∷ [];
}

image_row : composition_image joined true (Some 0) order [] ≡ joined_image
    (Defined (0x0a ∷ []) ∷ Defined (0x0b ∷ []) ∷ [])
image_row = refl

imported_image_row : composition_image joined false (Some 0) order [] ≡ joined_image
    (Imported (codes "a") ∷ Imported (codes "b") ∷ [])
imported_image_row = refl

-- and as it is read from the items
read_row : image (is_component joined true) []
    (call_imports 0 ++ Component (0x0a ∷ []) ∷ Component (0x0b ∷ []) ∷ instances_written)
    ≡ Some (joined_image (Defined (0x0a ∷ []) ∷ Defined (0x0b ∷ []) ∷ []))
unfolding seen seen_all
read_row = refl

imported_read_row : image (is_component joined false) [] (component_imports ++ instances_written)
    ≡ Some (joined_image (Imported (codes "a") ∷ Imported (codes "b") ∷ []))
unfolding seen seen_all
imported_read_row = refl

-- nothing is exported
no_export_row : (written joined true None order (call_imports 0)).items ≡ call_imports 0 ++ Component (0x0a ∷ [])
    ∷ Component (0x0b ∷ []) ∷ take 4 instances_written
unfolding import_index
no_export_row = refl
