-- What is written for small entities, computed from the definitions, against what was written by hand from the format.
use Rattle.std.proofs.Common.{◌≡◌, ℕ, [], ◌∷◌, Some, None, true, false, refl}
use Rattle.std.specs.Prelude.{codes, option_map}
use Rattle.comp_format.specs.declared.core_types.CoreDesc.TheVariants as core_item
use Rattle.comp_format.specs.CoreTypes as core
use Rattle.comp_format.specs.CoreTypes.{module_decls}
use Rattle.comp_entity.specs.declared.module.CoreShape.TheVariants as core_shape
use Rattle.compose_writing.specs.WriteModules.{write_module, module_imports, module_exports}
use Rattle.comp_format.specs.declared.types.Primitive.TheVariants as primitive
use Rattle.comp_format.specs.declared.types.ValType.TheVariants as value
use Rattle.comp_format.specs.declared.types.DefinedType.TheVariants as defined
use Rattle.comp_format.specs.declared.types.Sort.TheVariants as sort
use Rattle.comp_format.specs.declared.types.TypeRef.TheVariants as description
use Rattle.comp_format.specs.declared.types.Alias.TheVariants as alias
use Rattle.comp_format.specs.Numbers.{number_text, leb_text}
use Rattle.comp_format.specs.Definitions as tree
use Rattle.comp_format.specs.Definitions.{TypeTree, Decls, decls_of, definition_text}
use Rattle.comp_entity.specs.Entity.{made, brought, Primitive, TupleOf, Own, Borrow, none, more, Value, Resource, IsType, IsFunc, IsInstance, IsComponent, Entries, no_entry, entry, EntityTree}
use Rattle.comp_entity.specs.Names.{OfResource}
use Rattle.compose_writing.specs.Keys.{InInstance}
use Rattle.compose_writing.specs.Scopes.{WrittenScope, outermost, standing, type_index, on_top, closed, knows, along, change_top}
use Rattle.compose_writing.specs.Scopes.{brought as brought_in}
use Rattle.compose_writing.specs.WriteValues.{write_defined, write_params, write_result, write_func}
use Rattle.compose_writing.specs.WriteEntities.{note_here, note_all, with_named, write_entity, write_import, write_component}
use Rattle.compose_writing.specs.Conditions.{is_known}

-- a component that exports the type of pairs of numbers
pairs : Entries
pairs = entry (codes "t") (IsType (Value (TupleOf (more (Primitive primitive.U32) (more (Primitive primitive.U32) none))))) true no_entry

row_component : write_component no_entry pairs (outermost ∷ [])
    ≡ Some (
      outermost ∷ [],
      decls_of
          (tree.Ty (tree.Defined (defined.TupleOf (value.Primitive primitive.U32 ∷ value.Primitive primitive.U32 ∷ [])))
          ∷ tree.Export (codes "t") (description.TyEqual 0)
          ∷ []),
    )
unfolding write_entity write_defined with_named note_here closed on_top change_top pairs
row_component = refl

bytes_component : definition_text (tree.Component (decls_of
    (tree.Ty (tree.Defined (defined.TupleOf (value.Primitive primitive.U32 ∷ value.Primitive primitive.U32 ∷ [])))
    ∷ tree.Export (codes "t") (description.TyEqual 0)
    ∷ [])))
    ≡ 0x41 ∷ 0x02 ∷ 0x01 ∷ 0x6f ∷ 0x02 ∷ 0x79 ∷ 0x79 ∷ 0x04 ∷ 0x00 ∷ 0x01 ∷ 0x74 ∷ 0x03 ∷ 0x00 ∷ 0x00 ∷ []
unfolding definition_text number_text leb_text
bytes_component = refl

-- an instance that exports a resource and a function that borrows it, and one that takes the same resource
borrowing : Entries
borrowing = entry (codes "r") (IsType (Resource (made 0))) true
    (entry (codes "f") (IsFunc (record { params = (codes "x", Borrow (made 0)) ∷ []; result = None })) true no_entry)

taking : Entries
taking = entry (codes "g") (IsFunc (record { params = (codes "x", Own (made 0)) ∷ []; result = None })) true no_entry

taking_one : ℕ → TypeTree
taking_one i = tree.Func (record { params = (codes "x", value.Index i) ∷ []; result = None })

borrowing_type : TypeTree
borrowing_type = tree.Instance (decls_of
    (tree.Export (codes "r") description.TyFresh
    ∷ tree.Ty (tree.Defined (defined.Borrow 0))
    ∷ tree.Ty (taking_one 1)
    ∷ tree.Export (codes "f") (description.Func 2)
    ∷ []))

-- the same resource is reached by an alias of the earlier import, and by an outer alias of one scope
taking_type : TypeTree
taking_type = tree.Instance (decls_of
    (tree.Aliased (alias.Outer sort.Ty 1 1)
    ∷ tree.Ty (tree.Defined (defined.Own 0))
    ∷ tree.Ty (taking_one 1)
    ∷ tree.Export (codes "g") (description.Func 2)
    ∷ []))

before_import : WrittenScope
before_import = record outermost { decls = decls_of (tree.Ty borrowing_type ∷ []); types = 1 }

after_import : WrittenScope
after_import = record outermost {
  decls = decls_of (tree.Ty borrowing_type ∷ tree.Import (codes "i") (description.Instance 0) ∷ []);
  types = 1;
  instances = 1;
  known = (OfResource (made 0), InInstance 0 (codes "r" ∷ [])) ∷ [];
}

row_borrowing : write_entity (IsInstance borrowing) (outermost ∷ []) ≡ Some (before_import ∷ [], description.Instance 0)
unfolding write_entity write_defined write_params write_result write_func with_named note_here closed on_top change_top type_index standing brought_in knows borrowing borrowing_type taking_one before_import
row_borrowing = refl

row_import : write_import (codes "i") (IsInstance borrowing) (description.Instance 0) (before_import ∷ []) ≡ after_import ∷ []
unfolding with_named note_all change_top knows borrowing before_import after_import
row_import = refl

row_taking : write_entity (IsInstance taking) (after_import ∷ []) ≡ Some (
  record outermost {
    decls = decls_of
        (tree.Ty borrowing_type
        ∷ tree.Import (codes "i") (description.Instance 0)
        ∷ tree.Aliased (alias.Export sort.Ty 0 (codes "r"))
        ∷ tree.Ty taking_type
        ∷ []);
    types = 3;
    instances = 1;
    known = (OfResource (made 0), InInstance 0 (codes "r" ∷ [])) ∷ [];
  } ∷ [],
  description.Instance 2,
)
unfolding write_entity write_defined write_params write_result write_func with_named note_here closed on_top change_top type_index standing brought_in along knows taking taking_type taking_one after_import
row_taking = refl

-- what is known, and what is not
row_known : is_known (knows (after_import ∷ [])) (IsInstance taking) ≡ true
unfolding knows taking after_import
row_known = refl

row_unknown : is_known (knows (outermost ∷ [])) (IsInstance taking) ≡ false
unfolding knows taking
row_unknown = refl

row_brought : is_known (knows (outermost ∷ [])) (IsInstance borrowing) ≡ true
unfolding knows borrowing
row_brought = refl

-- A resource of an instance within an instance: it is reached along the instances on the way.
nested : Entries
nested = entry (codes "n") (IsInstance (entry (codes "r") (IsType (Resource (made 0))) true no_entry)) true no_entry

nested_decls : Decls
nested_decls = decls_of
    (tree.Ty (tree.Instance (decls_of (tree.Export (codes "r") description.TyFresh ∷ [])))
    ∷ tree.Export (codes "n") (description.Instance 0)
    ∷ [])

knows_nested : WrittenScope
knows_nested = record outermost {
  decls = decls_of (tree.Ty (tree.Instance nested_decls) ∷ tree.Import (codes "i") (description.Instance 0) ∷ []);
  types = 1;
  instances = 1;
  known = (OfResource (made 0), InInstance 0 (codes "n" ∷ codes "r" ∷ [])) ∷ [];
}

row_nested : option_map (λ x. write_import (codes "i") (IsInstance nested) x.1 x.0) (write_entity (IsInstance nested) (outermost ∷ []))
    ≡ Some (knows_nested ∷ [])
unfolding write_entity with_named note_here note_all closed on_top change_top knows nested nested_decls knows_nested
row_nested = refl

row_along : type_index (OfResource (made 0)) (knows_nested ∷ []) ≡ Some (
  record outermost {
    decls = decls_of
        (tree.Ty (tree.Instance nested_decls)
        ∷ tree.Import (codes "i") (description.Instance 0)
        ∷ tree.Aliased (alias.Export sort.Instance 0 (codes "n"))
        ∷ tree.Aliased (alias.Export sort.Ty 1 (codes "r"))
        ∷ []);
    types = 2;
    instances = 2;
    known = (OfResource (made 0), InInstance 0 (codes "n" ∷ codes "r" ∷ [])) ∷ [];
  } ∷ [],
  1,
)
unfolding type_index standing brought_in along knows_nested
row_along = refl

-- A component of its own resource: what its imports bring is one scope of names further out than what it makes.
own_resource : EntityTree
own_resource = IsComponent
    (entry (codes "r") (IsType (Resource (brought 0))) true no_entry)
    (entry (codes "s") (IsType (Resource (brought 0))) true no_entry)

row_sides : write_entity own_resource (outermost ∷ []) ≡ Some (
  record outermost {
    decls = decls_of
        (tree.Ty (tree.Component (decls_of
        (tree.Import (codes "r") description.TyFresh ∷ tree.Export (codes "s") (description.TyEqual 0) ∷ [])))
        ∷ []);
    types = 1;
  } ∷ [],
  description.Component 0,
)
unfolding write_entity with_named note_here closed on_top change_top type_index standing brought_in knows own_resource
row_sides = refl

-- A core module: a type before each function that needs it.
row_module : write_module (record {
  imports = (codes "m", codes "a", core_shape.Func [] []) ∷ [];
  exports = (codes "b", core_shape.Func [] []) ∷ (codes "c", core_shape.Memory (record { min = 1; max = None })) ∷ [];
}) ≡ module_decls
    (core.CoreTy (core.Func [] [])
    ∷ core.Import (codes "m") (codes "a") (core_item.Func 0)
    ∷ core.CoreTy (core.Func [] [])
    ∷ core.Export (codes "b") (core_item.Func 1)
    ∷ core.Export (codes "c") (core_item.Memory (record { min = 1; max = None }))
    ∷ [])
unfolding write_module module_imports module_exports
row_module = refl
