-- Shapes of small components, computed from the definitions, against what was written by hand from the rules.
use Rattle.std.proofs.Common.{◌≡◌, ℕ, [], ◌∷◌, List, Option, Some, None, true, Ok, Err, refl}
use Rattle.std.specs.Prelude.{codes}
use Rattle.comp_format.specs.declared.types.CoreSort.TheVariants as core
use Rattle.comp_format.specs.declared.types.Primitive.TheVariants as primitive
use Rattle.comp_format.specs.declared.types.ValType.TheVariants as value
use Rattle.comp_format.specs.declared.types.DefinedType.TheVariants as defined
use Rattle.comp_format.specs.declared.types.Sort.{Sort}
use Rattle.comp_format.specs.declared.types.Sort.TheVariants as sort
use Rattle.comp_format.specs.declared.types.TypeRef.{TypeRef}
use Rattle.comp_format.specs.declared.types.TypeRef.TheVariants as description
use Rattle.comp_format.specs.declared.types.Alias.TheVariants as alias
use Rattle.comp_format.specs.declared.types.InstanceItem.TheVariants as instance
use Rattle.comp_format.specs.Definitions as ty
use Rattle.comp_format.specs.Items.{ItemTree, CoreModule, Ty, Import, Export, Aliased, Instance}
use Rattle.comp_entity.specs.Entity.{ShapeTree, EntityTree, made, brought, Primitive, RecordOf, EnumOf, Own, labelled, no_case, present, Value, Resource, IsType, IsFunc, IsInstance, IsComponent, entry, no_entry}
use Rattle.comp_entity.specs.Bounds.{Index, DoesNotFit}
use Rattle.comp_scope.specs.Spaces.{added}
use Rattle.comp_scope.specs.Values.{part_of, resource_of, fields_of, value_of, params_of, result_of, func_of}
use Rattle.comp_scope.specs.Descriptions.{described, imported, declared_export}
use Rattle.comp_scope.specs.Aliases.{outer_item, outer_alias, export_alias, aliased}
use Rattle.comp_scope.specs.Types.{with_type}
use Rattle.comp_scope.specs.Instances.{given, instance_of, members, with_instance}
use Rattle.comp_scope.specs.Exports.{exported}
use Rattle.comp_scope.specs.Shape.{Parts, Plain, Inner, nothing, then_part, shape, spaces_after, after, after_part, shape_within}

-- parts, one in front of others
abbrev item : ItemTree → Parts → Parts
item i ps = then_part (Plain i) ps

abbrev importing : List ℕ → TypeRef → Parts → Parts
importing name ref ps = item (Import (record { name = name; ty = ref })) ps

abbrev exporting : List ℕ → Sort → ℕ → Parts → Parts
exporting name kind index ps = item (Export (record { name = name; sort = kind; index = index; ty = None })) ps

abbrev giving : Option ℕ → ty.TypeTree
giving None = ty.Func (record { params = []; result = None })
giving (Some i) = ty.Func (record { params = []; result = Some (value.Index i) })

-- a record of one number, an enum of one case, and a record of one field of the type of an index
abbrev record_type : ty.TypeTree
record_type = ty.Defined (defined.RecordOf ((codes "a", value.Primitive primitive.U32) ∷ []))

abbrev enum_type : ty.TypeTree
enum_type = ty.Defined (defined.EnumOf (codes "e" ∷ []))

abbrev record_around : ℕ → ty.TypeTree
record_around i = ty.Defined (defined.RecordOf ((codes "a", value.Index i) ∷ []))

-- a type of instances that export one type
abbrev exporting_type : ty.DeclTree → TypeRef → List ℕ → ty.TypeTree
exporting_type first ref name = ty.Instance (ty.more first (ty.more (ty.Export name ref) ty.none))

abbrev no_exports : List (List ℕ × EntityTree) → ShapeTree
no_exports imports = record { imports = imports; exports = [] }

abbrev no_imports : List (List ℕ × EntityTree) → ShapeTree
no_imports exports = record { imports = []; exports = exports }

-- a function of a record that nothing named is not imported
record_not_named : shape (item (Ty record_type) (item (Ty (giving (Some 0))) (importing (codes "f") (description.Func 1) nothing)))
    ≡ Err Index
unfolding part_of fields_of value_of params_of result_of func_of described imported with_type spaces_after after after_part shape_within added
record_not_named = refl

-- one of a record that an import named is
record_named : shape (item (Ty record_type) (importing (codes "r") (description.TyEqual 0)
    (item (Ty (giving (Some 1))) (importing (codes "f") (description.Func 2) nothing))))
    ≡ Ok (no_exports ((codes "r", IsType (Value (RecordOf (Some (brought 0)) (labelled (codes "a") (present (Primitive primitive.U32)) no_case))))
    ∷ (codes "f", IsFunc (record { params = []; result = Some (RecordOf (Some (brought 0)) (labelled (codes "a") (present (Primitive primitive.U32)) no_case)) })) ∷ []))
unfolding part_of fields_of value_of params_of result_of func_of described imported with_type spaces_after after after_part shape_within added
record_named = refl

-- a record of an enum that nothing named is exported
unnamed_part : shape (item (Ty enum_type) (item (Ty (record_around 0)) (exporting (codes "t") sort.Ty 1 nothing)))
    ≡ Ok (no_imports ((codes "t", IsType (Value (RecordOf (Some (made 0)) (labelled (codes "a") (present (EnumOf None (codes "e" ∷ []))) no_case)))) ∷ []))
unfolding part_of fields_of value_of with_type exported spaces_after after after_part shape_within added
unnamed_part = refl

-- no type of instances that export a resource is aliased from within a type of components
resource_leaves : shape (item (Ty (ty.Instance (ty.more (ty.Export (codes "r") description.TyFresh) ty.none)))
    (item (Ty (ty.Component (ty.more (ty.Aliased (alias.Outer sort.Ty 1 0)) ty.none))) nothing))
    ≡ Err Index
unfolding described declared_export outer_item outer_alias aliased with_type spaces_after after after_part shape_within added
resource_leaves = refl

-- an import that mentions a resource of the component's own
own_resource : shape (item (Ty (ty.Resource None))
    (item (Ty (exporting_type (ty.Aliased (alias.Outer sort.Ty 1 0)) (description.TyEqual 0) (codes "r"))) (importing (codes "n") (description.Instance 1) nothing)))
    ≡ Ok (no_exports ((codes "n", IsInstance (entry (codes "r") (IsType (Resource (made 0))) true no_entry)) ∷ []))
unfolding described imported declared_export outer_item outer_alias aliased with_type spaces_after after after_part shape_within added
own_resource = refl

-- an enum that a second import exports again keeps its first place
named_again : shape (item (Ty (exporting_type (ty.Ty enum_type) (description.TyEqual 0) (codes "t"))) (importing (codes "m") (description.Instance 0)
    (item (Aliased (alias.Export sort.Ty 0 (codes "t")))
    (item (Ty (exporting_type (ty.Aliased (alias.Outer sort.Ty 1 1)) (description.TyEqual 0) (codes "t"))) (importing (codes "n") (description.Instance 2) nothing)))))
    ≡ Ok (no_exports ((codes "m", IsInstance (entry (codes "t") (IsType (Value (EnumOf (Some (brought 0)) (codes "e" ∷ [])))) true no_entry))
    ∷ (codes "n", IsInstance (entry (codes "t") (IsType (Value (EnumOf (Some (brought 0)) (codes "e" ∷ [])))) true no_entry)) ∷ []))
unfolding value_of described imported declared_export outer_item outer_alias export_alias aliased with_type spaces_after after after_part shape_within added
named_again = refl

-- a nested component that exports an owned handle of a resource, which it does not export
hidden_resource : shape (then_part (Inner [] (item (Ty (ty.Resource None)) (item (Ty (ty.Defined (defined.Own 0))) (exporting (codes "t") sort.Ty 1 nothing))))
    (exporting (codes "c") sort.Component 0 nothing))
    ≡ Ok (no_imports ((codes "c", IsComponent no_entry (entry (codes "t") (IsType (Value (Own (made 0)))) true no_entry)) ∷ []))
unfolding resource_of value_of with_type exported spaces_after after after_part shape_within added
hidden_resource = refl

-- an instantiation without an argument for an import
missing_argument : shape (then_part (Inner [] (importing (codes "r") description.TyFresh nothing))
    (item (Instance (instance.Instantiate 0 [])) nothing))
    ≡ Err DoesNotFit
unfolding described imported given instance_of with_instance spaces_after after after_part shape_within added
missing_argument = refl

-- an instance exports what its component exports, in the names of its arguments
argument_resource : shape (importing (codes "a") description.TyFresh (importing (codes "b") description.TyFresh
    (then_part (Inner [] (importing (codes "r") description.TyFresh (exporting (codes "s") sort.Ty 0 nothing)))
    (item (Instance (instance.Instantiate 0 (record { name = codes "r"; sort = sort.Ty; index = 1 } ∷ [])))
    (item (Aliased (alias.Export sort.Ty 0 (codes "s"))) (exporting (codes "t") sort.Ty 2 nothing))))))
    ≡ Ok (record {
      imports = (codes "a", IsType (Resource (brought 0))) ∷ (codes "b", IsType (Resource (brought 1))) ∷ [];
      exports = (codes "t", IsType (Resource (brought 1))) ∷ [];
    })
unfolding described imported export_alias aliased given instance_of with_instance exported spaces_after after after_part shape_within added
argument_resource = refl

-- an argument under one name twice
repeated_argument : shape (importing (codes "a") description.TyFresh
    (then_part (Inner [] (importing (codes "r") description.TyFresh nothing))
    (item (Instance (instance.Instantiate 0 (record { name = codes "r"; sort = sort.Ty; index = 0 } ∷ record { name = codes "r"; sort = sort.Ty; index = 0 } ∷ [])))
    nothing)))
    ≡ Err Index
unfolding described imported given instance_of with_instance spaces_after after after_part shape_within added
repeated_argument = refl

-- two imports under one name, letter case set aside
letter_case : shape (importing (codes "a") description.TyFresh (importing (codes "A") description.TyFresh nothing)) ≡ Err Index
unfolding described imported after after_part shape_within added
letter_case = refl

abbrev exporting_as : List ℕ → Sort → ℕ → TypeRef → Parts → Parts
exporting_as name kind index ref ps =
    item (Export (record { name = name; sort = kind; index = index; ty = Some ref })) ps

-- a described export is the described entity, in which a fresh resource is the one that fits it
described_resource : shape (item (Ty (ty.Resource None)) (exporting_as (codes "r") sort.Ty 0 description.TyFresh nothing))
    ≡ Ok (no_imports ((codes "r", IsType (Resource (made 0))) ∷ []))
unfolding described with_type exported spaces_after after after_part shape_within added
described_resource = refl

-- a value type does not fit the description of a fresh resource
value_for_resource : shape (item (Ty enum_type) (exporting_as (codes "r") sort.Ty 0 description.TyFresh nothing))
    ≡ Err DoesNotFit
unfolding value_of described with_type exported spaces_after after after_part shape_within added
value_for_resource = refl

-- a core module of the component's own has no type, and is not exported
own_module : shape (item (CoreModule []) (exporting (codes "m") (sort.Core core.Module) 0 nothing)) ≡ Err Index
unfolding exported spaces_after after after_part shape_within added
own_module = refl

-- an instance that is made of a record that nothing named is not exported
unnamed_member : shape (item (Ty record_type) (item (Instance (instance.Exports (record { name = codes "r"; sort = sort.Ty; index = 0 } ∷ [])))
    (exporting (codes "i") sort.Instance 0 nothing)))
    ≡ Err Index
unfolding part_of fields_of value_of members with_type with_instance exported spaces_after after after_part shape_within added
unnamed_member = refl
