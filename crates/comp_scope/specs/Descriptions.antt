-- Descriptions of imports and exports, and imports and exports of scopes by their descriptions (Component Model,
-- Explainer.md, "Import and Export Definitions").
use Rattle.std.specs.Prelude.{ℕ, ◌+◌, ◌-◌, Bool, true, List, [], ◌∷◌, ◌++◌, Some, None, Result, Ok, Err, ◌==◌, if◌then◌else◌}
use Rattle.warg_values.specs.Reading.{◌>>=◌}
use Rattle.comp_format.specs.declared.types.TypeRef.{TypeRef}
use Rattle.comp_format.specs.declared.types.TypeRef.TheVariants as description
use Rattle.comp_entity.specs.Entity.{Name, made, brought, RecordOf, VariantOf, FlagsOf, EnumOf, TypeShapeTree, Value, Resource, Func, Instance, Component, EntityTree, IsType, IsFunc, IsInstance, IsComponent, IsModule}
use Rattle.comp_entity.specs.Names.{Change, changing, entries_by, in_entries, Counts, counts_at}
use Rattle.comp_entity.specs.Bounds.{ShapeFault, Index, Bounds}
use Rattle.comp_scope.specs.Spaces.{Spaces, Known, Standing, at_index, added, if_new, no_counts, counts_sum}
use Rattle.comp_scope.specs.CoreScopes.{as_module}

-- What is new in a description is named so: its resource of a number, and its place that names a type.
pub record NewNames : Type 0 where
  pub resource : ℕ → Name
  pub place : ℕ → Name

-- of an import, and of an export
abbrev pub new_brought : Spaces → NewNames
new_brought s = record {
  resource = λ n. brought (s.brought.resources + n);
  place = λ n. brought (s.brought.places + n);
}

abbrev pub new_made : Spaces → NewNames
new_made s = record {
  resource = λ n. made (s.made.resources + n);
  place = λ n. made (s.made.places + n);
}

-- the change of names by which a type of instances becomes an instance of the scope around it: what the type's own
-- scope makes is new there
abbrev pub opened : (ℕ → Name) → Name → Name
opened new n = if n.out == 0 then new n.number else record n { out = n.out - 1 }

abbrev pub opening : NewNames → Change
opening new = changing (opened new.resource) (opened new.place)

-- a record, a variant, flags or an enum takes the name of the place, where none named it before
abbrev pub named_by : Name → TypeShapeTree → TypeShapeTree
named_by place (Value (RecordOf None fields)) = Value (RecordOf (Some place) fields)
named_by place (Value (VariantOf None cases)) = Value (VariantOf (Some place) cases)
named_by place (Value (FlagsOf None labels)) = Value (FlagsOf (Some place) labels)
named_by place (Value (EnumOf None labels)) = Value (EnumOf (Some place) labels)
named_by place t = t

-- how many types a place names so
abbrev pub names_a_place : TypeShapeTree → ℕ
names_a_place (Value (RecordOf None fields)) = 1
names_a_place (Value (VariantOf None cases)) = 1
names_a_place (Value (FlagsOf None labels)) = 1
names_a_place (Value (EnumOf None labels)) = 1
names_a_place t = 0

-- a resource that is imported or exported has the naming bit
abbrev pub is_named_by : TypeShapeTree → Bool → Bool
is_named_by (Resource r) named = true
is_named_by t named = named

-- What a description describes, and how many new names are in it.
pub record Described : Type 0 where
  pub standing : Standing
  pub brings : Counts

abbrev pub plainly : EntityTree → Bool → Described
plainly e named = record { standing = (e, named); brings = no_counts }

abbrev pub described_type : NewNames → Standing → Result Described ShapeFault
described_type new (IsType t, named) = Ok (record {
  standing = (IsType (named_by (new.place 0) t), is_named_by t named);
  brings = record { resources = 0; places = names_a_place t };
})
described_type new _ = Err Index

-- a function needs a type with the naming bit
abbrev pub described_func : Standing → Result Described ShapeFault
described_func (IsType (Func f), true) = Ok (plainly (IsFunc f) true)
described_func _ = Err Index

abbrev pub described_component : Standing → Result Described ShapeFault
described_component (IsType (Component is es), named) = Ok (plainly (IsComponent is es) true)
described_component _ = Err Index

abbrev pub described_instance : NewNames → Standing → Result Described ShapeFault
described_instance new (IsType (Instance es), named) = Ok (record {
  standing = (IsInstance (entries_by (opening new) 0 es), true);
  brings = counts_at 0 (in_entries 0 es);
})
described_instance new _ = Err Index

abbrev pub described_resource : NewNames → Described
described_resource new = record {
  standing = (IsType (Resource (new.resource 0)), true);
  brings = record { resources = 1; places = 0 };
}

unfoldable pub described : Spaces → NewNames → TypeRef → Result Described ShapeFault
described s new (description.Module i) = at_index s.core_types i >>= λ t. as_module t >>= λ m. Ok (plainly (IsModule m) true)
described s new (description.Func i) = at_index s.types i >>= described_func
described s new (description.TyEqual i) = at_index s.types i >>= described_type new
described s new description.TyFresh = Ok (described_resource new)
described s new (description.Component i) = at_index s.types i >>= described_component
described s new (description.Instance i) = at_index s.types i >>= described_instance new

-- what an import brings, in the index spaces
abbrev pub with_brought : Bounds → Spaces → Described → Result Spaces ShapeFault
with_brought b s d = added b (record s { brought = counts_sum s.brought d.brings }) d.standing.0 d.standing.1

-- what an export makes, in the index spaces
abbrev pub with_made : Bounds → Spaces → Described → Result Spaces ShapeFault
with_made b s d = added b (record s { made = counts_sum s.made d.brings }) d.standing.0 d.standing.1

abbrev pub with_import : Known → List ℕ → Standing → Spaces → Known
with_import k name e spaces = record k { spaces = spaces; imports = k.imports ++ (name, e) ∷ [] }

abbrev pub with_export : Known → List ℕ → Standing → Spaces → Known
with_export k name e spaces = record k { spaces = spaces; exports = k.exports ++ (name, e) ∷ [] }

-- an import under a new name
unfoldable pub imported : Bounds → Known → List ℕ → TypeRef → Result Known ShapeFault
imported b k name ref = if_new name k.imports (described k.spaces (new_brought k.spaces) ref >>= λ d.
    with_brought b k.spaces d >>= λ spaces. Ok (with_import k name d.standing spaces))

-- an export of a type of components or instances, under a new name
unfoldable pub declared_export : Bounds → Known → List ℕ → TypeRef → Result Known ShapeFault
declared_export b k name ref = if_new name k.exports (described k.spaces (new_made k.spaces) ref >>= λ d.
    with_made b k.spaces d >>= λ spaces. Ok (with_export k name d.standing spaces))
