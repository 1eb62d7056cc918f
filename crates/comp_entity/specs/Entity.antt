-- What a component imports and exports, as trees: all indices are followed, and an alias stands for what it names
-- (Component Model, Explainer.md, "Index Spaces" and "Type Definitions").
use Rattle.std.specs.Prelude.{ℕ, ◌/◌, ◌%◌, Bool, List, Option}
use Rattle.comp_format.specs.declared.types.Primitive.{Primitive as PrimitiveType}
use Rattle.comp_entity.specs.declared.module.ModuleShape.{ModuleShape}

-- A resource, or the place that named a type, as it is called in the scope in which it is mentioned: the one of a
-- number of the scope that is so many scopes further out. A type of instances is a scope of what its instances export.
-- A component, and a type of components, is a scope of what its imports bring, and within it one of what it makes, so
-- that it counts as two.
pub record Name : Type 0 where
  pub out : ℕ
  pub number : ℕ

-- what a component, or a type of instances, makes; and what a component's imports bring
abbrev pub made : ℕ → Name
made n = record { out = 0; number = n }

abbrev pub brought : ℕ → Name
brought n = record { out = 1; number = n }

-- the name that one number holds: how far out is below 64
abbrev pub name_in : ℕ → Name
name_in n = record { out = n % 64; number = n / 64 }

-- A value type. A record, a variant, flags and an enum have the name of the place that named them, where one did.
mutual
  pub data ValueTree : Type 0 where
    Primitive : PrimitiveType → ValueTree
    TupleOf : ValueTrees → ValueTree
    RecordOf : Option Name → Cases → ValueTree
    VariantOf : Option Name → Cases → ValueTree
    ListOf : ValueTree → ValueTree
    FlagsOf : Option Name → List (List ℕ) → ValueTree
    EnumOf : Option Name → List (List ℕ) → ValueTree
    OptionOf : ValueTree → ValueTree
    ResultOf : Payload → Payload → ValueTree
    Own : Name → ValueTree
    Borrow : Name → ValueTree

  pub data ValueTrees : Type 0 where
    none : ValueTrees
    more : ValueTree → ValueTrees → ValueTrees

  -- the fields of a record, each of which has a payload, or the cases of a variant
  pub data Cases : Type 0 where
    no_case : Cases
    labelled : List ℕ → Payload → Cases → Cases

  pub data Payload : Type 0 where
    absent : Payload
    present : ValueTree → Payload

pub record FuncTree : Type 0 where
  pub params : List (List ℕ × ValueTree)
  pub result : Option ValueTree

-- A type, and an entity. With each entry stands whether it may be named (whether it has the naming bit). Of a shape all
-- have it.
mutual
  pub data TypeShapeTree : Type 0 where
    Value : ValueTree → TypeShapeTree
    Resource : Name → TypeShapeTree
    Func : FuncTree → TypeShapeTree
    -- a type of instances: a scope around its exports
    Instance : Entries → TypeShapeTree
    -- a type of components: two scopes around its imports and exports
    Component : Entries → Entries → TypeShapeTree

  pub data EntityTree : Type 0 where
    IsType : TypeShapeTree → EntityTree
    IsFunc : FuncTree → EntityTree
    -- an instance: its exports, in the scope in which it stands
    IsInstance : Entries → EntityTree
    -- a component: two scopes around its imports and exports
    IsComponent : Entries → Entries → EntityTree
    IsModule : ModuleShape → EntityTree
    -- a core module of a component's own, whose type is not known. It is in no shape.
    IsOwnModule : EntityTree

  pub data Entries : Type 0 where
    no_entry : Entries
    entry : List ℕ → EntityTree → Bool → Entries → Entries

pub record ShapeTree : Type 0 where
  pub imports : List (List ℕ × EntityTree)
  pub exports : List (List ℕ × EntityTree)
