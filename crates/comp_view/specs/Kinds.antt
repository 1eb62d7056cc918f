-- Which trees of heads are of what can lie in memory (Component Model, Binary.md, "Type Definitions"): of each kind of
-- them, what may stand at the root, and of which kinds the parts are then. Each field of a record has a type there, and no
-- core module of a component's own, whose type is not known, stands in any.
use Rattle.std.specs.Prelude.{ℕ, ◌<◌, List, length, Some, true}
use Rattle.std.specs.List.{AllByRecursion}
use Rattle.comp_entity.specs.Names.{Change}
use Rattle.comp_table.specs.declared.head.Head.{Head}
use Rattle.comp_table.specs.declared.head.Head.TheVariants as head
use Rattle.comp_table.specs.Trees.{PlainTree, tree, PlainTrees, none, more, tree_at}

-- What a tree of heads is the tree of.
pub data Kind : Type 0 where
  ValueType : Kind
  -- what a case, a side of a result or a function's result holds, where it holds something
  Held : Kind
  -- a field of a record, or a parameter
  Field : Kind
  Case : Kind
  -- a label of flags or of an enum
  LabelAlone : Kind
  FuncType : Kind
  CoreValue : Kind
  CoreValues : Kind
  -- what a core module imports or exports
  CoreItem : Kind
  -- the same under a name, and under a module's name and a name
  CoreExport : Kind
  CoreImport : Kind
  CoreExports : Kind
  CoreImports : Kind
  AnyType : Kind
  AnyEntity : Kind
  -- an import or export, and all of them
  AnEntry : Kind
  AllEntries : Kind

-- Of which kinds the parts below a root are.
pub data Parts : Type 0 where
  nothing : Parts
  one : Kind → Parts
  two : Kind → Kind → Parts
  all : Kind → Parts
  -- one of the first kind, and behind it all of the second
  first : Kind → Kind → Parts
  -- there is no such root
  never : Parts

abbrev pub value_parts : Head → Parts
value_parts (head.Primitive p) = nothing
value_parts (head.RecordOf place) = all Field
value_parts (head.VariantOf place) = all Case
value_parts head.ListOf = one ValueType
value_parts head.TupleOf = all ValueType
value_parts (head.FlagsOf place) = all LabelAlone
value_parts (head.EnumOf place) = all LabelAlone
value_parts head.OptionOf = one ValueType
value_parts head.ResultOf = two Held Held
value_parts (head.Own r) = nothing
value_parts (head.Borrow r) = nothing
value_parts _ = never

abbrev pub held_parts : Head → Parts
held_parts head.Absent = nothing
held_parts h = value_parts h

-- what stands below a label
abbrev pub label_parts : Parts → Head → Parts
label_parts parts (head.Label label) = parts
label_parts parts _ = never

-- what stands below a head that only holds other nodes together
abbrev pub entries_parts : Kind → Head → Parts
entries_parts k head.Entries = all k
entries_parts k _ = never

abbrev pub func_parts : Head → Parts
func_parts head.FuncType = first Held Field
func_parts _ = never

abbrev pub core_value_parts : Head → Parts
core_value_parts (head.CoreValue v) = nothing
core_value_parts _ = never

abbrev pub core_parts : Head → Parts
core_parts head.CoreFunc = two CoreValues CoreValues
core_parts (head.CoreTable element limits) = nothing
core_parts (head.CoreMemory limits) = nothing
core_parts (head.CoreGlobal v is_mutable) = nothing
core_parts _ = never

abbrev pub type_parts : Head → Parts
type_parts (head.Resource r) = nothing
type_parts head.FuncType = first Held Field
type_parts head.InstanceType = all AnEntry
type_parts head.ComponentType = two AllEntries AllEntries
type_parts h = value_parts h

abbrev pub entity_parts : Head → Parts
entity_parts head.Func = one FuncType
entity_parts head.Instance = all AnEntry
entity_parts head.Component = two AllEntries AllEntries
entity_parts head.Module = two CoreImports CoreExports
entity_parts h = type_parts h

abbrev pub entry_parts : Head → Parts
entry_parts (head.Entry mark name) = one AnyEntity
entry_parts _ = never

abbrev pub parts_of : Kind → Head → Parts
parts_of ValueType h = value_parts h
parts_of Held h = held_parts h
parts_of Field h = label_parts (one ValueType) h
parts_of Case h = label_parts (one Held) h
parts_of LabelAlone h = label_parts nothing h
parts_of FuncType h = func_parts h
parts_of CoreValue h = core_value_parts h
parts_of CoreValues h = entries_parts CoreValue h
parts_of CoreItem h = core_parts h
parts_of CoreExport h = label_parts (one CoreItem) h
parts_of CoreImport h = label_parts (one CoreExport) h
parts_of CoreExports h = entries_parts CoreExport h
parts_of CoreImports h = entries_parts CoreImport h
parts_of AnyType h = type_parts h
parts_of AnyEntity h = entity_parts h
parts_of AnEntry h = entry_parts h
parts_of AllEntries h = entries_parts AnEntry h

abbrev mutual
  pub IsTreeOf : Kind → PlainTree → Type 0
  IsTreeOf k (tree h us) = AreTreesOf (parts_of k h) us

  pub AreTreesOf : Parts → PlainTrees → Type 0
  AreTreesOf nothing none = Unit {0}
  AreTreesOf nothing (more t ts) = ⊥
  AreTreesOf (one k) none = ⊥
  AreTreesOf (one k) (more t none) = IsTreeOf k t
  AreTreesOf (one k) (more t (more u us)) = ⊥
  AreTreesOf (two k l) none = ⊥
  AreTreesOf (two k l) (more t none) = ⊥
  AreTreesOf (two k l) (more t (more u none)) = IsTreeOf k t × IsTreeOf l u
  AreTreesOf (two k l) (more t (more u (more v vs))) = ⊥
  AreTreesOf (all k) none = Unit {0}
  AreTreesOf (all k) (more t ts) = IsTreeOf k t × AreTreesOf (all k) ts
  AreTreesOf (first k l) none = ⊥
  AreTreesOf (first k l) (more t ts) = IsTreeOf k t × AreTreesOf (all l) ts
  AreTreesOf never us = ⊥

-- a number stands for a tree of a kind, and numbers do
pub record IsNumberOf (k : Kind) (ts : List PlainTree) (n : ℕ) : Type 0 where
  pub there : n < length ts
  pub is_one : IsTreeOf k (tree_at ts n)

abbrev pub AreNumbersOf : Kind → List PlainTree → List ℕ → Type 0
AreNumbersOf k ts ns = AllByRecursion (λ n. IsNumberOf k ts n) ns

-- the change that gives each entry the naming bit, and keeps all names
abbrev pub all_named : Change
all_named = record { resource = λ depth n. n; place = λ depth n. Some n; mark = λ m. true }

-- a label, and the name of an import or export
abbrev pub IsLabel : Head → Type 0
IsLabel (head.Label label) = Unit {0}
IsLabel _ = ⊥

abbrev pub IsEntryHead : Head → Type 0
IsEntryHead (head.Entry mark name) = Unit {0}
IsEntryHead _ = ⊥
