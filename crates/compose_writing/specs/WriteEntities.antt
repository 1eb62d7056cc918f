-- Entities, as they are written: the type of each before its import or export, and what is known from then on. A type
-- that is known is referred to, and a resource that is not known is new where it stands (Component Model, Binary.md,
-- "Type Definitions" and "Import and Export Definitions").
use Rattle.std.specs.Prelude.{ℕ, suc, Bool, List, [], ◌∷◌, map, flat_map, Option, Some, None, option_and_then, if◌then◌else◌}
use Rattle.comp_format.specs.declared.types.TypeRef.{TypeRef}
use Rattle.comp_format.specs.declared.types.TypeRef.TheVariants as description
use Rattle.comp_format.specs.CoreTypes as core
use Rattle.comp_format.specs.Definitions as tree
use Rattle.comp_format.specs.Definitions.{TypeTree, DeclTree, Decls}
use Rattle.comp_entity.specs.Entity.{Name, ValueTree, TypeShapeTree, Value, Resource, Func, Instance, Component, EntityTree, IsType, IsFunc, IsInstance, IsComponent, IsModule, IsOwnModule, Entries, no_entry, entry}
use Rattle.comp_entity.specs.Names.{Mention, OfResource, OfPlace}
use Rattle.comp_entity.specs.Fits.{place_of}
use Rattle.comp_entity.specs.Places.{Path, names_itself, leaves_in}
use Rattle.compose_writing.specs.Keys.{At, Index, InInstance, KnownThings}
use Rattle.compose_writing.specs.Scopes.{WrittenScope, opened, Wrote, wrote_as, declared, add_core_type, on_top, change_top, then_type, closed, knows, with_known, type_index}
use Rattle.compose_writing.specs.WriteValues.{write_func, write_own}
use Rattle.compose_writing.specs.WriteModules.{write_module}

-- ---- imports and exports

-- an import or export of this description in the numbers of its scope
abbrev pub counted : TypeRef → WrittenScope → WrittenScope
counted (description.TyEqual i) m = record m { types = suc m.types }
counted description.TyFresh m = record m { types = suc m.types }
counted (description.Instance i) m = record m { instances = suc m.instances }
counted _ m = m

-- what stands at a leaf of an instance of this index as a type, and at some
abbrev pub leaf_known : ℕ → Path × EntityTree → KnownThings
leaf_known index leaf = map (λ key. (key, InInstance index leaf.0)) (names_itself leaf.1)

abbrev pub leaves_known : ℕ → List (Path × EntityTree) → KnownThings
leaves_known index ls = flat_map (leaf_known index) ls

-- what an instance brings, at any depth, is known from then on, where no scope knows it
abbrev pub note_new : Mention → At → List WrittenScope → List WrittenScope
note_new key at ms = if knows ms key then ms else change_top (with_known key at) ms

unfoldable pub note_all : KnownThings → List WrittenScope → List WrittenScope
note_all [] ms = ms
note_all (k ∷ ks) ms = note_all ks (note_new k.0 k.1 ms)

-- a type that stands in a scope is known there, also where a scope around knows it
unfoldable pub note_here : List Mention → ℕ → List WrittenScope → List WrittenScope
note_here [] index ms = ms
note_here (key ∷ keys) index ms = note_here keys index (change_top (with_known key (Index index)) ms)

-- what an entity brings to a scope with these numbers
abbrev pub noted : EntityTree → WrittenScope → List WrittenScope → List WrittenScope
noted (IsInstance es) m ms = note_all (leaves_known m.instances (leaves_in [] es)) ms
noted e m ms = note_here (names_itself e) m.types ms

-- an import or export of this description in the innermost scope
unfoldable pub with_named : (List ℕ → TypeRef → DeclTree) → List ℕ → EntityTree → TypeRef → List WrittenScope → List WrittenScope
with_named item name e ty [] = []
with_named item name e ty (m ∷ ms) = noted e m (counted ty (declared (item name ty) m) ∷ ms)

-- ---- types that are scopes

abbrev pub then_decls : (Decls → TypeTree) → Option (List WrittenScope) → Wrote ℕ
then_decls type_of ms = then_type (wrote_as type_of (option_and_then closed ms))

-- ---- entities

-- the index of a resource, or of a type that a place named, where it is known
abbrev pub write_resource : Name → Bool → List WrittenScope → Wrote TypeRef
write_resource r is_known ms =
    if is_known then wrote_as description.TyEqual (type_index (OfResource r) ms) else Some (ms, description.TyFresh)

abbrev pub write_place : Name → Bool → ValueTree → List WrittenScope → Wrote ℕ
write_place n is_known t ms = if is_known then type_index (OfPlace n) ms else write_own t ms

abbrev pub write_named : Option Name → ValueTree → List WrittenScope → Wrote ℕ
write_named None t ms = write_own t ms
write_named (Some n) t ms = write_place n (knows ms (OfPlace n)) t ms

-- what is written for an entity in front of its import or export, and the description
unfoldable mutual
  pub write_entity : EntityTree → List WrittenScope → Wrote TypeRef
  write_entity (IsType t) ms = write_type t ms
  write_entity (IsFunc f) ms = wrote_as description.Func (write_func f ms)
  write_entity (IsInstance es) ms = wrote_as description.Instance (then_decls tree.Instance (write_entries tree.Export es (opened 0 ∷ ms)))
  write_entity (IsComponent is es) ms = wrote_as description.Component
      (then_decls tree.Component (option_and_then (write_entries tree.Export es) (write_entries tree.Import is (opened 2 ∷ ms))))
  write_entity (IsModule m) ms = wrote_as description.Module (on_top (add_core_type (core.Module (write_module m))) ms)
  write_entity IsOwnModule ms = None

  pub write_type : TypeShapeTree → List WrittenScope → Wrote TypeRef
  write_type (Value t) ms = wrote_as description.TyEqual (write_named (place_of t) t ms)
  write_type (Resource r) ms = write_resource r (knows ms (OfResource r)) ms
  write_type (Func f) ms = wrote_as description.TyEqual (write_func f ms)
  write_type (Instance es) ms = wrote_as description.TyEqual (then_decls tree.Instance (write_entries tree.Export es (opened 1 ∷ ms)))
  write_type (Component is es) ms = wrote_as description.TyEqual
      (then_decls tree.Component (option_and_then (write_entries tree.Export es) (write_entries tree.Import is (opened 2 ∷ ms))))

  -- imports, or exports, in the innermost scope
  pub write_entries : (List ℕ → TypeRef → DeclTree) → Entries → List WrittenScope → Option (List WrittenScope)
  write_entries item no_entry ms = Some ms
  write_entries item (entry name e mark es) ms =
      option_and_then (λ x. write_entries item es (with_named item name e x.1 x.0)) (write_entity e ms)

-- the declarations of the type of an instance with these exports, and of a type of components, imports first
abbrev pub write_instance : Entries → List WrittenScope → Wrote Decls
write_instance es ms = option_and_then closed (write_entries tree.Export es (opened 0 ∷ ms))

abbrev pub write_component : Entries → Entries → List WrittenScope → Wrote Decls
write_component is es ms =
    option_and_then closed (option_and_then (write_entries tree.Export es) (write_entries tree.Import is (opened 2 ∷ ms)))

-- ---- the outermost scope

-- an import into it
abbrev pub write_import : List ℕ → EntityTree → TypeRef → List WrittenScope → List WrittenScope
write_import name e ty ms = with_named tree.Import name e ty ms

-- the type of this index, or at the end of a path that is not empty in the instance of this index
abbrev pub at_end : ℕ → Path → At
at_end from [] = Index from
at_end from (name ∷ names) = InInstance from (name ∷ names)

-- what stands there is known by another number of a named type too
abbrev pub write_also : Name → ℕ → Path → List WrittenScope → List WrittenScope
write_also n from path ms = note_new (OfPlace n) (at_end from path) ms
