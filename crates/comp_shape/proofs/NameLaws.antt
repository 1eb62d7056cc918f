-- What a component imports and exports has a name.
use Rattle.std.proofs.Common.{ℕ, suc, ◌+◌, ◌<◌, Bool, true, false, List, [], ◌∷◌, ◌++◌, length, map, All, Result, Ok, Err, inl, inr, subst, sym}
use Rattle.std.specs.Prelude.{IfOk, if◌then◌else◌}
use Rattle.std.specs.List.{AllByRecursion}
use Rattle.std.proofs.lemmas.List.Elements.{All-from_recursion}
use Rattle.warg_values.specs.Reading.{◌>>=◌}
use Rattle.comp_entity.specs.Bounds.{ShapeFault, Index, Bounds, bounded, TooDeep, TooBig, is_within, entries_nodes}
use Rattle.comp_entity.specs.Entity.{EntityTree, IsComponent, Entries, no_entry, entry, ShapeTree}
use Rattle.comp_entity.specs.Names.{Change, entries_by}
use Rattle.comp_entity.specs.Views.{Sides}
use Rattle.comp_format.specs.Items.{ItemTree, Custom, CoreModule, CoreMade, CoreTy, Component, Instance, Aliased, Ty, Canonical, Import, Export, ImportTree, ExportTree, ExportName, ImportForm, ExportForm}
use Rattle.comp_format.specs.Sections.{Section, Named, CoreModules, CoreInstances, CoreTypes, Nested, Instances, Aliases, Types, Canons, Imports, Exports, Sections, none, more, ContentForm, SectionsForm, section_items}
use Rattle.comp_format.specs.Vectors.{Many}
use Rattle.comp_scope.specs.Closing.{closed}
use Rattle.comp_scope.specs.Descriptions.{new_brought, described, with_brought, with_made, imported, with_import, with_export}
use Rattle.comp_scope.specs.Exports.{is_typed, exported_as, exported}
use Rattle.comp_scope.specs.Shape.{Part, Plain, Inner, Parts, nothing, then_part, HasParts, in_front_of, parts_of_section, parts_in, spaces_after, after, after_part, after_parts, as_shape, listed, shape_within}
use Rattle.comp_scope.specs.Types.{with_spaces}
use Rattle.comp_scope.specs.Spaces.{Spaces, Known, Standing, nothing_known, is_taken, standing, added, entries_in}
use Rattle.comp_shape.specs.Shape.{HasShape}

-- ---- items

abbrev HasName : ItemTree → Type 0
HasName (Import i) = 0 < length i.name
HasName (Export e) = 0 < length e.name
HasName _ = Unit {0}

abbrev PartHasName : Part → Type 0
PartHasName (Plain item) = HasName item
PartHasName (Inner bytes parts) = Unit {0}

abbrev AreNamed : Parts → Type 0
AreNamed nothing = Unit {0}
AreNamed (then_part p ps) = PartHasName p × AreNamed ps

export_name : (name bytes rest : List ℕ) → ExportName name bytes rest → 0 < length name
export_name name bytes rest (inl h) = h.2.not_empty
export_name name bytes rest (inr h) = h.2.not_empty

imports_named : (is : List ImportTree) (bytes rest : List ℕ) → Many ImportForm is bytes rest → AllByRecursion HasName (map Import is)
imports_named [] bytes rest h = tt
imports_named (i ∷ is) bytes rest h = (export_name i.name bytes h.1.0 h.1.1, imports_named is h.0 rest h.2)

exports_named : (es : List ExportTree) (bytes rest : List ℕ) → Many ExportForm es bytes rest → AllByRecursion HasName (map Export es)
exports_named [] bytes rest h = tt
exports_named (e ∷ es) bytes rest h = (export_name e.name bytes h.1.0 h.1.1, exports_named es h.0 rest h.2)

others_named : {X : Type 0} (item : X → ItemTree) → ((x : X) → HasName (item x)) → (xs : List X) → AllByRecursion HasName (map item xs)
others_named item h [] = tt
others_named item h (x ∷ xs) = (h x, others_named item h xs)

section_named : (s : Section) (content : List ℕ) → ContentForm s content → AllByRecursion HasName (section_items s)
section_named (Named name bytes) content h = (tt, tt)
section_named (CoreModules bytes) content h = (tt, tt)
section_named (CoreInstances items) content h = others_named CoreMade (λ x. tt) items
section_named (CoreTypes items) content h = others_named CoreTy (λ x. tt) items
section_named (Nested bytes inner) content h = (tt, tt)
section_named (Instances items) content h = others_named Instance (λ x. tt) items
section_named (Aliases items) content h = others_named Aliased (λ x. tt) items
section_named (Types items) content h = others_named Ty (λ x. tt) items
section_named (Canons items) content h = others_named Canonical (λ x. tt) items
section_named (Imports items) content h = imports_named items h.0 [] h.2
section_named (Exports items) content h = exports_named items h.0 [] h.2

in_front : (items : List ItemTree) (parts : Parts) → AllByRecursion HasName items → AreNamed parts → AreNamed (in_front_of items parts)
in_front [] parts h k = k
in_front (item ∷ items) parts h k = (h.0, in_front items parts h.1 k)

section_parts : (s : Section) (content : List ℕ) (parts : Parts) → ContentForm s content → AreNamed parts → AreNamed (parts_of_section s parts)
section_parts (Named name bytes) content parts h k = (tt, k)
section_parts (CoreModules bytes) content parts h k = (tt, k)
section_parts (CoreInstances items) content parts h k = in_front _ parts (section_named (CoreInstances items) content h) k
section_parts (CoreTypes items) content parts h k = in_front _ parts (section_named (CoreTypes items) content h) k
section_parts (Nested bytes inner) content parts h k = (tt, k)
section_parts (Instances items) content parts h k = in_front _ parts (section_named (Instances items) content h) k
section_parts (Aliases items) content parts h k = in_front _ parts (section_named (Aliases items) content h) k
section_parts (Types items) content parts h k = in_front _ parts (section_named (Types items) content h) k
section_parts (Canons items) content parts h k = in_front _ parts (section_named (Canons items) content h) k
section_parts (Imports items) content parts h k = in_front _ parts (section_named (Imports items) content h) k
section_parts (Exports items) content parts h k = in_front _ parts (section_named (Exports items) content h) k

sections_named : (ss : Sections) (bytes : List ℕ) → SectionsForm ss bytes → AreNamed (parts_in ss)
sections_named none bytes h = tt
sections_named (more s ss) bytes h = section_parts s h.0 (parts_in ss) h.3 (sections_named ss h.1 h.4)

parts_named : (bytes : List ℕ) (parts : Parts) → HasParts bytes parts → AreNamed parts
parts_named bytes parts h = subst AreNamed (sym h.1) (sections_named h.0 h.2.0 h.2.2)

-- ---- a scope

abbrev Names : List (List ℕ × Standing) → Type 0
Names es = AllByRecursion (λ e. 0 < length e.0) es

record HasNames (k : Known) : Type 0 where
  imports : Names k.imports
  exports : Names k.exports

one_more : (es : List (List ℕ × Standing)) (e : List ℕ × Standing) → Names es → 0 < length e.0 → Names (es ++ e ∷ [])
one_more [] e h n = (n, tt)
one_more (x ∷ xs) e h n = (h.0, one_more xs e h.1 n)

-- with other index spaces, with an import more, and with an export more
spaces_named : (k : Known) (s : Spaces) → HasNames k → HasNames (with_spaces k s)
spaces_named k s h = record { imports = h.imports; exports = h.exports }

import_more : (k : Known) (name : List ℕ) (e : Standing) (s : Spaces) → HasNames k → 0 < length name → HasNames (with_import k name e s)
import_more k name e s h n = record { imports = one_more k.imports (name, e) h.imports n; exports = h.exports }

export_more : (k : Known) (name : List ℕ) (e : Standing) (s : Spaces) → HasNames k → 0 < length name → HasNames (with_export k name e s)
export_more k name e s h n = record { imports = h.imports; exports = one_more k.exports (name, e) h.exports n }

then_ok : {X Y : Type 0} (P : Y → Type 0) (r : Result X ShapeFault) (f : X → Result Y ShapeFault) → ((x : X) → IfOk (f x) P) → IfOk (r >>= f) P
then_ok P (Ok x) f h = h x
then_ok P (Err e) f h = tt

taken_ok : {Y : Type 0} (P : Y → Type 0) (b : Bool) (e : ShapeFault) (r : Result Y ShapeFault) → IfOk r P → IfOk (if b then Err e else r) P
taken_ok P true e r h = tt
taken_ok P false e r h = h

opened_ok : {Y : Type 0} (P : Y → Type 0) (b : Bool) (e : ShapeFault) (r : Result Y ShapeFault) → IfOk r P → IfOk (if b then r else Err e) P
opened_ok P true e r h = h
opened_ok P false e r h = tt

module _ (b : Bounds) where
  import_named : (k : Known) (i : ImportTree) → HasNames k → 0 < length i.name → IfOk (imported b k i.name i.ty) HasNames
  unfolding imported
  import_named k i h n =
      taken_ok HasNames (is_taken i.name k.imports) Index _ (then_ok HasNames (described k.spaces (new_brought k.spaces) i.ty) _ (λ d. then_ok HasNames (with_brought b k.spaces d) _ (λ s. import_more k i.name d.standing s h n)))

  export_named : (k : Known) (e : ExportTree) → HasNames k → 0 < length e.name → IfOk (exported b k e) HasNames
  unfolding exported
  export_named k e h n =
      taken_ok HasNames (is_taken e.name k.exports) Index _ (then_ok HasNames (standing k.spaces e.sort e.index) _ (λ item. then_ok HasNames (if is_typed item.0 then exported_as k.spaces item e.ty else Err Index) _ (λ d. then_ok HasNames (with_made b k.spaces d) _ (λ s. export_more k e.name d.standing s h n))))

  -- an item that is neither imported nor exported
  inner_named : (around : List Spaces) (k : Known) (item : ItemTree) → HasNames k → IfOk (spaces_after b around k.spaces item >>= λ s. Ok (with_spaces k s)) HasNames
  inner_named around k item h = then_ok HasNames (spaces_after b around k.spaces item) _ (λ s. spaces_named k s h)

  item_named : (around : List Spaces) (k : Known) (item : ItemTree) → HasName item → HasNames k → IfOk (after b around k item) HasNames
  unfolding after
  item_named around k (Import i) n h = import_named k i h n
  item_named around k (Export e) n h = export_named k e h n
  item_named around k (Custom name bytes) n h = inner_named around k (Custom name bytes) h
  item_named around k (CoreModule bytes) n h = inner_named around k (CoreModule bytes) h
  item_named around k (CoreMade item) n h = inner_named around k (CoreMade item) h
  item_named around k (CoreTy item) n h = inner_named around k (CoreTy item) h
  item_named around k (Component bytes) n h = inner_named around k (Component bytes) h
  item_named around k (Instance item) n h = inner_named around k (Instance item) h
  item_named around k (Aliased item) n h = inner_named around k (Aliased item) h
  item_named around k (Ty item) n h = inner_named around k (Ty item) h
  item_named around k (Canonical item) n h = inner_named around k (Canonical item) h

  part_named : (around : List Spaces) (k : Known) (p : Part) → PartHasName p → HasNames k → IfOk (after_part b around k p) HasNames
  unfolding after_part
  part_named around k (Plain item) n h = item_named around k item n h
  part_named around k (Inner bytes parts) n h =
      opened_ok HasNames (is_within b.scopes (suc (length (k.spaces ∷ around)))) TooDeep _ (then_ok HasNames (after_parts b (k.spaces ∷ around) (nothing_known true) parts) _ (λ inner.
      then_ok HasNames (added b k.spaces (IsComponent (closed inner).imports (closed inner).exports) true) _ (λ s. spaces_named k s h)))

  all_named : (around : List Spaces) (k : Known) (ps : Parts) → AreNamed ps → HasNames k → IfOk (after_parts b around k ps) HasNames
  unfolding after_parts
  all_named around k nothing n h = h
  all_named around k (then_part p ps) n h = next (after_part b around k p) (part_named around k p n.0 h) (λ k h. all_named around k ps n.1 h)
    where
      next : (r : Result Known ShapeFault) → IfOk r HasNames → ((k : Known) → HasNames k → IfOk (after_parts b around k ps) HasNames) → IfOk (r >>= λ k. after_parts b around k ps) HasNames
      next (Ok k) h later = later k h
      next (Err e) h later = tt

-- ---- imports and exports

abbrev EntriesNamed : Entries → Type 0
EntriesNamed no_entry = Unit {0}
EntriesNamed (entry name e mark es) = (0 < length name) × EntriesNamed es

entries_named : (es : List (List ℕ × Standing)) → Names es → EntriesNamed (entries_in es)
entries_named [] h = tt
entries_named (e ∷ es) h = (h.0, entries_named es h.1)

renamed : (c : Change) (d : ℕ) (es : Entries) → EntriesNamed es → EntriesNamed (entries_by c d es)
renamed c d no_entry h = tt
renamed c d (entry name e mark es) h = (h.0, renamed c d es h.1)

listed_named : (es : Entries) → EntriesNamed es → AllByRecursion (λ e. 0 < length e.0) (listed es)
listed_named no_entry h = tt
listed_named (entry name e mark es) h = (h.0, listed_named es h.1)

record ShapeHasNames (s : ShapeTree) : Type 0 where
  imports : AllByRecursion (λ e. 0 < length e.0) s.imports
  exports : AllByRecursion (λ e. 0 < length e.0) s.exports

sides_named : (c : Sides) → EntriesNamed c.imports × EntriesNamed c.exports → ShapeHasNames (record { imports = listed c.imports; exports = listed c.exports })
sides_named c h = record { imports = listed_named c.imports h.0; exports = listed_named c.exports h.1 }

within : (c : Sides) → EntriesNamed c.imports × EntriesNamed c.exports → IfOk (as_shape bounded c) ShapeHasNames
within c h = opened_ok ShapeHasNames (is_within bounded.nodes (entries_nodes c.imports + entries_nodes c.exports)) TooBig _ (sides_named c h)

closed_named : (k : Known) → HasNames k → EntriesNamed (closed k).imports × EntriesNamed (closed k).exports
closed_named k h = (renamed _ 0 _ (entries_named k.imports h.imports), renamed _ 0 _ (entries_named k.exports h.exports))

shape_named : (parts : Parts) → AreNamed parts → IfOk (shape_within bounded parts) ShapeHasNames
unfolding shape_within
shape_named parts n = named (after_parts bounded [] (nothing_known true) parts) (all_named bounded [] (nothing_known true) parts n (record { imports = tt; exports = tt }))
  where
    named : (r : Result Known ShapeFault) → IfOk r HasNames → IfOk (r >>= λ k. as_shape bounded (closed k)) ShapeHasNames
    named (Ok k) h = within (closed k) (closed_named k h)
    named (Err e) h = tt

pub names_of_shape : (bytes : List ℕ) (s : ShapeTree) → HasShape bytes s → All (λ e. 0 < length e.0) s.imports × All (λ e. 0 < length e.0) s.exports
names_of_shape bytes s h =
    let named = subst (λ r. IfOk r ShapeHasNames) h.shape_is (shape_named h.parts (parts_named bytes h.parts h.has_parts)) in
    (All-from_recursion (λ (e : List ℕ × EntityTree). 0 < length e.0) s.imports named.imports, All-from_recursion (λ (e : List ℕ × EntityTree). 0 < length e.0) s.exports named.exports)
