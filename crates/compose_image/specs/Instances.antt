-- What is written for a composition behind its imports: components, instances, and exports (Component Model,
-- Explainer.md, "Instance Definitions" and "Alias Definitions").
use Rattle.std.specs.Prelude.{ℕ, suc, Bool, ◌+◌, ◌&&◌, List, [], ◌∷◌, ◌++◌, map, filter, find, length, Option, Some, None, is_none, slice_get, unwrap_or, bytes_eq, ◌==◌, if◌then◌else◌}
use Rattle.std.specs.List.{flat_map, fold, list_any, range_with_len}
use Rattle.std.specs.Option.{option_map_or}
use Rattle.comp_format.specs.declared.types.Sort.TheVariants as sort
use Rattle.comp_format.specs.declared.types.Arg.{Arg}
use Rattle.comp_format.specs.declared.types.InstanceItem.TheVariants as instance
use Rattle.comp_format.specs.declared.types.Alias.TheVariants as alias
use Rattle.comp_format.specs.Items.{ItemTree, Component, Instance, Aliased, Import, Export}
use Rattle.comp_encoder.specs.Writing.{described_sort, numbered}
use Rattle.comp_entity.specs.Entity.{EntityTree, IsFunc, ShapeTree}
use Rattle.comp_scope.specs.Spaces.{sort_of}
use Rattle.compose_left.specs.declared.wiring.Wire.{Wire}
use Rattle.compose_left.specs.Wiring.{shape_at, wire_into}
use Rattle.compose_check.specs.Composition.{ComponentTree, CompositionTree, goes_to, source_of, wiring}
use Rattle.compose_image.specs.Imports.{used, used_components}

-- the shape of an instance
abbrev pub shape_of : CompositionTree → ℕ → ShapeTree
shape_of c i = shape_at (wiring c).shapes i

-- ---- components

-- how many of some numbers stand in front of one
abbrev pub rank : ℕ → List ℕ → ℕ
rank n [] = 0
rank n (m ∷ ms) = if m == n then 0 else suc (rank n ms)

abbrev pub component_items : CompositionTree → Bool → List ItemTree
component_items c define = if define then map (λ (k : ComponentTree). Component k.bytes) (used_components c) else []

-- the number of the component of an instance among those of which instances are made
abbrev pub component_rank : CompositionTree → ℕ → ℕ
component_rank c i = rank (unwrap_or (slice_get c.instances i) 0) (used c)

-- its index: components that are imported are the first imports, and those that are defined stand behind all imports
abbrev pub component_index : CompositionTree → Bool → List ItemTree → ℕ → ℕ
component_index c define imports i = (if define then numbered sort.Component imports else 0) + component_rank c i

-- ---- what is written, with the indices that it has

-- an export of an instance, by the numbers of both
abbrev pub Part : Type 0
Part = ℕ × ℕ

abbrev pub is_part : Part → Part × ℕ → Bool
is_part part e = (e.0.0 == part.0) && (e.0.1 == part.1)

abbrev pub is_instance : ℕ → ℕ × ℕ → Bool
is_instance i e = e.0 == i

-- items; the index of each instance that was made; and the index of each export that was aliased
pub record Written : Type 0 where
  pub items : List ItemTree
  pub instances : List (ℕ × ℕ)
  pub parts : List (Part × ℕ)

abbrev pub index_of : {X : Type 0} → Option (X × ℕ) → ℕ
index_of found = option_map_or (λ e. e.1) found 0

abbrev pub instance_index : Written → ℕ → ℕ
instance_index w i = index_of (find (is_instance i) w.instances)

abbrev pub part_index : Written → Part → ℕ
part_index w part = index_of (find (is_part part) w.parts)

-- an export of an instance: its name, and what it is
abbrev pub no_entity : List ℕ × EntityTree
no_entity = ([], IsFunc (record { params = []; result = None }))

abbrev pub export_of : CompositionTree → Part → List ℕ × EntityTree
export_of c part = unwrap_or (slice_get (shape_of c part.0).exports part.1) no_entity

-- an export is aliased once
abbrev pub has_part : Written → Part → Bool
has_part w part = list_any (is_part part) w.parts

abbrev pub with_part : CompositionTree → Written → Part → Written
with_part c w part =
    let e = export_of c part in
    if has_part w part then w else record w {
      items = w.items ++ Aliased (alias.Export (sort_of e.1) (instance_index w part.0) e.0) ∷ [];
      parts = w.parts ++ (part, numbered (sort_of e.1) w.items) ∷ [];
    }

-- ---- arguments

-- The wires into an instance: by the instances that they come from, in the order in which these are first given to it.
abbrev pub first_ones : List ℕ → List ℕ → List ℕ
first_ones seen [] = []
first_ones seen (n ∷ ns) = if list_any (λ m. m == n) seen then first_ones seen ns else n ∷ first_ones (n ∷ seen) ns

abbrev pub comes_from : ℕ → Wire → Bool
comes_from source w = w.source == source

abbrev pub by_source : List Wire → List Wire
by_source ws = flat_map (λ source. filter (comes_from source) ws) (first_ones [] (map source_of ws))

abbrev pub wires_of : CompositionTree → ℕ → List Wire
wires_of c i = by_source (filter (goes_to i) c.wires)

-- the exports that wires take
abbrev pub part_of_wire : Wire → List Part
part_of_wire w = option_map_or (λ export. (w.source, export) ∷ []) w.export []

abbrev pub with_parts : CompositionTree → Written → List Wire → Written
with_parts c w ws = fold (with_part c) w (flat_map part_of_wire ws)

-- the name of an import of an instance
abbrev pub import_of : CompositionTree → ℕ → ℕ → List ℕ × EntityTree
import_of c i import = unwrap_or (slice_get (shape_of c i).imports import) no_entity

abbrev pub given_arg : CompositionTree → Written → Wire → Option ℕ → Arg
given_arg c w wire None = record {
  name = (import_of c wire.target wire.import).0;
  sort = sort.Instance;
  index = instance_index w wire.source;
}
given_arg c w wire (Some export) = record {
  name = (import_of c wire.target wire.import).0;
  sort = sort_of (export_of c (wire.source, export)).1;
  index = part_index w (wire.source, export);
}

abbrev pub given_args : CompositionTree → Written → ℕ → List Arg
given_args c w i = map (λ wire. given_arg c w wire wire.export) (wires_of c i)

-- how many items of its sort stand in front of the import of a name
unfoldable pub import_index : List ℕ → List ItemTree → List ItemTree → ℕ
import_index name front [] = 0
import_index name front (Import i ∷ items) =
    if bytes_eq name i.name then numbered (described_sort i.ty) front
    else import_index name (front ++ Import i ∷ []) items
import_index name front (item ∷ items) = import_index name (front ++ item ∷ []) items

-- what an instance leaves open comes from the import of its name
abbrev pub open_arg : List ItemTree → List ℕ × EntityTree → Arg
open_arg front e = record { name = e.0; sort = sort_of e.1; index = import_index e.0 [] front }

abbrev pub open_from : CompositionTree → ℕ → ℕ → List (List ℕ × EntityTree) → List (List ℕ × EntityTree)
open_from c i import [] = []
open_from c i import (e ∷ es) =
    (if is_none (wire_into c.wires i import) then e ∷ [] else []) ++ open_from c i (suc import) es

abbrev pub open_imports : CompositionTree → ℕ → List (List ℕ × EntityTree)
open_imports c i = open_from c i 0 (shape_of c i).imports

-- those that are given, and then those that are left open
abbrev pub args_of : CompositionTree → List ItemTree → Written → ℕ → List Arg
args_of c imports w i = given_args c w i ++ map (open_arg imports) (open_imports c i)

-- ---- instances

-- the exports that an instance is given, and the instance
abbrev pub with_instance : CompositionTree → Bool → List ItemTree → Written → ℕ → Written
with_instance c define imports w i =
    let given = with_parts c w (wires_of c i) in
    let item = Instance (instance.Instantiate (component_index c define imports i) (args_of c imports given i)) in
    record given {
      items = given.items ++ item ∷ [];
      instances = given.instances ++ (i, numbered sort.Instance given.items) ∷ [];
    }

-- ---- exports

-- an export of an instance, and the export of that under its name
abbrev pub with_export : CompositionTree → Written → Part → Written
with_export c w part =
    let given = with_part c w part in
    let e = export_of c part in
    let item = Export (record { name = e.0; sort = sort_of e.1; index = part_index given part; ty = None }) in
    record given { items = given.items ++ item ∷ [] }

abbrev pub parts_of : CompositionTree → ℕ → List Part
parts_of c i = map (λ n. (i, n)) (range_with_len 0 (length (shape_of c i).exports))

abbrev pub exported_parts : CompositionTree → Option ℕ → List Part
exported_parts c None = []
exported_parts c (Some i) = parts_of c i

-- ---- the whole

-- behind the items of imports: components, instances in this order, and the exports of one
abbrev pub written : CompositionTree → Bool → Option ℕ → List ℕ → List ItemTree → Written
written c define export order imports =
    let begun : Written = record { items = imports ++ component_items c define; instances = []; parts = [] } in
    fold (with_export c) (fold (with_instance c define imports) begun order) (exported_parts c export)
