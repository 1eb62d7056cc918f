-- What is written imports what is to be imported, in order, and nothing else.
use Rattle.std.proofs.Common.{◌≡◌, ◌∙◌, ℕ, Bool, true, false, cond, List, [], ◌∷◌, ◌++◌, map, Option, Some, refl, ap}
use Rattle.std.specs.List.{AllByRecursion, flat_map, fold}
use Rattle.std.proofs.lemmas.List.{append-nil}
use Rattle.std.proofs.lemmas.List.Concat.{flat_map-append}
use Rattle.comp_format.specs.declared.types.Alias.TheVariants as alias
use Rattle.comp_format.specs.Items.{ItemTree, Aliased, Component, Import}
use Rattle.comp_scope.specs.Spaces.{sort_of}
use Rattle.compose_order.specs.Needs.{LeftTree}
use Rattle.compose_check.specs.Composition.{ComponentTree, CompositionTree}
use Rattle.compose_image.specs.Imports.{import_in, import_items, imports_in, imports_of, name_and_sort, used_components}
use Rattle.compose_image.specs.Instances.{Part, Written, component_items, export_of, exported_parts, has_part, instance_index, part_of_wire, wires_of, with_export, with_instance, with_part, with_parts, written}
use Rattle.compose_image.proofs.ImportLaws.{AreTaken, Taken, import_item, imports_taken, taken_items}
use Rattle.compose_image.proofs.QuietLaws.{IsQuiet}

quiet_item : (item : ItemTree) → IsQuiet item → import_in item ≡ []
quiet_item (Import i) h = absurd h
quiet_item _ h = refl

quiet_items : (items : List ItemTree) → AllByRecursion IsQuiet items → imports_in items ≡ []
quiet_items [] a = refl
quiet_items (item ∷ items) a = ap (λ xs. xs ++ imports_in items) (quiet_item item a.0) ∙ quiet_items items a.1

one_import : (l : LeftTree) (t : Taken l) → imports_in (taken_items l t) ≡ name_and_sort l ∷ []
one_import l t =
    flat_map-append import_in t.front (import_item l t ∷ [])
    ∙ ap (λ xs. xs ++ imports_in (import_item l t ∷ [])) (quiet_items t.front t.quiet)
    ∙ ap (λ kind. (l.name, kind) ∷ []) t.kind

all_imports : (ls : List LeftTree) (items : List ItemTree) → AreTaken ls items → imports_in items ≡ map name_and_sort ls
all_imports [] items t = ap imports_in t
all_imports (l ∷ ls) items t =
    ap imports_in t.2 ∙ flat_map-append import_in (taken_items l t.0) t.1
    ∙ (λ i. one_import l t.0 i ++ all_imports ls t.1 t.3 i)

-- an item behind others that is no import
none_more : (items : List ItemTree) (item : ItemTree) → import_in item ≡ []
    → imports_in (items ++ item ∷ []) ≡ imports_in items
none_more items item e =
    flat_map-append import_in items (item ∷ []) ∙ ap (λ xs. imports_in items ++ (xs ++ [])) e
    ∙ append-nil (imports_in items)

components_import_none : (ks : List ComponentTree) → imports_in (map (λ (k : ComponentTree). Component k.bytes) ks) ≡ []
components_import_none [] = refl
components_import_none (k ∷ ks) = components_import_none ks

module _ (c : CompositionTree) (define : Bool) (imports : List ItemTree) where
  begun : imports_in (imports ++ component_items c define) ≡ imports_in imports
  begun =
      flat_map-append import_in imports (component_items c define) ∙ ap (λ xs. imports_in imports ++ xs) (by define)
      ∙ append-nil (imports_in imports)
    where
      by : (b : Bool) → imports_in (component_items c b) ≡ []
      by true = components_import_none (used_components c)
      by false = refl

  part_imports_none : (w : Written) (part : Part) → imports_in (with_part c w part).items ≡ imports_in w.items
  part_imports_none w part =
      by (has_part w part) _
      (none_more w.items
      (Aliased (alias.Export (sort_of (export_of c part).1) (instance_index w part.0) (export_of c part).0)) refl)
    where
      by : (b : Bool) (aliased : Written) → imports_in aliased.items ≡ imports_in w.items
          → imports_in (cond b w aliased).items ≡ imports_in w.items
      by true aliased h = refl
      by false aliased h = h

  parts_import_none : (w : Written) (parts : List Part)
      → imports_in (fold (with_part c) w parts).items ≡ imports_in w.items
  parts_import_none w [] = refl
  parts_import_none w (part ∷ parts) = parts_import_none (with_part c w part) parts ∙ part_imports_none w part

  instances_import_none : (w : Written) (order : List ℕ)
      → imports_in (fold (with_instance c define imports) w order).items ≡ imports_in w.items
  instances_import_none w [] = refl
  instances_import_none w (i ∷ order) =
      instances_import_none (with_instance c define imports w i) order
      ∙ none_more (with_parts c w (wires_of c i)).items _ refl
      ∙ parts_import_none w (flat_map part_of_wire (wires_of c i))

  exports_import_none : (w : Written) (parts : List Part)
      → imports_in (fold (with_export c) w parts).items ≡ imports_in w.items
  exports_import_none w [] = refl
  exports_import_none w (part ∷ parts) =
      exports_import_none (with_export c w part) parts ∙ none_more (with_part c w part).items _ refl
      ∙ part_imports_none w part

pub imported_as_meant : (c : CompositionTree) (define : Bool) (export : Option ℕ) (order : List ℕ)
    (lefts : List LeftTree) (imports : List ItemTree) → import_items (imports_of c define lefts) ≡ Some imports
    → imports_in (written c define export order imports).items ≡ map name_and_sort (imports_of c define lefts)
imported_as_meant c define export order lefts imports e =
    exports_import_none c define imports _ (exported_parts c export) ∙ instances_import_none c define imports _ order
    ∙ begun c define imports
    ∙ all_imports (imports_of c define lefts) imports (imports_taken (imports_of c define lefts) imports e)
