-- What is written for a composition has its link image.
use Rattle.std.proofs.Common.{◌≡◌, ◌∙◌, ℕ, ◌+◌, ◌<◌, Bool, true, List, [], ◌∷◌, ◌++◌, length, map, Option, Some, None, option_map, refl, sym, ap, subst, arith}
use Rattle.std.specs.List.{AllByRecursion, fold, range_with_len}
use Rattle.std.specs.Option.{IfSome}
use Rattle.std.proofs.lemmas.List.{append-nil, append_assoc}
use Rattle.comp_format.specs.Items.{ExportTree, Export, ItemTree}
use Rattle.comp_entity.specs.Entity.{EntityTree}
use Rattle.comp_scope.specs.Image.{Exported, Image, Left, PartOf, Progress, as_part, exported, image, nothing_seen, seen, seen_all}
use Rattle.comp_scope.specs.Image as image
use Rattle.comp_scope.specs.Spaces.{sort_of}
use Rattle.compose_agree.specs.Order.{Takes, all_of, has, is_ready}
use Rattle.compose_order.specs.Needs.{LeftTree}
use Rattle.compose_check.specs.Composition.{CompositionTree, IsComposition}
use Rattle.compose_check.specs.Checked.{IsInstanceOrder, IsSound, sources}
use Rattle.compose_naming.specs.Settled.{settled}
use Rattle.compose_image.specs.Imports.{import_items, imports_of}
use Rattle.compose_image.specs.Instances.{Part, Written, component_items, component_rank, export_of, exported_parts, import_index, open_imports, part_index, rank, shape_of, wires_of, with_export, with_instance, with_part, with_parts, written}
use Rattle.compose_image.specs.Writable.{HaveOwnNames}
use Rattle.compose_image.specs.CompositionImage.{composition_image, export_image, is_component}
use Rattle.compose_image.proofs.ListLaws.{all_after, any_of_all}
use Rattle.compose_image.proofs.SpaceLaws.{Stands}
use Rattle.compose_image.proofs.ImportLaws.{imports_taken}
use Rattle.compose_image.proofs.PassLaws.{Passes, Steps, passes_on, passes_one}
use Rattle.compose_image.proofs.SeenImportLaws.{StandsLeft}
use Rattle.compose_image.proofs.BegunLaws.{Begun, begins}
use Rattle.compose_image.proofs.OpenLaws.{HasImport, open_has_import, settled_sort}
use Rattle.compose_image.proofs.UsedLaws.{rank_there}
use Rattle.compose_image.proofs.OrderLaws.{is_in_order, is_there, length-sources, once, sources_done, times, times_append, times_first}
use Rattle.compose_image.proofs.InstanceLaws.{Holds, StandsOpen, args_given, instance_holds, part_at, part_meant, part_sort, parted, tables_stay, wires_given}

module _ (c : CompositionTree) (define : Bool) (order : List ℕ) (imports : List ItemTree)
    (shown : List (List ℕ × EntityTree)) where
  -- ---- instances, in order

  placed_times : (i : ℕ) (done rest : List ℕ) → order ≡ done ++ i ∷ rest
      → times i order ≡ times i done + (1 + times i rest)
  placed_times i done rest whole =
      ap (times i) whole ∙ times_append i done (i ∷ rest) ∙ ap (λ n. times i done + n) (times_first i rest)

  module _ (in_order : IsInstanceOrder c order) where
    there : (i : ℕ) (done rest : List ℕ) → order ≡ done ++ i ∷ rest → i < length c.instances
    there i done rest whole =
        omega
        (arith, is_there (sources c) order in_order i (omega (arith, placed_times i done rest whole)), length-sources c)

    alone : (i : ℕ) (done rest : List ℕ) → order ≡ done ++ i ∷ rest → times i done ≡ 0
    alone i done rest whole = omega (arith, placed_times i done rest whole, once (sources c) order in_order i)

    instances_hold : (w : Written) (done left rest : List ℕ) → order ≡ done ++ rest
        → Takes (is_ready (sources c)) done left rest [] → Holds c define order imports shown w done []
        → Holds c define order imports shown (fold (with_instance c define imports) w rest) order []
    instances_hold w done left [] whole t h =
        subst (λ ns. Holds c define order imports shown w ns []) (sym (whole ∙ append-nil done)) h
    instances_hold w done left (i ∷ rest) whole t h =
        let lt = there i done rest whole in
        let from = sources_done c done i lt t.4 in
        let given = wires_given c define order imports shown w done [] (wires_of c i) h from in
        let args = args_given c define order imports shown (with_parts c w (wires_of c i)) done [] given.holds i lt from
        given.here in
        instances_hold (with_instance c define imports w i) (done ++ i ∷ []) (t.0 ++ t.1) rest
        (whole ∙ sym (append_assoc done (i ∷ []) rest)) t.5
        (instance_holds c define order imports shown (with_parts c w (wires_of c i)) done [] given.holds i rest lt whole
        (alone i done rest whole) args)

  -- ---- exports

  module _ (w : Written) (exports : List Exported) (part : Part)
      (a : Holds c define order imports shown w order exports)
      (here : Stands a.p.numbered (part_sort c part) (part_index w part) (part_meant c order part)) where
    abbrev export_tree : ExportTree
    export_tree = record {
      name = (export_of c part).0;
      sort = sort_of (export_of c part).1;
      index = part_index w part;
      ty = None;
    }

    abbrev export_next : Progress
    export_next = image.with_export a.p export_tree (rank part.0 order, (export_of c part).0)

    abbrev exporting : Written
    exporting = record w { items = w.items ++ Export export_tree ∷ [] }

    export_steps : Steps (is_component c define) a.p (Export export_tree) (part_sort c part)
        (part_meant c order part) export_next
    unfolding seen
    export_steps = record {
      next = ap (λ s. option_map (image.with_export a.p export_tree) (as_part s)) here;
      more = refl;
      sort = refl;
    }

    export_passes : Passes (is_component c define) a.p w.items (Export export_tree ∷ []) export_next
    export_passes =
        passes_one (is_component c define) a.p export_next w.items (Export export_tree) (part_sort c part)
        (part_meant c order part) a.passes.counts export_steps

    export_holds : Holds c define order imports shown exporting order (exports ++ export_image c order part ∷ [])
    export_holds = record {
      p = export_next;
      passes =
          passes_on (is_component c define) (nothing_seen shown) a.p export_next [] w.items (Export export_tree ∷ [])
          a.passes export_passes;
      image = ap (λ (m : Image). record m { exports = m.exports ++ export_image c order part ∷ [] }) a.image;
      tables =
          tables_stay c define order imports shown a.p.numbered export_next.numbered w.instances w.parts
          export_passes.stays a.tables;
      keys = a.keys;
    }

  exports_hold : (w : Written) (exports : List Exported) (parts : List Part)
      → Holds c define order imports shown w order exports
      → AllByRecursion (λ (part : Part). has order part.0 ≡ true) parts
      → Holds c define order imports shown (fold (with_export c) w parts) order
      (exports ++ map (export_image c order) parts)
  exports_hold w exports [] h a = subst (Holds c define order imports shown w order) (sym (append-nil exports)) h
  exports_hold w exports (part ∷ parts) h a =
      let one = parted c define order imports shown w order exports part h a.0 in
      let at = part_at c define order imports shown (with_part c w part) one.holds.p.numbered part one.holds.tables
      one.here in
      subst (Holds c define order imports shown (fold (with_export c) (with_export c w part) parts) order)
      (append_assoc exports (export_image c order part ∷ []) (map (export_image c order) parts))
      (exports_hold (with_export c w part) (exports ++ export_image c order part ∷ []) parts
      (export_holds (with_part c w part) exports part one.holds at) a.1)

  all_of_one : (i : ℕ) (ns : List ℕ) → has order i ≡ true
      → AllByRecursion (λ (part : Part). has order part.0 ≡ true) (map (λ n. (i, n)) ns)
  all_of_one i [] h = tt
  all_of_one i (n ∷ ns) h = (h, all_of_one i ns h)

  exported_there : (export : Option ℕ) → IsInstanceOrder c order → IfSome export (λ i. i < length c.instances)
      → AllByRecursion (λ (part : Part). has order part.0 ≡ true) (exported_parts c export)
  exported_there None o h = tt
  exported_there (Some i) o h =
      all_of_one i (range_with_len 0 (length (shape_of c i).exports))
      (is_in_order (sources c) order o i (omega (arith, h, length-sources c)))

-- ---- components and what is left open, in front of the instances

module _ (c : CompositionTree) (define : Bool) (order : List ℕ) (lefts : List LeftTree) (imports : List ItemTree)
    (shown : List (List ℕ × EntityTree)) (sound : IsSound c order lefts) (is : IsComposition c)
    (b : Begun c shown define (map settled lefts) imports) where
  -- what is written has the name and the sort of what is left open
  stand_settled : (ls : List LeftTree)
      → AllByRecursion (StandsLeft (is_component c define) b.p [] imports) (map settled ls)
      → AllByRecursion (StandsLeft (is_component c define) b.p [] imports) ls
  stand_settled [] a = tt
  stand_settled (l ∷ ls) a = (
    subst (λ kind. Stands b.p.numbered kind (import_index l.name [] imports) (Left l.name)) (settled_sort l) a.0,
    stand_settled ls a.1,
  )

  open_stands : (e : List ℕ × EntityTree) → HasImport lefts e → StandsOpen c define order imports shown b.p.numbered e
  open_stands e h =
      any_of_all (StandsLeft (is_component c define) b.p [] imports)
      (λ (l : LeftTree). (e.0 ≡ l.name) × (sort_of l.entity ≡ sort_of e.1))
      (StandsOpen c define order imports shown b.p.numbered e) lefts
      (λ l s k. subst (λ name. Stands b.p.numbered (sort_of e.1) (import_index name [] imports) (Left name)) (sym k.0)
      (subst (λ kind. Stands b.p.numbered kind (import_index l.name [] imports) (Left l.name)) k.1 s))
      (stand_settled lefts b.stand) h

  begun_written : Written
  begun_written = record { items = imports ++ component_items c define; instances = []; parts = [] }

  begun_holds : Holds c define order imports shown begun_written [] []
  unfolding begun_written
  begun_holds = record {
    p = b.p;
    passes = b.passes;
    image = b.image;
    tables = record {
      components = λ i lt. b.held (component_rank c i) (rank_there c is i lt);
      opens =
          λ i lt. all_after (HasImport lefts) (StandsOpen c define order imports shown b.p.numbered)
          (open_imports c i) open_stands (open_has_import c lefts i sound.agree lt);
      instances = tt;
      exports = tt;
    };
    keys = refl;
  }

pub image_of_composition : (c : CompositionTree) (define : Bool) (export : Option ℕ) (order : List ℕ)
    (lefts : List LeftTree) (imports : List ItemTree) (shown : List (List ℕ × EntityTree))
    → IsComposition c → IsSound c order lefts → HaveOwnNames (imports_of c define lefts)
    → IfSome export (λ i. i < length c.instances)
    → import_items (imports_of c define lefts) ≡ Some imports
    → image (is_component c define) shown (written c define export order imports).items
    ≡ Some (composition_image c define export order shown)
unfolding begun_written
image_of_composition c define export order lefts imports shown is sound own there e =
    let begun = begins c shown define lefts imports own (imports_taken (imports_of c define lefts) imports e) in
    let instances = instances_hold c define order imports shown sound.in_order _ [] (all_of (sources c)) order refl
    sound.in_order (begun_holds c define order lefts imports shown sound is begun) in
    let all = exports_hold c define order imports shown _ [] (exported_parts c export) instances
    (exported_there c define order imports shown export sound.in_order there) in
    ap (option_map (λ (p : Progress). p.image)) all.passes.seen ∙ ap Some all.image
