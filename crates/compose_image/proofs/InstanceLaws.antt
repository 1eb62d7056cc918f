-- Instances are seen as they are meant: each with its component, what it is given, and what it leaves open.
use Rattle.std.proofs.Common.{◌≡◌, ◌∙◌, ℕ, ◌<◌, Bool, true, false, cond, List, [], ◌∷◌, ◌++◌, length, map, Option, Some, None, option_and_then, option_map, refl, sym, ap, subst}
use Rattle.std.specs.Prelude.{◌==◌, ◌||◌, ◌&&◌}
use Rattle.std.specs.List.{AllByRecursion, flat_map, fold, list_any}
use Rattle.std.specs.Option.{option_map_or}
use Rattle.std.proofs.lemmas.Bool.{and_parts, and_from, eq-eqb, eqb-true, or_left, or_right}
use Rattle.std.proofs.lemmas.List.{length-map, map-append}
use Rattle.std.proofs.lemmas.List.Folds.{list_any-append}
use Rattle.comp_format.specs.declared.types.Arg.{Arg}
use Rattle.comp_format.specs.declared.types.Alias.TheVariants as alias
use Rattle.comp_format.specs.declared.types.InstanceItem.TheVariants as instance
use Rattle.comp_format.specs.declared.types.Sort.{Sort}
use Rattle.comp_format.specs.declared.types.Sort.TheVariants as sort
use Rattle.comp_format.specs.Items.{ItemTree, Aliased, Instance}
use Rattle.comp_encoder.specs.Writing.{numbered}
use Rattle.comp_entity.specs.Entity.{EntityTree}
use Rattle.comp_scope.specs.Image.{ArgOf, Exported, Image, Indexed, Left, Made, OfComponent, OfInstance, PartOf, Progress, arguments, as_argument, as_component, as_export, indexed, nothing_seen, numbering, seen}
use Rattle.comp_scope.specs.Image as image
use Rattle.comp_scope.specs.Spaces.{sort_of}
use Rattle.compose_agree.specs.Order.{has}
use Rattle.compose_left.specs.declared.wiring.Wire.{Wire}
use Rattle.compose_check.specs.Composition.{CompositionTree}
use Rattle.compose_image.specs.Imports.{used_components}
use Rattle.compose_image.specs.Instances.{Part, Written, args_of, component_index, component_rank, export_of, given_arg, given_args, has_part, import_index, import_of, index_of, instance_index, is_instance, is_part, open_arg, open_imports, part_index, part_of_wire, rank, wires_of, with_part, with_parts}
use Rattle.compose_image.specs.CompositionImage.{component_image, given_argument, given_image, instance_image, is_component, open_argument}
use Rattle.compose_image.proofs.ListLaws.{all_after, all_left, all_push, all_right, finds}
use Rattle.compose_image.proofs.SpaceLaws.{Numbering, Stands, Stays}
use Rattle.compose_image.proofs.PassLaws.{Passes, Steps, passes_on, passes_one, stands_last}
use Rattle.compose_image.proofs.OrderLaws.{ComesFrom, rank_behind, times}

-- ---- arguments

module _ (p : Progress) where
  abbrev IsArgument : Arg → List ℕ × ArgOf → Type 0
  IsArgument a of = (a.name ≡ of.0) × (as_argument (indexed p a.sort a.index) ≡ Some of.1)

  arguments_are : {X : Type 0} (f : X → Arg) (g : X → List ℕ × ArgOf) (xs : List X)
      → AllByRecursion (λ x. IsArgument (f x) (g x)) xs → arguments p (map f xs) ≡ Some (map g xs)
  arguments_are f g [] a = refl
  arguments_are f g (x ∷ xs) a =
      ap (option_and_then (λ of. option_map (λ later. ((f x).name, of) ∷ later) (arguments p (map f xs)))) a.0.1
      ∙ ap (option_map (λ later. ((f x).name, (g x).1) ∷ later)) (arguments_are f g xs a.1)
      ∙ ap (λ name. Some ((name, (g x).1) ∷ map g xs)) a.0.0

  arguments_on : (xs ys : List Arg) (a b : List (List ℕ × ArgOf)) → arguments p xs ≡ Some a → arguments p ys ≡ Some b
      → arguments p (xs ++ ys) ≡ Some (a ++ b)
  arguments_on [] ys a b e f = let h : [] ≡ a = cc in f ∙ ap (λ xs. Some (xs ++ b)) h
  arguments_on (x ∷ xs) ys a b e f =
      by (as_argument (indexed p x.sort x.index)) (arguments p xs) (λ rest g. arguments_on xs ys rest b g f) e
    where
      with_first : ArgOf → List (List ℕ × ArgOf) → List (List ℕ × ArgOf)
      with_first of later = (x.name, of) ∷ later

      by : (o : Option ArgOf) (l : Option (List (List ℕ × ArgOf)))
          → ((rest : List (List ℕ × ArgOf)) → l ≡ Some rest → arguments p (xs ++ ys) ≡ Some (rest ++ b))
          → option_and_then (λ of. option_map (with_first of) l) o ≡ Some a
          → option_and_then (λ of. option_map (with_first of) (arguments p (xs ++ ys))) o ≡ Some (a ++ b)
      by None l more h = absurd cc
      by (Some of) None more h = absurd cc
      by (Some of) (Some rest) more h =
          let same : with_first of rest ≡ a = cc in
          ap (option_map (with_first of)) (more rest refl) ∙ ap (λ all. Some (all ++ b)) same

-- ---- what stands where, while instances are seen

-- an export of an instance: its sort, and what its index is to stand for
abbrev pub part_sort : CompositionTree → Part → Sort
part_sort c part = sort_of (export_of c part).1

abbrev pub part_meant : CompositionTree → List ℕ → Part → Indexed
part_meant c order part = PartOf (rank part.0 order) (export_of c part).0

module _ (c : CompositionTree) (define : Bool) (order : List ℕ) (imports : List ItemTree)
    (shown : List (List ℕ × EntityTree)) where
  abbrev StandsPart : Numbering → Part × ℕ → Type 0
  StandsPart ns e = Stands ns (part_sort c e.0) e.1 (part_meant c order e.0)

  abbrev StandsMade : Numbering → ℕ × ℕ → Type 0
  StandsMade ns e = Stands ns sort.Instance e.1 (Made (rank e.0 order))

  abbrev pub StandsOpen : Numbering → List ℕ × EntityTree → Type 0
  StandsOpen ns e = Stands ns (sort_of e.1) (import_index e.0 [] imports) (Left e.0)

  -- components, what is left open, instances that were made, and exports that were aliased
  pub record Tables (made : List (ℕ × ℕ)) (parts : List (Part × ℕ)) (ns : Numbering) : Type 0 where
    pub components : (i : ℕ) → i < length c.instances
        → Stands ns sort.Component (component_index c define imports i) (OfComponent (component_rank c i))
    pub opens : (i : ℕ) → i < length c.instances → AllByRecursion (StandsOpen ns) (open_imports c i)
    pub instances : AllByRecursion (StandsMade ns) made
    pub exports : AllByRecursion (StandsPart ns) parts

  pub tables_stay : (ns ms : Numbering) (made : List (ℕ × ℕ)) (parts : List (Part × ℕ)) → Stays ns ms
      → Tables made parts ns → Tables made parts ms
  tables_stay ns ms made parts s t = record {
    components =
        λ i lt. s.still sort.Component (component_index c define imports i) (OfComponent (component_rank c i))
        (t.components i lt);
    opens =
        λ i lt. all_after (StandsOpen ns) (StandsOpen ms) (open_imports c i)
        (λ e h. s.still (sort_of e.1) (import_index e.0 [] imports) (Left e.0) h) (t.opens i lt);
    instances =
        all_after (StandsMade ns) (StandsMade ms) made (λ e h. s.still sort.Instance e.1 (Made (rank e.0 order)) h)
        t.instances;
    exports =
        all_after (StandsPart ns) (StandsPart ms) parts
        (λ e h. s.still (part_sort c e.0) e.1 (part_meant c order e.0) h) t.exports;
  }

  abbrev pub image_with : List ℕ → List Exported → Image
  image_with done exports = record {
    components = map (component_image define) (used_components c);
    instances = map (instance_image c order) done;
    imports = shown;
    exports = exports;
  }

  -- These instances were made, and these exports written.
  pub record Holds (w : Written) (done : List ℕ) (exports : List Exported) : Type 0 where
    pub p : Progress
    pub passes : Passes (is_component c define) (nothing_seen shown) [] w.items p
    pub image : p.image ≡ image_with done exports
    pub tables : Tables w.instances w.parts p.numbered
    pub keys : map (λ (e : ℕ × ℕ). e.0) w.instances ≡ done

  -- ---- look-ups

  any_key : (i : ℕ) (made : List (ℕ × ℕ)) → list_any (is_instance i) made ≡ has (map (λ (e : ℕ × ℕ). e.0) made) i
  any_key i [] = refl
  any_key i (e ∷ made) = ap (λ b. (e.0 == i) || b) (any_key i made)

  pub made_at : (w : Written) (done : List ℕ) (ns : Numbering) (i : ℕ) → Tables w.instances w.parts ns
      → map (λ (e : ℕ × ℕ). e.0) w.instances ≡ done → has done i ≡ true
      → Stands ns sort.Instance (instance_index w i) (Made (rank i order))
  made_at w done ns i t keys h =
      let f = finds (StandsMade ns) (is_instance i) w.instances t.instances
      (any_key i w.instances ∙ ap (λ ks. has ks i) keys ∙ h) in
      subst (λ n. Stands ns sort.Instance n (Made (rank i order))) (sym (ap index_of f.found))
      (subst (λ n. Stands ns sort.Instance f.x.1 (Made (rank n order))) (eqb-true f.x.0 i f.passes) f.has)

  same_part : (part : Part) (e : Part × ℕ) → is_part part e ≡ true → e.0 ≡ part
  same_part part e h =
      let parts = and_parts (e.0.0 == part.0) (e.0.1 == part.1) h in
      λ i. (eqb-true e.0.0 part.0 parts.0 i, eqb-true e.0.1 part.1 parts.1 i)

  pub part_at : (w : Written) (ns : Numbering) (part : Part) → Tables w.instances w.parts ns → has_part w part ≡ true
      → Stands ns (part_sort c part) (part_index w part) (part_meant c order part)
  part_at w ns part t h =
      let f = finds (StandsPart ns) (is_part part) w.parts t.exports h in
      subst (λ n. Stands ns (part_sort c part) n (part_meant c order part)) (sym (ap index_of f.found))
      (subst (λ (q : Part). Stands ns (part_sort c q) f.x.1 (part_meant c order q)) (same_part part f.x f.passes) f.has)

  -- ---- one export that is aliased

  -- after this step an export has an index, and what had one still has it
  pub record Parted (w next : Written) (done : List ℕ) (exports : List Exported) (part : Part) : Type 0 where
    pub holds : Holds next done exports
    pub here : has_part next part ≡ true
    pub still : (other : Part) → has_part w other ≡ true → has_part next other ≡ true

  module _ (w : Written) (done : List ℕ) (exports : List Exported) (part : Part) (h : Holds w done exports)
      (there : has done part.0 ≡ true) where
    abbrev alias_item : ItemTree
    alias_item = Aliased (alias.Export (part_sort c part) (instance_index w part.0) (export_of c part).0)

    abbrev alias_next : Progress
    alias_next = numbering h.p (part_sort c part) (part_meant c order part)

    abbrev aliased : Written
    aliased =
        record w
        { items = w.items ++ alias_item ∷ []; parts = w.parts ++ (part, numbered (part_sort c part) w.items) ∷ [] }

    alias_steps : Steps (is_component c define) h.p alias_item (part_sort c part) (part_meant c order part) alias_next
    unfolding seen
    alias_steps = record {
      next =
          ap (λ s. Some (numbering h.p (part_sort c part) (as_export s (export_of c part).0)))
          (made_at w done h.p.numbered part.0 h.tables h.keys there);
      more = refl;
      sort = refl;
    }

    alias_passes : Passes (is_component c define) h.p w.items (alias_item ∷ []) alias_next
    alias_passes =
        passes_one (is_component c define) h.p alias_next w.items alias_item (part_sort c part)
        (part_meant c order part)
        h.passes.counts alias_steps

    alias_holds : Holds aliased done exports
    alias_holds = record {
      p = alias_next;
      passes =
          passes_on (is_component c define) (nothing_seen shown) h.p alias_next [] w.items (alias_item ∷ []) h.passes
          alias_passes;
      image = h.image;
      tables =
          let t = tables_stay h.p.numbered alias_next.numbered w.instances w.parts alias_passes.stays h.tables in
          record {
            components = t.components;
            opens = t.opens;
            instances = t.instances;
            exports =
                all_push (StandsPart alias_next.numbered) w.parts (part, numbered (part_sort c part) w.items) t.exports
                (stands_last (is_component c define) h.p alias_next w.items alias_item (part_sort c part)
                (part_meant c order part) h.passes.counts alias_steps);
          };
      keys = h.keys;
    }

    is_here : list_any (is_part part) aliased.parts ≡ true
    is_here =
        list_any-append (is_part part) w.parts ((part, numbered (part_sort c part) w.items) ∷ [])
        ∙ or_right (list_any (is_part part) w.parts) (((part.0 == part.0) && (part.1 == part.1)) || false)
        (or_left ((part.0 == part.0) && (part.1 == part.1)) false
        (and_from (part.0 == part.0) (part.1 == part.1) (eq-eqb part.0 part.0 refl) (eq-eqb part.1 part.1 refl)))

    pub parted : Parted w (with_part c w part) done exports part
    parted = by (has_part w part) refl
      where
        by : (b : Bool) → has_part w part ≡ b → Parted w (cond b w aliased) done exports part
        by true e = record { holds = h; here = e; still = λ other k. k }
        by false e = record {
          holds = alias_holds;
          here = is_here;
          still = λ other k. list_any-append (is_part other) w.parts _ ∙ or_left (list_any (is_part other) w.parts) _ k;
        }

  -- ---- the exports that an instance is given

  pub record Given (w next : Written) (done : List ℕ) (exports : List Exported) (parts : List Part) : Type 0 where
    pub holds : Holds next done exports
    pub here : AllByRecursion (λ part. has_part next part ≡ true) parts
    pub still : (other : Part) → has_part w other ≡ true → has_part next other ≡ true

  parts_given : (w : Written) (done : List ℕ) (exports : List Exported) (parts : List Part) → Holds w done exports
      → AllByRecursion (λ (part : Part). has done part.0 ≡ true) parts
      → Given w (fold (with_part c) w parts) done exports parts
  parts_given w done exports [] h a = record { holds = h; here = tt; still = λ other k. k }
  parts_given w done exports (part ∷ parts) h a =
      let one = parted w done exports part h a.0 in
      let later = parts_given (with_part c w part) done exports parts one.holds a.1 in
      record {
        holds = later.holds;
        here = (later.still part one.here, later.here);
        still = λ other k. later.still other (one.still other k);
      }

  parts_of_wires : (done : List ℕ) (ws : List Wire) → AllByRecursion (ComesFrom done) ws
      → AllByRecursion (λ (part : Part). has done part.0 ≡ true) (flat_map part_of_wire ws)
  parts_of_wires done [] a = tt
  parts_of_wires done (w ∷ ws) a = by w.export (parts_of_wires done ws a.1)
    where
      by : (export : Option ℕ) → AllByRecursion (λ (part : Part). has done part.0 ≡ true) (flat_map part_of_wire ws)
          → AllByRecursion (λ (part : Part). has done part.0 ≡ true)
          (option_map_or (λ n. (w.source, n) ∷ []) export [] ++ flat_map part_of_wire ws)
      by None later = later
      by (Some n) later = (a.0, later)

  pub wires_given : (w : Written) (done : List ℕ) (exports : List Exported) (ws : List Wire) → Holds w done exports
      → AllByRecursion (ComesFrom done) ws → Given w (with_parts c w ws) done exports (flat_map part_of_wire ws)
  wires_given w done exports ws h a = parts_given w done exports (flat_map part_of_wire ws) h (parts_of_wires done ws a)

  -- ---- what an instance is given

  module _ (w : Written) (done : List ℕ) (exports : List Exported) (h : Holds w done exports) where
    abbrev IsGiven : Wire → Type 0
    IsGiven wire = IsArgument h.p (given_arg c w wire wire.export) (given_argument c order wire)

    one_given : (wire : Wire) (export : Option ℕ) → has done wire.source ≡ true
        → AllByRecursion (λ part. has_part w part ≡ true) (option_map_or (λ n. (wire.source, n) ∷ []) export [])
        → IsArgument h.p (given_arg c w wire export)
        ((import_of c wire.target wire.import).0, given_image c order wire export)
    one_given wire None there a = (refl, ap as_argument (made_at w done h.p.numbered wire.source h.tables h.keys there))
    one_given wire (Some n) there a = (refl, ap as_argument (part_at w h.p.numbered (wire.source, n) h.tables a.0))

    all_given : (ws : List Wire) → AllByRecursion (ComesFrom done) ws
        → AllByRecursion (λ part. has_part w part ≡ true) (flat_map part_of_wire ws) → AllByRecursion IsGiven ws
    all_given [] a b = tt
    all_given (wire ∷ ws) a b = (
      one_given wire wire.export a.0
          (all_left (λ part. has_part w part ≡ true) (part_of_wire wire) (flat_map part_of_wire ws) b),
      all_given ws a.1 (all_right (λ part. has_part w part ≡ true) (part_of_wire wire) (flat_map part_of_wire ws) b),
    )

    opens_given : (es : List (List ℕ × EntityTree)) → AllByRecursion (StandsOpen h.p.numbered) es
        → AllByRecursion (λ e. IsArgument h.p (open_arg imports e) (open_argument e)) es
    opens_given [] a = tt
    opens_given (e ∷ es) a = ((refl, ap as_argument a.0), opens_given es a.1)

    pub args_given : (i : ℕ) → i < length c.instances → AllByRecursion (ComesFrom done) (wires_of c i)
        → AllByRecursion (λ part. has_part w part ≡ true) (flat_map part_of_wire (wires_of c i))
        → arguments h.p (args_of c imports w i) ≡ Some (instance_image c order i).1
    args_given i lt a b =
        arguments_on h.p (given_args c w i) (map (open_arg imports) (open_imports c i))
        (map (given_argument c order) (wires_of c i)) (map open_argument (open_imports c i))
        (arguments_are h.p (λ wire. given_arg c w wire wire.export) (given_argument c order) (wires_of c i)
        (all_given (wires_of c i) a b))
        (arguments_are h.p (open_arg imports) open_argument (open_imports c i)
        (opens_given (open_imports c i) (h.tables.opens i lt)))

    -- ---- one instance

    module _ (i : ℕ) (rest : List ℕ) (lt : i < length c.instances) (whole : order ≡ done ++ i ∷ rest)
        (alone : times i done ≡ 0)
        (args : arguments h.p (args_of c imports w i) ≡ Some (instance_image c order i).1) where
      abbrev instance_item : ItemTree
      instance_item = Instance (instance.Instantiate (component_index c define imports i) (args_of c imports w i))

      abbrev instance_next : Progress
      instance_next = image.with_instance h.p (component_rank c i) (instance_image c order i).1

      instance_place : length h.p.image.instances ≡ rank i order
      instance_place =
          ap (λ (m : Image). length m.instances) h.image ∙ length-map done (instance_image c order)
          ∙ sym (rank_behind i done rest alone) ∙ ap (rank i) (sym whole)

      instance_steps : Steps (is_component c define) h.p instance_item sort.Instance (Made (rank i order)) instance_next
      unfolding seen instance_place
      instance_steps = record {
        next =
            ap
            (λ s. option_and_then (λ n. option_map (image.with_instance h.p n) (arguments h.p (args_of c imports w i)))
            (as_component s))
            (h.tables.components i lt)
            ∙ ap (option_map (image.with_instance h.p (component_rank c i))) args;
        more = ap (λ n. h.p.numbered ++ (sort.Instance, Made n) ∷ []) instance_place;
        sort = refl;
      }

      abbrev with_it : Written
      with_it =
          record w
          { items = w.items ++ instance_item ∷ []; instances = w.instances ++ (i, numbered sort.Instance w.items) ∷ [] }

      instance_passes : Passes (is_component c define) h.p w.items (instance_item ∷ []) instance_next
      instance_passes =
          passes_one (is_component c define) h.p instance_next w.items instance_item sort.Instance (Made (rank i order))
          h.passes.counts instance_steps

      pub instance_holds : Holds with_it (done ++ i ∷ []) exports
      instance_holds = record {
        p = instance_next;
        passes =
            passes_on (is_component c define) (nothing_seen shown) h.p instance_next [] w.items (instance_item ∷ [])
            h.passes instance_passes;
        image =
            ap (λ (m : Image). record m { instances = m.instances ++ instance_image c order i ∷ [] }) h.image
            ∙ ap (λ instances. record (image_with done exports) {
              instances =
                  instances;
            }) (sym (map-append (instance_image c order) done (i ∷ [])));
        tables =
            let t = tables_stay h.p.numbered instance_next.numbered w.instances w.parts instance_passes.stays
            h.tables in
            record {
              components = t.components;
              opens = t.opens;
              instances =
                  all_push (StandsMade instance_next.numbered) w.instances (i, numbered sort.Instance w.items)
                  t.instances
                  (stands_last (is_component c define) h.p instance_next w.items instance_item sort.Instance
                  (Made (rank i order)) h.passes.counts instance_steps);
              exports = t.exports;
            };
        keys =
            map-append (λ (e : ℕ × ℕ). e.0) w.instances ((i, numbered sort.Instance w.items) ∷ [])
            ∙ ap (λ ks. ks ++ i ∷ []) h.keys;
      }
