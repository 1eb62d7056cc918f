-- The items in front of the instances: imports, and components that are defined.
use Rattle.std.proofs.Common.{◌≡◌, ◌∙◌, ℕ, ◌+◌, ◌<◌, Bool, true, false, List, [], ◌∷◌, ◌++◌, length, map, refl, sym, ap, subst, arith}
use Rattle.std.specs.Prelude.{bytes_eq, if◌then◌else◌}
use Rattle.std.specs.List.{AllByRecursion, list_any}
use Rattle.std.proofs.lemmas.Bool.{or_from, or_left, or_right}
use Rattle.std.proofs.lemmas.List.{append-nil, append_assoc, length-map}
use Rattle.std.proofs.lemmas.List.Folds.{list_any-append}
use Rattle.std.proofs.lemmas.Slice.Eq.{bytes_eq-Decides}
use Rattle.comp_format.specs.declared.types.Sort.TheVariants as sort
use Rattle.comp_format.specs.Items.{ItemTree}
use Rattle.comp_encoder.specs.Writing.{numbered}
use Rattle.comp_entity.specs.Entity.{EntityTree}
use Rattle.comp_scope.specs.Image.{Image, Left, OfComponent, Progress, nothing_seen}
use Rattle.comp_scope.specs.Spaces.{sort_of}
use Rattle.compose_order.specs.Needs.{LeftTree}
use Rattle.compose_check.specs.Composition.{ComponentTree, CompositionTree}
use Rattle.compose_naming.specs.Settled.{settled}
use Rattle.compose_image.specs.Imports.{component_import, imports_of, used_components}
use Rattle.compose_image.specs.Instances.{component_items, import_index}
use Rattle.compose_image.specs.Writable.{HaveOwnNames, is_of}
use Rattle.compose_image.specs.CompositionImage.{component_image, is_component, is_named}
use Rattle.compose_image.proofs.ListLaws.{all_after, all_always, all_both, all_right, none_found}
use Rattle.compose_image.proofs.SpaceLaws.{Counts, Stands}
use Rattle.compose_image.proofs.ImportLaws.{AreTaken}
use Rattle.compose_image.proofs.PassLaws.{HoldsComponents, Passes, passes_on}
use Rattle.compose_image.proofs.SeenImportLaws.{StandsLeft, all_other, components_pass, defined_pass, index_past, lefts_pass, other_name, taken_in_two}

-- ---- names

own_later : (xs ys : List LeftTree) → HaveOwnNames (xs ++ ys) → HaveOwnNames ys
own_later [] ys h = h
own_later (x ∷ xs) ys h = own_later xs ys h.1

-- no component has the name of what is left open
apart : (ks : List ComponentTree) (lefts : List LeftTree) → HaveOwnNames (map component_import ks ++ lefts)
    → AllByRecursion
    (λ (l : LeftTree). AllByRecursion (λ (m : LeftTree). bytes_eq l.name m.name ≡ false) (map component_import ks))
    lefts
apart [] lefts h = all_always _ lefts (λ l. tt)
apart (k ∷ ks) lefts h =
    all_both (λ (l : LeftTree). bytes_eq k.name l.name ≡ false)
    (λ (l : LeftTree). AllByRecursion (λ (m : LeftTree). bytes_eq l.name m.name ≡ false) (map component_import ks)) _
    lefts
    (λ l e a. (other_name k.name l.name e, a))
    (all_right (λ (l : LeftTree). bytes_eq k.name l.name ≡ false) (map component_import ks) lefts
    (none_found (is_of k.name) (map component_import ks ++ lefts) h.0))
    (apart ks lefts h.1)

none_named : (name : List ℕ) (ks : List ComponentTree)
    → AllByRecursion (λ (m : LeftTree). bytes_eq name m.name ≡ false) (map component_import ks)
    → list_any (is_named name) ks ≡ false
none_named name [] a = refl
none_named name (k ∷ ks) a = or_from (bytes_eq name k.name) (list_any (is_named name) ks) a.0 (none_named name ks a.1)

each_named : (before ks : List ComponentTree)
    → AllByRecursion (λ (k : ComponentTree). list_any (is_named k.name) (before ++ ks) ≡ true) ks
each_named before [] = tt
each_named before (k ∷ ks) = (
  list_any-append (is_named k.name) before (k ∷ ks)
      ∙ or_right (list_any (is_named k.name) before) _
      (or_left (bytes_eq k.name k.name) (list_any (is_named k.name) ks) ((bytes_eq-Decides k.name k.name).1 refl)),
  subst (λ all. AllByRecursion (λ (j : ComponentTree). list_any (is_named j.name) all ≡ true) ks)
      (append_assoc before (k ∷ []) ks) (each_named (before ++ k ∷ []) ks),
)

-- ---- the items

module _ (c : CompositionTree) (shown : List (List ℕ × EntityTree)) where
  abbrev pub begun_image : Bool → Image
  begun_image define = record {
    components = map (component_image define) (used_components c);
    instances = [];
    imports = shown;
    exports = [];
  }

  -- Components stand in their index space, one behind the other, and what is left open where the import of its name is.
  pub record Begun (define : Bool) (lefts : List LeftTree) (imports : List ItemTree) : Type 0 where
    pub p : Progress
    pub passes : Passes (is_component c define) (nothing_seen shown) [] (imports ++ component_items c define) p
    pub image : p.image ≡ begun_image define
    pub held : (r : ℕ) → r < length (used_components c)
        → Stands p.numbered sort.Component ((if define then numbered sort.Component imports else 0) + r) (OfComponent r)
    pub stand : AllByRecursion (StandsLeft (is_component c define) p [] imports) lefts

  start_counts : Counts [] (nothing_seen shown).numbered
  start_counts = record { counted = λ kind. refl }

  defining : (lefts : List LeftTree) (imports : List ItemTree) → HaveOwnNames lefts → AreTaken lefts imports
      → Begun true lefts imports
  defining lefts imports own taken =
      let is = is_component c true in
      let left = lefts_pass is (nothing_seen shown) [] imports lefts start_counts taken own
      (all_always _ lefts (λ l. refl)) in
      let none : length left.q.image.components ≡ 0 = ap (λ (i : Image). length i.components) left.image in
      let begun : HoldsComponents is (numbered sort.Component imports) left.q imports = record {
        counts = left.passes.counts;
        count = omega (arith, none);
        held = λ r lt. absurd (omega (arith, none, lt));
      } in
      let made = defined_pass is (numbered sort.Component imports) left.q imports (used_components c) begun in
      let with_components = λ (i : Image).
      record i { components = i.components ++ map (component_image true) (used_components c) } in
      let made_image : made.q.image ≡ begun_image true = made.image ∙ ap with_components left.image in
      record {
        p = made.q;
        passes =
            passes_on is (nothing_seen shown) left.q made.q [] imports (component_items c true) left.passes made.passes;
        image = made_image;
        held = λ r lt. made.holds.held r
            (omega (
              arith,
              ap (λ (i : Image). length i.components) made_image,
              length-map (used_components c) (component_image true),
              lt,
            ));
        stand =
            all_after (StandsLeft is left.q [] imports) (StandsLeft is made.q [] imports) lefts
            (λ l h. made.passes.stays.still (sort_of l.entity) (import_index l.name [] imports) (Left l.name) h)
            left.lefts;
      }

  importing : (lefts : List LeftTree) (imports : List ItemTree)
      → HaveOwnNames (map component_import (used_components c) ++ lefts)
      → AreTaken (map component_import (used_components c) ++ lefts) imports → Begun false lefts imports
  importing lefts imports own taken =
      let is = is_component c false in
      let ks = used_components c in
      let two = taken_in_two (map component_import ks) lefts imports taken in
      let begun : HoldsComponents is 0 (nothing_seen shown) [] = record {
        counts = start_counts;
        count = refl;
        held = λ r lt. absurd (omega (arith, lt));
      } in
      let made = components_pass is 0 (nothing_seen shown) [] two.first ks begun two.of_first (each_named [] ks) in
      let others = apart ks lefts own in
      let left = lefts_pass is made.q two.first two.second lefts made.passes.counts two.of_second
      (own_later (map component_import ks) lefts own)
      (all_after
      (λ (l : LeftTree). AllByRecursion (λ (m : LeftTree). bytes_eq l.name m.name ≡ false) (map component_import ks)) _
      lefts (λ l a. none_named l.name ks a) others) in
      let whole : imports ++ [] ≡ two.first ++ two.second = append-nil imports ∙ two.both in
      record {
        p = left.q;
        passes =
            subst (λ items. Passes is (nothing_seen shown) [] items left.q) (sym whole)
            (passes_on is (nothing_seen shown) made.q left.q [] two.first two.second made.passes left.passes);
        image = left.image ∙ made.image;
        held =
            λ r lt. left.passes.stays.still sort.Component (0 + r) (OfComponent r)
            (made.holds.held r
            (omega
            (arith, ap (λ (i : Image). length i.components) made.image, length-map ks (component_image false), lt)));
        stand = subst (λ items. AllByRecursion (StandsLeft is left.q [] items) lefts) (sym two.both)
            (all_both
            (λ (l : LeftTree). AllByRecursion (λ (m : LeftTree). bytes_eq l.name m.name ≡ false)
            (map component_import ks)) (StandsLeft is left.q two.first two.second)
            (StandsLeft is left.q [] (two.first ++ two.second)) lefts
            (λ l a h. subst (λ n. Stands left.q.numbered (sort_of l.entity) n (Left l.name))
            (sym
            (index_past l.name [] two.first two.second
            (all_other l.name (map component_import ks) two.first a two.of_first))) h)
            others left.lefts);
      }

  pub begins : (define : Bool) (lefts : List LeftTree) (imports : List ItemTree)
      → HaveOwnNames (imports_of c define lefts) → AreTaken (imports_of c define lefts) imports
      → Begun define (map settled lefts) imports
  begins true lefts imports own taken = defining (map settled lefts) imports own taken
  begins false lefts imports own taken = importing (map settled lefts) imports own taken
