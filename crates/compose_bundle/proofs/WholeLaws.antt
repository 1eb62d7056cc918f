-- A composition that is encoded with its components imported, and bundled with their bytes.
use Rattle.std.proofs.Common.{◌≡◌, ◌∙◌, ℕ, Bool, true, false, List, [], ◌∷◌, map, Option, Some, Contains, refl, sym, ap}
use Rattle.std.specs.Prelude.{bytes_eq, is_some, option_map, ◌||◌}
use Rattle.std.specs.List.{AllByRecursion, list_any}
use Rattle.std.specs.Option.{option_map_or}
use Rattle.std.proofs.lemmas.Slice.Eq.{bytes_eq-Decides}
use Rattle.comp_format.specs.Items.{Import, ImportTree, ItemTree}
use Rattle.comp_format.specs.Sections.{Reads}
use Rattle.comp_entity.specs.Entity.{EntityTree}
use Rattle.comp_scope.specs.Image.{Imported, Defined, image}
use Rattle.compose_agree.specs.Order.{IsOrder, all_of, is_ready}
use Rattle.compose_check.specs.Checked.{sources}
use Rattle.compose_check.specs.Composition.{ComponentTree, CompositionTree}
use Rattle.compose_image.specs.CompositionImage.{component_image, composition_image, is_component, is_named}
use Rattle.compose_image.specs.Imports.{used_components}
use Rattle.compose_encode.specs.Whole.{IsWhole}
use Rattle.compose_bundle.specs.Bundled.{IsBundled, bundled}
use Rattle.compose_bundle.specs.Defined.{defined, defined_component, has_content}
use Rattle.compose_bundle.specs.Whole.{AreContentsOf, HasItsContent, IsWholeBundle}
use Rattle.compose_bundle.proofs.DefinedLaws.{image_bundled}
use Rattle.compose_bundle.proofs.NameLaws.{image_alike}

-- ---- components

module _ (content : List ℕ → Option (List ℕ)) where
  components_defined : (ks : List ComponentTree) → AllByRecursion (HasItsContent content) ks
      → map (defined_component content) (map (component_image false) ks) ≡ map (component_image true) ks
  components_defined [] have = refl
  components_defined (k ∷ ks) have =
      ap (λ of. option_map_or Defined of (Imported k.name) ∷ map (defined_component content) (map (component_image false) ks)) have.0
      ∙ ap (λ others. Defined k.bytes ∷ others) (components_defined ks have.1)

  -- the name of one of them has a content
  named_has : (name : List ℕ) (ks : List ComponentTree) → AllByRecursion (HasItsContent content) ks
      → list_any (is_named name) ks ≡ true
      → has_content content name ≡ true
  named_has name [] have found = absurd cc
  named_has name (k ∷ ks) have found = by (bytes_eq name k.name) refl (named_has name ks have.1)
    where
      by : (b : Bool) → bytes_eq name k.name ≡ b
          → (list_any (is_named name) ks ≡ true → has_content content name ≡ true)
          → has_content content name ≡ true
      by true same later = ap (has_content content) ((bytes_eq-Decides name k.name).0 same) ∙ ap is_some have.0
      by false other later = later (sym (ap (λ b. b || list_any (is_named name) ks) other) ∙ found)

pub composition_defined : (c : CompositionTree) (content : List ℕ → Option (List ℕ)) (export : Option ℕ) (order : List ℕ)
    (all shown : List (List ℕ × EntityTree))
    → AllByRecursion (HasItsContent content) (used_components c)
    → defined content shown (composition_image c false export order all) ≡ composition_image c true export order shown
composition_defined c content export order all shown have =
    ap (λ components. record (composition_image c true export order shown) { components = components })
    (components_defined content (used_components c) have)

-- ---- bundles

module _ (c : CompositionTree) (content : List ℕ → Option (List ℕ)) (bytes : List ℕ) (of : AreContentsOf c content bytes) where
  -- just the names of components have contents
  has_alike : (items : List ItemTree) → Reads bytes items → (i : ImportTree) → Contains items (Import i)
      → has_content content i.name ≡ is_component c false i.name
  has_alike items reads i there = by (is_component c false i.name) refl
    where
      by : (b : Bool) → is_component c false i.name ≡ b → has_content content i.name ≡ b
      by true is = named_has content i.name (used_components c) of.components is
      by false is = ap is_some (of.no_others items i reads there is)

  image_defined : (export : Option ℕ) (order : List ℕ) (items : List ItemTree) (shown : List (List ℕ × EntityTree))
      → Reads bytes items
      → image (is_component c false) shown items ≡ Some (composition_image c false export order shown)
      → image (is_component c true) shown (bundled content items) ≡ Some (composition_image c true export order shown)
  image_defined export order items shown reads is =
      image_bundled content shown shown items
      ∙ ap (option_map (defined content shown))
      (image_alike (has_content content) (is_component c false) shown items (has_alike items reads) ∙ is)
      ∙ ap Some (composition_defined c content export order shown shown of.components)

pub bundle_whole : (c : CompositionTree) (content : List ℕ → Option (List ℕ)) (export : Option ℕ) (bytes out : List ℕ)
    (whole : IsWhole c false export bytes)
    → AreContentsOf c content bytes
    → IsBundled content bytes out
    → IsWholeBundle c export whole.order out
bundle_whole c content export bytes out whole of bundle = record {
  in_order = whole.possible.sound.in_order;
  items = bundled content bundle.items;
  reads = bundle.reads;
  once = bundle.once;
  image = λ shown. image_defined c content bytes of export whole.order bundle.items shown bundle.read
      (ap (image (is_component c false) shown) (whole.encoded.once bundle.items bundle.read) ∙ whole.image shown);
}

-- a bundle has the image of what is encoded with components defined, where there is one order of the instances
pub bundle_defined : ((ready : List ℕ → ℕ → Bool) (all xs ys : List ℕ) → IsOrder ready all xs → IsOrder ready all ys → xs ≡ ys)
    → (c : CompositionTree) (export : Option ℕ) (order bytes out : List ℕ) (items others : List ItemTree)
    (shown : List (List ℕ × EntityTree))
    → IsWholeBundle c export order out
    → Reads out items
    → IsWhole c true export bytes
    → Reads bytes others
    → image (is_component c true) shown items ≡ image (is_component c true) shown others
bundle_defined one_order c export order bytes out items others shown bundle reads whole other_reads =
    let same = one_order (is_ready (sources c)) (all_of (sources c)) order whole.order bundle.in_order whole.possible.sound.in_order in
    ap (image (is_component c true) shown) (bundle.once items reads)
    ∙ bundle.image shown
    ∙ ap (λ order. Some (composition_image c true export order shown)) same
    ∙ sym (whole.image shown)
    ∙ sym (ap (image (is_component c true) shown) (whole.encoded.once others other_reads))
