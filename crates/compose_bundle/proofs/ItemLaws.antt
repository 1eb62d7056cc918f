-- Items one by one: what stands in their place, in front of one and behind it.
use Rattle.std.proofs.Common.{◌≡◌, ◌∙◌, ℕ, zero, suc, ◌+◌, ◌<◌, List, [], ◌∷◌, ◌++◌, length, map, take, drop, get_or, Option, refl, sym, ap, subst, arith}
use Rattle.std.specs.Prelude.{All}
use Rattle.std.proofs.lemmas.List.{get_or-map, length-map, take_more}
use Rattle.std.proofs.lemmas.List.Elements.{All-get_or}
use Rattle.comp_encoder.specs.Writing.{Entry, Single, items_of}
use Rattle.comp_format.specs.Fits.{FitsItem}
use Rattle.comp_format.specs.Items.{ItemTree, item_tree}
use Rattle.comp_format.specs.declared.types.Item.{Item}
use Rattle.compose_bundle.specs.Bundled.{bundled, bundled_item, singles}
use Rattle.compose_bundle.specs.Refusing.{IsAmong, IsOfItem}

pub items_of_singles : (items : List ItemTree) → items_of (singles items) ≡ items
items_of_singles [] = refl
items_of_singles (item ∷ items) = ap (λ others. item ∷ others) (items_of_singles items)

-- each item has a written form
pub fits_at : (items : List Item) (i : ℕ) (item : Item) → i < length items → item ≡ get_or items i item
    → All FitsItem (map item_tree items)
    → FitsItem (item_tree item)
fits_at items i item lt is all =
    let within : i < length (map item_tree items) = subst (λ n. i < n) (sym (length-map items item_tree)) lt in
    subst FitsItem (get_or-map item_tree items i item (item_tree item) lt ∙ ap item_tree (sym is))
    (All-get_or FitsItem (map item_tree items) i (item_tree item) within all)

module _ (content : List ℕ → Option (List ℕ)) where
  abbrev pub stand : List Item → List ItemTree
  stand items = bundled content (map item_tree items)

  pushed : (front : List Item) (item : Item)
      → singles (stand (front ++ item ∷ [])) ≡ singles (stand front) ++ Single (bundled_item content (item_tree item)) ∷ []
  pushed [] item = refl
  pushed (x ∷ front) item = ap (λ entries. Single (bundled_item content (item_tree x)) ∷ entries) (pushed front item)

  -- one more is added
  pub added_more : (items : List Item) (i : ℕ) (item : Item) (old new : List Entry) → i < length items
      → item ≡ get_or items i item
      → old ≡ singles (stand (take i items))
      → new ≡ old ++ Single (bundled_item content (item_tree item)) ∷ []
      → new ≡ singles (stand (take (i + 1) items))
  added_more items i item old new lt is old_is new_is =
      new_is
      ∙ ap (λ (entries : List Entry). entries ++ Single (bundled_item content (item_tree item)) ∷ []) old_is
      ∙ sym (pushed (take i items) item)
      ∙ ap (λ (x : Item). singles (stand (take i items ++ x ∷ []))) is
      ∙ sym (ap (λ (front : List Item). singles (stand front)) (take_more items i item lt))

  split_at : (items : List Item) (i : ℕ) (d : Item) → i < length items
      → stand items ≡ stand (take i items) ++ bundled_item content (item_tree (get_or items i d)) ∷ stand (drop (suc i) items)
  split_at [] i d lt = absurd (omega arith)
  split_at (x ∷ items) zero d lt = refl
  split_at (x ∷ items) (suc i) d lt =
      ap (λ others. bundled_item content (item_tree x) ∷ others) (split_at items i d (omega (arith, lt)))

  -- a number of an item, behind those that were added
  pub among_at : (items : List Item) (i : ℕ) (item : Item) (old : List Entry) (n : ℕ) → i < length items
      → item ≡ get_or items i item
      → old ≡ singles (stand (take i items))
      → IsOfItem n (items_of old) (bundled_item content (item_tree item))
      → IsAmong n (stand items)
  among_at items i item old n lt is old_is of = record {
    front = stand (take i items);
    item = bundled_item content (item_tree item);
    behind = stand (drop (suc i) items);
    items_are = split_at items i item lt
        ∙ ap (λ (x : Item). stand (take i items) ++ bundled_item content (item_tree x) ∷ stand (drop (suc i) items)) (sym is);
    is = subst (λ front. IsOfItem n front (bundled_item content (item_tree item)))
        (ap items_of old_is ∙ items_of_singles (stand (take i items))) of;
  }
