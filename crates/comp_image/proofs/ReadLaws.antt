-- Laws of all items of a component.
use Rattle.std.proofs.Common.{◌≡◌, ◌<◌, ◌+◌, ℕ, Bool, List, [], ◌∷◌, ◌++◌, length, map, Option, Some, None, refl, sym, ◌∙◌, ap, subst, arith}
use Rattle.std.specs.Prelude.{Vec, take, drop, get_or, option_map, option_and_then}
use Rattle.std.specs.Global.{Global}
use Rattle.std.proofs.lemmas.List.{take_more, take-append-drop, drop_more, map-append, length-map, length-take-le}
use Rattle.comp_entity.specs.declared.entity.Entity.{Entity}
use Rattle.comp_entity.specs.Views.{named_entities}
use Rattle.comp_format.specs.declared.types.Item.{Item}
use Rattle.comp_format.specs.Items.{ItemTree, item_tree}
use Rattle.comp_scope.specs.Image as scope
use Rattle.comp_scope.specs.Image.{nothing_seen, seen, seen_all, image}
use Rattle.comp_image.specs.declared.error.ItemError.{ItemError}
use Rattle.comp_image.specs.declared.error.ItemError.TheVariants as errors
use Rattle.comp_image.specs.declared.progress.Progress.{Progress}
use Rattle.comp_image.specs.Progress.{Imports, Fails, Shows, Seen}
use Rattle.comp_image.specs.Read.{AllSeen, StopsAt}
use Rattle.comp_image.specs.Views.{image_of}

module _ (is_component : List ℕ → Bool) where
  -- some items, and then others
  seen_apart : (p : scope.Progress) (front rest : List ItemTree) → seen_all is_component p (front ++ rest) ≡ option_and_then (λ q. seen_all is_component q rest) (seen_all is_component p front)
  unfolding seen_all
  seen_apart p [] rest = refl
  seen_apart p (item ∷ front) rest = one (seen is_component p item) (λ next. seen_apart next front rest)
    where
      one : (next : Option scope.Progress) → ((q : scope.Progress) → seen_all is_component q (front ++ rest) ≡ option_and_then (λ r. seen_all is_component r rest) (seen_all is_component q front))
          → option_and_then (λ q. seen_all is_component q (front ++ rest)) next ≡ option_and_then (λ r. seen_all is_component r rest) (option_and_then (λ q. seen_all is_component q front) next)
      one (Some next) all = all next
      one None all = refl

  seen_one : (p : scope.Progress) (item : ItemTree) (rest : List ItemTree) → seen_all is_component p (item ∷ rest) ≡ option_and_then (λ q. seen_all is_component q rest) (seen is_component p item)
  unfolding seen_all
  seen_one p item rest = refl

  no_more : (p : scope.Progress) → seen_all is_component p [] ≡ Some p
  unfolding seen_all
  no_more p = refl

  -- no item was seen
  pub none_seen : (imports : Imports) (part : Progress) → Shows imports part (nothing_seen imports) → AllSeen is_component imports [] part
  none_seen imports part shown = record { progress = nothing_seen imports; seen_is = no_more (nothing_seen imports); shown = shown }

  -- items that stop have no image
  pub stops_none : (imports : Imports) (items : List ItemTree) (number : ℕ) → StopsAt is_component imports items number → image is_component imports items ≡ None
  stops_none imports items number s =
      ap (λ (l : List ItemTree). option_map (λ p. p.image) (seen_all is_component (nothing_seen imports) l)) s.parts
      ∙ ap (option_map (λ p. p.image)) (
      seen_apart (nothing_seen imports) s.front (s.item ∷ s.back)
      ∙ ap (option_and_then (λ q. seen_all is_component q (s.item ∷ s.back))) s.seen_is
      ∙ seen_one s.before s.item s.back
      ∙ ap (option_and_then (λ q. seen_all is_component q s.back)) s.stops
      )

  -- one item more was seen
  pub one_more : (imports : Imports) (front : List ItemTree) (item : ItemTree) (old new : Progress) → AllSeen is_component imports front old → ((p : scope.Progress) → Shows imports old p → Seen imports new (seen is_component p item)) → AllSeen is_component imports (front ++ item ∷ []) new
  one_more imports front item old new all one =
      let next = one all.progress all.shown in
      record {
        progress = next.next;
        seen_is =
            seen_apart (nothing_seen imports) front (item ∷ [])
            ∙ ap (option_and_then (λ q. seen_all is_component q (item ∷ []))) all.seen_is
            ∙ seen_one all.progress item []
            ∙ ap (option_and_then (λ q. seen_all is_component q [])) next.given_is
            ∙ no_more next.next;
        shown = next.shown;
      }

  -- an item that was not seen stops
  pub stops : (imports : Imports) (items : List Item) (i n : ℕ) (d : Item) (old : Progress) (e : ItemError) → i < length items → n ≡ i → e ≡ errors.NotCarried → AllSeen is_component imports (map item_tree (take i items)) old
      → ((p : scope.Progress) → Shows imports old p → Fails e (seen is_component p (item_tree (get_or items i d)))) → StopsAt is_component imports (map item_tree items) n
  stops imports items i n d old e lt is which all fails = record {
    front = map item_tree (take i items);
    item = item_tree (get_or items i d);
    back = map item_tree (drop (i + 1) items);
    parts =
        ap (map item_tree) (sym (take-append-drop i items) ∙ ap (λ (l : List Item). take i items ++ l) (drop_more items i d lt))
        ∙ map-append item_tree (take i items) (get_or items i d ∷ drop (i + 1) items);
    number_is = length-map (take i items) item_tree ∙ length-take-le i items (omega (arith, lt)) ∙ sym is;
    before = all.progress;
    seen_is = all.seen_is;
    stops = subst (λ (f : ItemError). Fails f (seen is_component all.progress (item_tree (get_or items i d)))) which (fails all.progress all.shown);
  }

  -- what was seen is the image
  pub image_shown : (imports : Vec (List ℕ × Entity) Global) (items : List ItemTree) (part : Progress) → AllSeen is_component (named_entities imports.items) items part
      → image is_component (named_entities imports.items) items ≡ Some (image_of (record { components = part.components; instances = part.instances; imports = imports; exports = part.exports }))
  image_shown imports items part all =
      let shown = all.shown in
      ap (option_map (λ p. p.image)) all.seen_is
      ∙ ap (λ (i : scope.Image). Some i) (λ i. record { components = sym shown.components i; instances = sym shown.instances i; imports = sym shown.imports_are i; exports = sym shown.exports i })

-- the items so far, and one more
pub front_more : (items : List Item) (i : ℕ) (d : Item) → i < length items → map item_tree (take (i + 1) items) ≡ map item_tree (take i items) ++ item_tree (get_or items i d) ∷ []
front_more items i d lt = ap (map item_tree) (take_more items i d lt) ∙ map-append item_tree (take i items) (get_or items i d ∷ [])
