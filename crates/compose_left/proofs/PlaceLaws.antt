-- The places of instances, each found by its number.
use Rattle.std.proofs.Common.{◌≡◌, ℕ, zero, suc, ◌+◌, ◌<◌, ◌≤◌, List, [], ◌∷◌, ◌++◌, length, take, refl, sym, ap, subst, ◌∙◌, arith, slice_index_or}
use Rattle.std.proofs.lemmas.List.{take_more, map-append}
use Rattle.comp_entity.specs.Entity.{ShapeTree}
use Rattle.std.specs.Borrow.{Bor}
use Rattle.comp_entity.specs.declared.entity.Shape.{Shape}
use Rattle.compose_left.specs.declared.places.Places.{Places}
use Rattle.compose_left.specs.Wiring.{lent_shape, shapes_of, shape_at, no_shape}
use Rattle.compose_left.specs.Wired.{IsPlaces, ArePlaces}

places_push : (ps : List Places) (ss : List ShapeTree) (p : Places) (s : ShapeTree) → ArePlaces ps ss → IsPlaces p s → ArePlaces (ps ++ p ∷ []) (ss ++ s ∷ [])
places_push [] [] p s a h = (h, tt)
places_push [] (t ∷ ss) p s a h = absurd a
places_push (q ∷ ps) [] p s a h = absurd a
places_push (q ∷ ps) (t ∷ ss) p s a h = (a.0, places_push ps ss p s a.1 h)

pub all_places_step : (found new : List Places) (shapes : List (Bor Shape)) (i : ℕ) (x : Bor Shape) (p : Places) → new ≡ found ++ p ∷ [] → i < length shapes → x ≡ slice_index_or shapes i x
    → IsPlaces p (lent_shape x) → ArePlaces found (shapes_of (take i shapes)) → ArePlaces new (shapes_of (take (i + 1) shapes))
all_places_step found new shapes i x p e lt is h a =
    let front : shapes_of (take (i + 1) shapes) ≡ shapes_of (take i shapes) ++ lent_shape x ∷ [] =
    ap shapes_of (take_more shapes i x lt ∙ ap (λ (y : Bor Shape). take i shapes ++ y ∷ []) (sym is)) ∙ map-append lent_shape (take i shapes) (x ∷ []) in
    subst (λ (ps : List Places). ArePlaces ps (shapes_of (take (i + 1) shapes))) (sym e)
    (subst (λ (ss : List ShapeTree). ArePlaces (found ++ p ∷ []) ss) (sym front) (places_push found (shapes_of (take i shapes)) p (lent_shape x) a h))

pub places_at : (ps : List Places) (ss : List ShapeTree) (i : ℕ) (p : Places) → ArePlaces ps ss → i < length ps → p ≡ slice_index_or ps i p → IsPlaces p (shape_at ss i)
places_at [] ss i p a lt is = absurd (omega (arith, lt))
places_at (q ∷ ps) [] i p a lt is = absurd a
places_at (q ∷ ps) (s ∷ ss) zero p a lt is = subst (λ (x : Places). IsPlaces x s) (sym is) a.0
places_at (q ∷ ps) (s ∷ ss) (suc i) p a lt is = places_at ps ss i p a.1 (omega (arith, lt)) is

pub places_past : (ps : List Places) (ss : List ShapeTree) (i : ℕ) → ArePlaces ps ss → length ps ≤ i → shape_at ss i ≡ no_shape
places_past [] [] i a le = refl
places_past [] (s ∷ ss) i a le = absurd a
places_past (q ∷ ps) [] i a le = absurd a
places_past (q ∷ ps) (s ∷ ss) zero a le = absurd (omega (arith, le))
places_past (q ∷ ps) (s ∷ ss) (suc i) a le = places_past ps ss i a.1 (omega (arith, le))
