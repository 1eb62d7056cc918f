-- Sets of things.
use Rattle.std.proofs.Common.{◌≡◌, ℕ, zero, suc, ◌+◌, ◌<◌, Bool, true, false, List, [], ◌∷◌, ◌++◌, length, take, drop, refl, sym, ap, subst, ◌∙◌, arith, slice_index_or, get_or, append_assoc}
use Rattle.std.specs.Prelude.{◌&&◌}
use Rattle.std.specs.List.{list_all}
use Rattle.std.specs.BTreeSet.{BTreeSet, Updates}
use Rattle.std.proofs.lemmas.List.{take_more}
use Rattle.compose_left.specs.declared.spots.Thing.{Thing}
use Rattle.compose_left.specs.Wired.{thing_cmp}
use Rattle.compose_needs.specs.Seen.{Holds}
use Rattle.compose_needs.specs.ThingLaws.{holds_more}
use Rattle.compose_needs.specs.Mentioned.{has}
use Rattle.compose_needs.specs.Tied.{are_tied, named_in}
use Rattle.compose_needs.specs.declared.place.Place.{Place}

pub holds_take : (old new : BTreeSet Thing) (s xs : List Thing) (i : ℕ) (d : Thing) → i < length xs → Holds old (s ++ take i xs) → Updates thing_cmp old new (get_or xs i d) true → Holds new (s ++ take (i + 1) xs)
holds_take old new s xs i d lt h u =
    subst (λ ts. Holds new ts) (append_assoc s (take i xs) (get_or xs i d ∷ []) ∙ ap (λ ys. s ++ ys) (sym (take_more xs i d lt))) (holds_more old new (s ++ take i xs) (get_or xs i d) h u)

pub next_front : {X : Type 0} (s xs : List X) (i : ℕ) (x : X) → i < length xs → x ≡ slice_index_or xs i x → s ++ take (i + 1) xs ≡ (s ++ take i xs) ++ x ∷ []
next_front s xs i x lt is = ap (λ ys. s ++ ys) (take_more xs i x lt ∙ ap (λ y. take i xs ++ y ∷ []) (sym is)) ∙ sym (append_assoc s (take i xs) (x ∷ []))

-- what a loop has left: the item at hand, and those behind it
pub left : {X : Type 0} (xs : List X) (i : ℕ) (x : X) → i < length xs → x ≡ slice_index_or xs i x → drop i xs ≡ x ∷ drop (i + 1) xs
left xs i x lt is = let next : suc i ≡ i + 1 = omega arith in at xs i x lt is ∙ ap (λ j. x ∷ drop j xs) next
  where
    at : {X : Type 0} (xs : List X) (i : ℕ) (x : X) → i < length xs → x ≡ slice_index_or xs i x → drop i xs ≡ x ∷ drop (suc i) xs
    at [] i x lt is = absurd (omega (arith, lt))
    at (y ∷ xs) zero x lt is = λ k. sym is k ∷ xs
    at (y ∷ xs) (suc i) x lt is = at xs i x (omega (arith, lt)) is

pub nothing_left : {X : Type 0} (xs : List X) (i : ℕ) → i ≡ length xs → drop i xs ≡ []
nothing_left [] zero e = refl
nothing_left [] (suc i) e = absurd (omega (arith, e))
nothing_left (x ∷ xs) zero e = absurd (omega (arith, e))
nothing_left (x ∷ xs) (suc i) e = nothing_left xs i (omega (arith, e))

named_push : (ps : List Place) (p : Place) → named_in (ps ++ p ∷ []) ≡ named_in ps ++ p.named
named_push [] p = one p.named
  where
    one : (ts : List Thing) → ts ++ [] ≡ ts
    one [] = refl
    one (t ∷ ts) = ap (λ us. t ∷ us) (one ts)
named_push (q ∷ ps) p = ap (λ ts. q.named ++ ts) (named_push ps p) ∙ sym (append_assoc q.named (named_in ps) p.named)

pub named_more : (s : List Thing) (ps : List Place) (i : ℕ) (p : Place) → i < length ps → p ≡ slice_index_or ps i p → s ++ named_in (take (i + 1) ps) ≡ (s ++ named_in (take i ps)) ++ p.named
named_more s ps i p lt is =
    ap (λ qs. s ++ named_in qs) (take_more ps i p lt ∙ ap (λ q. take i ps ++ q ∷ []) (sym is))
    ∙ ap (λ ts. s ++ ts) (named_push (take i ps) p) ∙ sym (append_assoc s (named_in (take i ps)) p.named)

-- a place more is tied, or not
pub tied_step : (s : List Thing) (ps : List Place) (i : ℕ) (p : Place) → i < length ps → p ≡ slice_index_or ps i p
    → are_tied s (drop i ps) ≡ (list_all (has (s ++ p.named)) p.asked && are_tied (s ++ p.named) (drop (i + 1) ps))
tied_step s ps i p lt is = ap (are_tied s) (left ps i p lt is)

-- what is left of what is asked, where one more was seen, or was not
asked_at : (s xs : List Thing) (i : ℕ) (d : Thing) → i < length xs → list_all (has s) (drop i xs) ≡ (has s (get_or xs i d) && list_all (has s) (drop (i + 1) xs))
asked_at s xs i d lt = ap (list_all (has s)) (left xs i (get_or xs i d) lt (same xs i d lt))
  where
    same : (xs : List Thing) (i : ℕ) (d : Thing) → i < length xs → get_or xs i d ≡ slice_index_or xs i (get_or xs i d)
    same [] i d lt = absurd (omega (arith, lt))
    same (x ∷ xs) zero d lt = refl
    same (x ∷ xs) (suc i) d lt = same xs i d (omega (arith, lt))

pub asked_fails : (s xs : List Thing) (i : ℕ) (d : Thing) (all : Bool) → i < length xs → has s (get_or xs i d) ≡ false → list_all (has s) (drop i xs) ≡ all → false ≡ all
asked_fails s xs i d all lt fails h = sym (asked_at s xs i d lt ∙ ap (λ b. b && list_all (has s) (drop (i + 1) xs)) fails) ∙ h

pub asked_passes : (s xs : List Thing) (i : ℕ) (d : Thing) (all : Bool) → i < length xs → has s (get_or xs i d) ≡ true → list_all (has s) (drop i xs) ≡ all → list_all (has s) (drop (i + 1) xs) ≡ all
asked_passes s xs i d all lt yes_ h = sym (asked_at s xs i d lt ∙ ap (λ b. b && list_all (has s) (drop (i + 1) xs)) yes_) ∙ h

pub tied_passes : (s u : List Thing) (ps : List Place) (i : ℕ) (p : Place) (all : Bool) → i < length ps → p ≡ slice_index_or ps i p → u ≡ s ++ p.named → list_all (has (s ++ p.named)) p.asked ≡ true
    → are_tied s (drop i ps) ≡ all → are_tied u (drop (i + 1) ps) ≡ all
tied_passes s u ps i p all lt is more_ passes h =
    ap (λ ts. are_tied ts (drop (i + 1) ps)) more_ ∙ sym (tied_step s ps i p lt is ∙ ap (λ b. b && are_tied (s ++ p.named) (drop (i + 1) ps)) passes) ∙ h

pub tied_fails : (s : List Thing) (ps : List Place) (i : ℕ) (p : Place) (all : Bool) → i < length ps → p ≡ slice_index_or ps i p → list_all (has (s ++ p.named)) p.asked ≡ false
    → are_tied s (drop i ps) ≡ all → false ≡ all
tied_fails s ps i p all lt is fails h = sym (tied_step s ps i p lt is ∙ ap (λ b. b && are_tied (s ++ p.named) (drop (i + 1) ps)) fails) ∙ h
