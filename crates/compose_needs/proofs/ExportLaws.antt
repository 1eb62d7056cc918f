-- What exports mention, one after the other.
use Rattle.std.proofs.Common.{◌≡◌, ℕ, ◌+◌, ◌<◌, Bool, true, false, cond, List, [], ◌∷◌, ◌++◌, length, take, drop, slice_index_or, Option, Some, None, refl, sym, ap, ◌∙◌, append_assoc}
use Rattle.std.proofs.lemmas.List.{map-append, take_more}
use Rattle.comp_entity.specs.declared.entity.Entity.{Entity}
use Rattle.comp_entity.specs.Views.{entity_tree, named_entities}
use Rattle.compose_left.specs.declared.spots.Thing.{Thing}
use Rattle.compose_needs.specs.Exports.{NamedEntity, export_hides, given_places, is_side_tied, own_places, side_hides, sides_named}
use Rattle.compose_needs.specs.Lefts.{Lefts}
use Rattle.compose_needs.specs.Tied.{are_tied, named_in}
use Rattle.compose_needs.proofs.SeenLaws.{left}

no_more : (ts : List Thing) → ts ++ [] ≡ ts
no_more [] = refl
no_more (t ∷ ts) = ap (λ us. t ∷ us) (no_more ts)

named_push : (es : List NamedEntity) (e : NamedEntity) → sides_named (es ++ e ∷ []) ≡ sides_named es ++ named_in (own_places e.1)
named_push [] e = no_more (named_in (own_places e.1))
named_push (f ∷ es) e = ap (λ ts. named_in (own_places f.1) ++ ts) (named_push es e) ∙ sym (append_assoc (named_in (own_places f.1)) (sides_named es) (named_in (own_places e.1)))

module _ (s : List Thing) (xs : List (List ℕ × Entity)) (i : ℕ) (x : List ℕ × Entity) (lt : i < length xs) (is : x ≡ slice_index_or xs i x) where
  pub sides_more : s ++ sides_named (named_entities (take (i + 1) xs)) ≡ (s ++ sides_named (named_entities (take i xs))) ++ named_in (own_places (entity_tree x.1))
  sides_more =
      ap (λ ys. s ++ sides_named (named_entities ys)) (take_more xs i x lt ∙ ap (λ y. take i xs ++ y ∷ []) (sym is))
      ∙ ap (λ es. s ++ sides_named es) (map-append (λ (e : List ℕ × Entity). (e.0, entity_tree e.1)) (take i xs) (x ∷ []))
      ∙ ap (λ ts. s ++ ts) (named_push (named_entities (take i xs)) (x.0, entity_tree x.1)) ∙ sym (append_assoc s (sides_named (named_entities (take i xs))) (named_in (own_places (entity_tree x.1))))

  pub side_passes : (all : Option (List ℕ)) → is_side_tied s (entity_tree x.1) ≡ true → side_hides s (named_entities (drop i xs)) ≡ all → side_hides (s ++ named_in (own_places (entity_tree x.1))) (named_entities (drop (i + 1) xs)) ≡ all
  side_passes all passes h = sym (ap (λ ys. side_hides s (named_entities ys)) (left xs i x lt is) ∙ ap (λ b. cond b (side_hides (s ++ named_in (own_places (entity_tree x.1))) (named_entities (drop (i + 1) xs))) (Some x.0)) passes) ∙ h

  pub side_fails : (all : Option (List ℕ)) → is_side_tied s (entity_tree x.1) ≡ false → side_hides s (named_entities (drop i xs)) ≡ all → Some x.0 ≡ all
  side_fails all fails h = sym (ap (λ ys. side_hides s (named_entities ys)) (left xs i x lt is) ∙ ap (λ b. cond b (side_hides (s ++ named_in (own_places (entity_tree x.1))) (named_entities (drop (i + 1) xs))) (Some x.0)) fails) ∙ h

  pub export_passes : (from : Lefts) (all : Option (List ℕ)) → are_tied s (given_places from (entity_tree x.1)) ≡ true → export_hides from s (named_entities (drop i xs)) ≡ all → export_hides from (s ++ named_in (given_places from (entity_tree x.1))) (named_entities (drop (i + 1) xs)) ≡ all
  export_passes from all passes h = sym (ap (λ ys. export_hides from s (named_entities ys)) (left xs i x lt is) ∙ ap (λ b. cond b (export_hides from (s ++ named_in (given_places from (entity_tree x.1))) (named_entities (drop (i + 1) xs))) (Some x.0)) passes) ∙ h

  pub export_fails : (from : Lefts) (all : Option (List ℕ)) → are_tied s (given_places from (entity_tree x.1)) ≡ false → export_hides from s (named_entities (drop i xs)) ≡ all → Some x.0 ≡ all
  export_fails from all fails h = sym (ap (λ ys. export_hides from s (named_entities ys)) (left xs i x lt is) ∙ ap (λ b. cond b (export_hides from (s ++ named_in (given_places from (entity_tree x.1))) (named_entities (drop (i + 1) xs))) (Some x.0)) fails) ∙ h

-- imports, and then exports
pub sides_some : (s : List Thing) (is es : List NamedEntity) (n : List ℕ) → side_hides s is ≡ Some n → side_hides s (is ++ es) ≡ Some n
sides_some s [] es n h = absurd cc
sides_some s (e ∷ is) es n h = one (is_side_tied s e.1) h (sides_some (s ++ named_in (own_places e.1)) is es n)
  where
    one : (b : Bool) → cond b (side_hides (s ++ named_in (own_places e.1)) is) (Some e.0) ≡ Some n → (side_hides (s ++ named_in (own_places e.1)) is ≡ Some n → side_hides (s ++ named_in (own_places e.1)) (is ++ es) ≡ Some n)
        → cond b (side_hides (s ++ named_in (own_places e.1)) (is ++ es)) (Some e.0) ≡ Some n
    one true h rest = rest h
    one false h rest = h

pub sides_none : (s : List Thing) (is es : List NamedEntity) → side_hides s is ≡ None → side_hides s (is ++ es) ≡ side_hides (s ++ sides_named is) es
sides_none s [] es h = ap (λ ts. side_hides ts es) (sym (no_more s))
sides_none s (e ∷ is) es h = one (is_side_tied s e.1) h (sides_none (s ++ named_in (own_places e.1)) is es)
  where
    one : (b : Bool) → cond b (side_hides (s ++ named_in (own_places e.1)) is) (Some e.0) ≡ None → (side_hides (s ++ named_in (own_places e.1)) is ≡ None → side_hides (s ++ named_in (own_places e.1)) (is ++ es) ≡ side_hides ((s ++ named_in (own_places e.1)) ++ sides_named is) es)
        → cond b (side_hides (s ++ named_in (own_places e.1)) (is ++ es)) (Some e.0) ≡ side_hides (s ++ sides_named (e ∷ is)) es
    one true h rest = rest h ∙ ap (λ ts. side_hides ts es) (append_assoc s (named_in (own_places e.1)) (sides_named is))
    one false h rest = absurd cc
