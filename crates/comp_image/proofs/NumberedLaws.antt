-- Laws of index spaces that are kept apart.
use Rattle.std.proofs.Common.{◌≡◌, ◌<◌, ℕ, Bool, true, false, cond, List, [], ◌∷◌, ◌++◌, length, map, refl, sym, ◌∙◌, ap, subst}
use Rattle.std.specs.Prelude.{Vec, ◌==◌, get_or, set}
use Rattle.std.specs.Global.{Global}
use Rattle.std.specs.List.{filter}
use Rattle.std.proofs.lemmas.Bool.{eqb-true, eqb-false}
use Rattle.std.proofs.lemmas.List.{get_or-set_same, get_or-set_other, map-set, map-append, length-map, append-nil}
use Rattle.std.proofs.lemmas.List.Elements.{filter-append}
use Rattle.comp_format.specs.declared.types.Sort.{Sort}
use Rattle.comp_format.specs.Spaces.{space_of}
use Rattle.comp_scope.specs.Image as scope
use Rattle.comp_scope.specs.Image.{space}
use Rattle.comp_image.specs.declared.numbered.Indexed.{Indexed}
use Rattle.comp_image.specs.Numbered.{IsEntry, NumberAll, indexed_of, items_of}

-- an item more is in the index space of its sort alone
if_same : Bool → scope.Indexed → List scope.Indexed
if_same true of = of ∷ []
if_same false of = []

space_more : (kind s : Sort) (of : scope.Indexed) (es : List IsEntry) → space kind (es ++ (s, of) ∷ []) ≡ space kind es ++ if_same (space_of s == space_of kind) of
unfolding if_same
space_more kind s of es =
    ap (map (λ e. e.1)) (filter-append (λ (e : IsEntry). space_of e.0 == space_of kind) es ((s, of) ∷ []))
    ∙ map-append (λ (e : IsEntry). e.1) (filter (λ (e : IsEntry). space_of e.0 == space_of kind) es) (filter (λ (e : IsEntry). space_of e.0 == space_of kind) ((s, of) ∷ []))
    ∙ ap (λ l. space kind es ++ l) (one (space_of s == space_of kind))
  where
    one : (b : Bool) → map (λ (e : IsEntry). e.1) (cond b ((s, of) ∷ []) []) ≡ if_same b of
    one true = refl
    one false = refl

pub pushed : (spaces : List (Vec Indexed Global)) (v : Vec Indexed Global) (n : ℕ) (of : Indexed) (es : List IsEntry) (s : Sort) → n ≡ space_of s → n < length spaces → v.items ≡ get_or (items_of spaces) n [] ++ of ∷ [] → NumberAll (items_of spaces) es
    → NumberAll (items_of (set spaces n v)) (es ++ (s, indexed_of of) ∷ [])
unfolding if_same
pushed spaces v n of es s is lt new old kind = by (space_of s == space_of kind) refl
  where
    there : n < length (items_of spaces)
    there = subst (λ m. n < m) (sym (length-map spaces (λ (s : Vec Indexed Global). s.items))) lt

    written : items_of (set spaces n v) ≡ set (items_of spaces) n v.items
    written = map-set (λ (s : Vec Indexed Global). s.items) spaces n v

    by : (b : Bool) → (space_of s == space_of kind) ≡ b → map indexed_of (get_or (items_of (set spaces n v)) (space_of kind) []) ≡ space kind (es ++ (s, indexed_of of) ∷ [])
    by true e =
        let k : n ≡ space_of kind = is ∙ eqb-true (space_of s) (space_of kind) e in
        ap (λ (j : ℕ). map indexed_of (get_or (items_of (set spaces n v)) j [])) (sym k)
        ∙ ap (λ (l : List (List Indexed)). map indexed_of (get_or l n [])) written
        ∙ ap (map indexed_of) (get_or-set_same (items_of spaces) n v.items [] there)
        ∙ ap (map indexed_of) new
        ∙ map-append indexed_of (get_or (items_of spaces) n []) (of ∷ [])
        ∙ ap (λ (l : List scope.Indexed). l ++ indexed_of of ∷ []) (ap (λ (j : ℕ). map indexed_of (get_or (items_of spaces) j [])) k ∙ old kind)
        ∙ sym (space_more kind s (indexed_of of) es ∙ ap (λ (b : Bool). space kind es ++ if_same b (indexed_of of)) e)
    by false e =
        ap (λ (l : List (List Indexed)). map indexed_of (get_or l (space_of kind) [])) written
        ∙ ap (map indexed_of) (get_or-set_other (items_of spaces) n (space_of kind) v.items [] (λ q. eqb-false (space_of s) (space_of kind) e (sym is ∙ sym q)))
        ∙ old kind
        ∙ sym (append-nil (space kind es))
        ∙ sym (space_more kind s (indexed_of of) es ∙ ap (λ (b : Bool). space kind es ++ if_same b (indexed_of of)) e)
