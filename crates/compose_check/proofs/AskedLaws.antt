-- What instances ask by their imports, one after the other.
use Rattle.std.proofs.Common.{◌≡◌, ℕ, suc, ◌+◌, ◌<◌, List, [], ◌∷◌, ◌++◌, length, length-take-le, take, get_or, sym, ap, ◌∙◌, arith}
use Rattle.std.specs.Borrow.{Bor}
use Rattle.std.proofs.lemmas.List.{append-nil, append_assoc, length-map, map-append, take_more}
use Rattle.comp_entity.specs.Entity.{ShapeTree}
use Rattle.comp_entity.specs.declared.entity.Entity.{Entity}
use Rattle.comp_entity.specs.declared.entity.Shape.{Shape}
use Rattle.comp_entity.specs.Views.{entity_tree, named_entities}
use Rattle.compose_left.specs.Wiring.{Wiring, lent_shape, shapes_of}
use Rattle.compose_check.specs.Open.{Asked, asked_by, asked_by_all, asked_from}

asked_push : (w : Wiring) (instance import : ℕ) (es : List Asked) (e : Asked) (j : ℕ) → import + length es ≡ j → asked_from w instance import (es ++ e ∷ []) ≡ asked_from w instance import es ++ asked_by w instance j e
asked_push w instance import [] e j is =
    let same : import ≡ j = omega (arith, is) in
    append-nil (asked_by w instance import e) ∙ ap (λ k. asked_by w instance k e) same
asked_push w instance import (x ∷ es) e j is =
    ap (λ xs. asked_by w instance import x ++ xs) (asked_push w instance (suc import) es e j (omega (arith, is)))
    ∙ sym (append_assoc (asked_by w instance import x) (asked_from w instance (suc import) es) (asked_by w instance j e))

asked_all_push : (w : Wiring) (instance : ℕ) (ss : List ShapeTree) (s : ShapeTree) (j : ℕ) → instance + length ss ≡ j → asked_by_all w instance (ss ++ s ∷ []) ≡ asked_by_all w instance ss ++ asked_from w j 0 s.imports
asked_all_push w instance [] s j is =
    let same : instance ≡ j = omega (arith, is) in
    append-nil (asked_from w instance 0 s.imports) ∙ ap (λ k. asked_from w k 0 s.imports) same
asked_all_push w instance (x ∷ ss) s j is =
    ap (λ xs. asked_from w instance 0 x.imports ++ xs) (asked_all_push w (suc instance) ss s j (omega (arith, is)))
    ∙ sym (append_assoc (asked_from w instance 0 x.imports) (asked_by_all w (suc instance) ss) (asked_from w j 0 s.imports))

take_next : {X : Type 0} (xs : List X) (i : ℕ) (x : X) → i < length xs → x ≡ get_or xs i x → take (i + 1) xs ≡ take i xs ++ x ∷ []
take_next xs i x below is = take_more xs i x below ∙ ap (λ y. take i xs ++ y ∷ []) (sym is)

taken : {X : Type 0} (xs : List X) (i : ℕ) → i < length xs → length (take i xs) ≡ i
taken xs i below = length-take-le i xs (omega (arith, below))

abbrev tree_of : List ℕ × Entity → Asked
tree_of e = (e.0, entity_tree e.1)

-- one import more
pub asked_more : (w : Wiring) (instance : ℕ) (imports : List (List ℕ × Entity)) (i : ℕ) (e : List ℕ × Entity) → i < length imports → e ≡ get_or imports i e
    → asked_from w instance 0 (named_entities (take i imports)) ++ asked_by w instance i (e.0, entity_tree e.1) ≡ asked_from w instance 0 (named_entities (take (i + 1) imports))
asked_more w instance imports i e below is =
    let size = length-map (take i imports) tree_of in
    let count = taken imports i below in
    sym (ap (λ es. asked_from w instance 0 (named_entities es)) (take_next imports i e below is)
    ∙ ap (asked_from w instance 0) (map-append tree_of (take i imports) (e ∷ []))
    ∙ asked_push w instance 0 (named_entities (take i imports)) (e.0, entity_tree e.1) i (omega (arith, size, count)))

-- one instance more
pub all_more : (w : Wiring) (shapes : List (Bor Shape)) (i : ℕ) (s : Bor Shape) → i < length shapes → s ≡ get_or shapes i s
    → asked_by_all w 0 (shapes_of (take i shapes)) ++ asked_from w i 0 (named_entities s.now.imports.items) ≡ asked_by_all w 0 (shapes_of (take (i + 1) shapes))
all_more w shapes i s below is =
    let size = length-map (take i shapes) lent_shape in
    let count = taken shapes i below in
    sym (ap (λ ss. asked_by_all w 0 (shapes_of ss)) (take_next shapes i s below is)
    ∙ ap (asked_by_all w 0) (map-append lent_shape (take i shapes) (s ∷ []))
    ∙ asked_all_push w 0 (shapes_of (take i shapes)) (lent_shape s) i (omega (arith, size, count)))
