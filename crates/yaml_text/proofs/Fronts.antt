-- Fronts of a text, of a part of it, and behind a part of it.
use Rattle.std.proofs.Common.{◌≡◌, ℕ, suc, ◌-◌, ◌<◌, Result, Ok, Err, List, [], ◌∷◌, ◌++◌, length, take, drop, get_or, flat_map, refl, sym, ap, ◌∙◌, append_assoc, append-nil, drop-cons, arith}
use Rattle.std.specs.Prelude.{replicate}
use Rattle.std.proofs.lemmas.List.{take-append-drop, replicate-append-replicate}
use Rattle.std.proofs.lemmas.List.Concat.{flat_map-append}
use Rattle.yaml_text.specs.Output.{HoldsFront, Writes}

pub front_none : (old text new : List ℕ) → new ≡ old → HoldsFront old text new
front_none old text new e = record { front = []; rest = text; grown = e ∙ sym (append-nil old); is_front = refl }

pub front_before : (old text more new : List ℕ) → HoldsFront old text new → HoldsFront old (text ++ more) new
front_before old text more new h = record {
  front = h.front;
  rest = h.rest ++ more;
  grown = h.grown;
  is_front = sym (append_assoc h.front h.rest more) ∙ ap (λ (xs : List ℕ). xs ++ more) h.is_front;
}

pub front_after : (old done text new : List ℕ) → HoldsFront (old ++ done) text new → HoldsFront old (done ++ text) new
front_after old done text new h = record {
  front = done ++ h.front;
  rest = h.rest;
  grown = h.grown ∙ append_assoc old done h.front;
  is_front = append_assoc done h.front h.rest ∙ ap (λ (xs : List ℕ). done ++ xs) h.is_front;
}

-- a text that is a list's pieces in turn
pieces : (f : ℕ → List ℕ) (xs cs : List ℕ) (c : ℕ) → xs ≡ take (length xs) cs → length xs < length cs → c ≡ get_or cs (length xs) c
    → flat_map f cs ≡ flat_map f xs ++ (f c ++ flat_map f (drop (suc (length xs)) cs))
pieces f xs cs c so_far less here =
    let whole : cs ≡ xs ++ (c ∷ drop (suc (length xs)) cs) =
    sym (take-append-drop (length xs) cs) ∙ ap (λ (ys : List ℕ). ys ++ drop (length xs) cs) (sym so_far)
    ∙ ap (λ (ys : List ℕ). xs ++ ys) (drop-cons cs (length xs) c less ∙ ap (λ (d : ℕ). d ∷ drop (suc (length xs)) cs) (sym here)) in
    ap (flat_map f) whole ∙ flat_map-append f xs (c ∷ drop (suc (length xs)) cs)

pub front_piece : (f : ℕ → List ℕ) (xs cs : List ℕ) (c : ℕ) (old now new : List ℕ) → xs ≡ take (length xs) cs → length xs < length cs → c ≡ get_or cs (length xs) c
    → now ≡ old ++ flat_map f xs → HoldsFront now (f c) new → HoldsFront old (flat_map f cs) new
front_piece f xs cs c old now new so_far less here at h =
    let last : HoldsFront (old ++ flat_map f xs) (f c) new = rw at at h in
    rw (pieces f xs cs c so_far less here) (front_after old (flat_map f xs) _ new (front_before (old ++ flat_map f xs) (f c) _ new last))

pub piece_more : (f : ℕ → List ℕ) (xs : List ℕ) (c : ℕ) (old now new : List ℕ) → now ≡ old ++ flat_map f xs → new ≡ now ++ f c
    → new ≡ old ++ flat_map f (xs ++ (c ∷ []))
piece_more f xs c old now new at grown =
    grown ∙ ap (λ (ys : List ℕ). ys ++ f c) at ∙ append_assoc old (flat_map f xs) (f c)
    ∙ ap (λ (ys : List ℕ). old ++ ys) (sym (flat_map-append f xs (c ∷ []) ∙ ap (λ (ys : List ℕ). flat_map f xs ++ ys) (append-nil (f c))))

pub front_spaces : (i n : ℕ) (old new : List ℕ) → i < n → new ≡ old ++ replicate i 32 → HoldsFront old (replicate n 32) new
front_spaces i n old new less at = record {
  front = replicate i 32;
  rest = replicate (n - i) 32;
  grown = at;
  is_front = replicate-append-replicate i (n - i) 32 ∙ ap (λ (m : ℕ). replicate m 32) (omega arith);
}

-- a text behind one that was written
pub writes_after : {E : Type 0} (result : Result (Unit {0}) E) (old done now text new : List ℕ) → now ≡ old ++ done → Writes result now text new → Writes result old (done ++ text) new
writes_after (Ok u) old done now text new at h = h ∙ ap (λ (xs : List ℕ). xs ++ text) at ∙ append_assoc old done text
writes_after (Err e) old done now text new at h = let last : HoldsFront (old ++ done) text new = rw at at h in front_after old done text new last
