-- Pieces of a stream, one behind the other.
use Rattle.std.proofs.Common.{◌≡◌, ℕ, List, [], ◌∷◌, ◌++◌, map, refl, sym, ap, subst, ◌∙◌, append_assoc}
use Rattle.std.specs.Prelude.{Option, Some, None, Ok}
use Rattle.std.specs.List.{flat_map}
use Rattle.std.proofs.lemmas.List.{append-nil, map-append}
use Rattle.futures.specs.Runs.{Runs, After}
use Rattle.warg_body.specs.Validated.{CheckedPiece}

-- what was read of a stream, and what may still come
pub record IsRead (whole rest : Runs CheckedPiece) (content : List ℕ) : Type 0 where
  pub pieces : List (List ℕ)
  pub joined : content ≡ flat_map (λ p. p) pieces
  pub behind : (xs : List CheckedPiece) (last : Option CheckedPiece) → rest xs last → whole (map Ok pieces ++ xs) last

pub nothing_read : (whole : Runs CheckedPiece) (content : List ℕ) → content ≡ [] → IsRead whole whole content
nothing_read whole content none = record { pieces = []; joined = none; behind = λ xs last comes. comes }

flat_map-append : (front back : List (List ℕ)) → flat_map (λ p. p) (front ++ back) ≡ flat_map (λ p. p) front ++ flat_map (λ p. p) back
flat_map-append [] back = refl
flat_map-append (p ∷ front) back = ap (λ (l : List ℕ). p ++ l) (flat_map-append front back) ∙ sym (append_assoc p (flat_map (λ p. p) front) (flat_map (λ p. p) back))

pub piece_read : (whole before after : Runs CheckedPiece) (content bytes new : List ℕ) → IsRead whole before content → After before (Ok bytes) after
    → new ≡ content ++ bytes → IsRead whole after new
piece_read whole before after content bytes new read behind is = record {
  pieces = read.pieces ++ bytes ∷ [];
  joined = is ∙ ap (λ (l : List ℕ). l ++ bytes) read.joined ∙ ap (λ (l : List ℕ). flat_map (λ p. p) read.pieces ++ l) (sym (append-nil bytes)) ∙ sym (flat_map-append read.pieces (bytes ∷ []));
  behind = λ xs last comes.
      subst (λ (items : List CheckedPiece). whole items last)
      (sym (append_assoc (map Ok read.pieces) (Ok bytes ∷ []) xs) ∙ ap (λ (l : List CheckedPiece). l ++ xs) (sym (map-append Ok read.pieces (bytes ∷ []))))
      (read.behind (Ok bytes ∷ xs) last (behind xs last comes));
}

pub all_read : (whole rest : Runs CheckedPiece) (content : List ℕ) → IsRead whole rest content → rest [] None
    → (pieces : List (List ℕ)) × (content ≡ flat_map (λ p. p) pieces) × whole (map Ok pieces) None
all_read whole rest content read ended =
    (read.pieces, read.joined, subst (λ (items : List CheckedPiece). whole items None) (append-nil (map Ok read.pieces)) (read.behind [] None ended))
