-- A checked content that ended without an error is whole, and has the digest that was asked for.
use Rattle.std.proofs.Common.{◌≡◌, ◌≢◌, ℕ, List, [], ◌∷◌, ◌++◌, false, map, refl, sym, ap, ◌∙◌, inl, inr}
use Rattle.std.specs.Prelude.{Option, Some, None, Ok, Err}
use Rattle.std.specs.List.{flat_map}
use Rattle.sha2.specs.Sha256.{sha256}
use Rattle.futures.specs.Runs.{Runs}
use Rattle.warg_body.specs.Validated.{Piece, CheckedPiece, Validates, Follows, passed, content, wrong_digest}

-- pieces, all of which came
abbrev pub came : List (List ℕ) → List CheckedPiece
came pieces = map Ok pieces

-- pieces that were passed on without an error hold the source's bytes
passed_content : (pieces : List (List ℕ)) (source : List Piece) → came pieces ≡ map passed source → content source ≡ flat_map (λ p. p) pieces
passed_content [] [] is = refl
passed_content [] (Ok bytes ∷ source) is = absurd cc
passed_content [] (Err e ∷ source) is = absurd cc
passed_content (piece ∷ pieces) [] is = absurd cc
passed_content (piece ∷ pieces) (Ok bytes ∷ source) is =
    let rest : content source ≡ flat_map (λ p. p) pieces = passed_content pieces source cc in
    let same : bytes ≡ piece = cc in
    rw (rest, same) refl
passed_content (piece ∷ pieces) (Err e ∷ source) is = absurd cc

-- no error stands among pieces that came
no_error : (pieces : List (List ℕ)) (source : List Piece) (expected bytes : List ℕ) → came pieces ≢ map passed source ++ wrong_digest expected bytes ∷ []
no_error [] [] expected bytes is = absurd cc
no_error [] (piece ∷ source) expected bytes is = absurd cc
no_error (piece ∷ pieces) [] expected bytes is = absurd cc
no_error (piece ∷ pieces) (first ∷ source) expected bytes is = no_error pieces source expected bytes cc

judged : (expected bytes : List ℕ) (next : Option Piece) → Follows expected bytes next None → sha256 bytes ≡ expected
judged expected bytes (Some piece) h = absurd cc
judged expected bytes None (inl right) = right.0
judged expected bytes None (inr wrong) = absurd cc

pub whole : (source : Runs Piece) (expected : List ℕ) (pieces : List (List ℕ)) → Validates source expected [] false (came pieces) None
    → sha256 (flat_map (λ p. p) pieces) ≡ expected
whole source expected pieces (inl p) = ap sha256 (sym (passed_content pieces p.pieces p.items)) ∙ judged expected (content p.pieces) p.next p.follows
whole source expected pieces (inr r) = absurd (no_error pieces r.pieces expected (content r.pieces) r.items)
