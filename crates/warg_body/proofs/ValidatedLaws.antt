-- What comes from a checked stream, one piece after another.
use Rattle.std.proofs.Common.{◌≡◌, ◌≢◌, ℕ, List, [], ◌∷◌, ◌++◌, true, false, refl, sym, ap, subst, ◌∙◌, inl, inr, append_assoc}
use Rattle.std.specs.Prelude.{Option, Some, None, Ok, IfSome}
use Rattle.std.proofs.lemmas.List.{append-nil}
use Rattle.sha2.specs.Sha256.{sha256}
use Rattle.futures.specs.Runs.{Runs, After, Ends}
use Rattle.warg_body.specs.Validated.{Piece, CheckedPiece, Validates, Follows, content, wrong_digest}

-- a piece in front of what comes behind it
pub piece_first : (source rest : Runs Piece) (expected before bytes : List ℕ) (xs : List CheckedPiece) (last : Option CheckedPiece)
    → After source (Ok bytes) rest → Validates rest expected (before ++ bytes) false xs last → Validates source expected before false (Ok bytes ∷ xs) last
piece_first source rest expected before bytes xs last after (inl p) = inl (record {
  pieces = Ok bytes ∷ p.pieces;
  next = p.next;
  came = after p.pieces p.next p.came;
  items = ap (λ (ys : List CheckedPiece). Ok bytes ∷ ys) p.items;
  follows = subst (λ (all : List ℕ). Follows expected all p.next last) (append_assoc before bytes (content p.pieces)) p.follows;
})
piece_first source rest expected before bytes xs last after (inr r) =
    let all : (before ++ bytes) ++ content r.pieces ≡ before ++ (bytes ++ content r.pieces) = append_assoc before bytes (content r.pieces) in
    inr (record {
      pieces = Ok bytes ∷ r.pieces;
      came = after r.pieces None r.came;
      wrong = subst (λ (b : List ℕ). sha256 b ≢ expected) all r.wrong;
      items = ap (λ (ys : List CheckedPiece). Ok bytes ∷ ys) (rw all at r.items);
      end = r.end;
    })

-- at the source's end the judgement of all bytes is the last item
pub judged_last : (source : Runs Piece) (expected before : List ℕ) (x : CheckedPiece) (xs : List CheckedPiece) (last : Option CheckedPiece)
    → source [] None → Follows expected before None (Some x) → Ends xs last → Validates source expected before false (x ∷ xs) last
judged_last source expected before x xs last came (inl right) ended = absurd cc
judged_last source expected before x xs last came (inr wrong) ended =
    let all : before ++ [] ≡ before = append-nil before in
    inr (record {
      pieces = [];
      came = came;
      wrong = subst (λ (b : List ℕ). sha256 b ≢ expected) (sym all) wrong.0;
      items = rw (all, ended.0) cc;
      end = ended.1;
    })

-- what may come behind the item that was given, if one was
pub if_given : (result : Option CheckedPiece) (old new : Runs CheckedPiece) → ((x : CheckedPiece) (xs : List CheckedPiece) (last : Option CheckedPiece) → result ≡ Some x → new xs last → old (x ∷ xs) last) → IfSome result (λ x. After old x new)
if_given (Some x) old new gives = λ xs last comes. gives x xs last refl comes
if_given None old new gives = tt
