-- What comes from a stream whose content is checked: the source's items in order, and behind them an error where the content has
-- another digest than the one that was asked for.
use Rattle.std.specs.Prelude.{◌≡◌, ◌≢◌, Bool, true, false, List, [], ◌∷◌, ◌++◌, ℕ, map, Option, Some, None, Result, Ok, Err, ◌⊎◌}
use Rattle.std.specs.List.{flat_map}
use Rattle.sha2.specs.Sha256.{sha256}
use Rattle.futures.specs.Runs.{Runs, Ends}
use Rattle.warg_body.specs.declared.error.LinkError.{LinkError}
use Rattle.warg_body.specs.declared.error.LinkError.TheVariants as link
use Rattle.warg_body.specs.declared.error.StreamError.{StreamError}
use Rattle.warg_body.specs.declared.error.StreamError.TheVariants as stream

-- a piece of a body, or why it did not come: from a link, and from a stream that checks
abbrev pub Piece : Type 0
Piece = Result (List ℕ) LinkError

abbrev pub CheckedPiece : Type 0
CheckedPiece = Result (List ℕ) StreamError

abbrev pub passed_error : LinkError → StreamError
passed_error link.Failed = stream.Failed
passed_error link.Memory = stream.Memory

-- a piece, passed on
abbrev pub passed : Piece → CheckedPiece
passed (Ok bytes) = Ok bytes
passed (Err e) = Err (passed_error e)

-- the bytes of the pieces that came
abbrev pub bytes_of : Piece → List ℕ
bytes_of (Ok bytes) = bytes
bytes_of (Err e) = []

abbrev pub content : List Piece → List ℕ
content pieces = flat_map bytes_of pieces

-- the error at the end of a content with another digest
abbrev pub wrong_digest : List ℕ → List ℕ → CheckedPiece
wrong_digest expected bytes = Err (stream.Digest (record { expected = expected; computed = sha256 bytes }))

-- What comes behind the items: what the source gives next, or at its end the judgement of all bytes.
abbrev pub Follows : List ℕ → List ℕ → Option Piece → Option CheckedPiece → Type 0
Follows expected bytes (Some piece) last = last ≡ Some (passed piece)
Follows expected bytes None last = ((sha256 bytes ≡ expected) × (last ≡ None)) ⊎ ((sha256 bytes ≢ expected) × (last ≡ Some (wrong_digest expected bytes)))

-- Some items of the source, and what comes next. These bytes came before.
pub record Passes (source : Runs Piece) (expected before : List ℕ) (xs : List CheckedPiece) (last : Option CheckedPiece) : Type 0 where
  pub pieces : List Piece
  pub next : Option Piece
  pub came : source pieces next
  pub items : xs ≡ map passed pieces
  pub follows : Follows expected (before ++ content pieces) next last

-- All items of the source, whose content has another digest, then the error, and then the end.
pub record Refuses (source : Runs Piece) (expected before : List ℕ) (xs : List CheckedPiece) (last : Option CheckedPiece) : Type 0 where
  pub pieces : List Piece
  pub came : source pieces None
  pub wrong : sha256 (before ++ content pieces) ≢ expected
  pub items : xs ≡ map passed pieces ++ wrong_digest expected (before ++ content pieces) ∷ []
  pub end : last ≡ None

-- What may come from a stream that checks a source, of which these bytes came before; nothing more once it has ended.
abbrev pub Validates : Runs Piece → List ℕ → List ℕ → Bool → Runs CheckedPiece
Validates source expected before true xs last = Ends xs last
Validates source expected before false xs last = Passes source expected before xs last ⊎ Refuses source expected before xs last
