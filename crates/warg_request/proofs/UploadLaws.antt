-- The headers of an upload, some of which are readied to be sent.
use Rattle.std.proofs.Common.{◌≡◌, ℕ, List, [], ◌∷◌, ◌++◌, map, refl, sym, ◌∙◌}
use Rattle.std.specs.Prelude.{All}
use Rattle.std.proofs.lemmas.List.{map_push, append_assoc, append-nil}
use Rattle.std.proofs.lemmas.List.Elements.{All-nil, All-push}
use Rattle.http_header.specs.FieldValue.{FieldValue, plain_value}
use Rattle.warg_request.specs.Uploading.{IsUploadHeader, IsFirstBad}

abbrev pub readied : List ℕ × List ℕ → List ℕ × FieldValue
readied h = (h.0, plain_value h.1)

-- of the headers the first are good and readied, and these are left
pub record IsReadied (headers : List (List ℕ × List ℕ)) (sent : List (List ℕ × FieldValue)) (left : List (List ℕ × List ℕ)) : Type 0 where
  pub done : List (List ℕ × List ℕ)
  pub parts : headers ≡ done ++ left
  pub same : sent ≡ map readied done
  pub good : All IsUploadHeader done

pub none_yet : (headers : List (List ℕ × List ℕ)) → IsReadied headers [] headers
none_yet headers = record { done = []; parts = refl; same = refl; good = All-nil IsUploadHeader }

pub one_more : (headers left : List (List ℕ × List ℕ)) (sent : List (List ℕ × FieldValue)) (h : List ℕ × List ℕ)
    → IsReadied headers sent (h ∷ left) → IsUploadHeader h → IsReadied headers (sent ++ readied h ∷ []) left
one_more headers left sent h r good = record {
  done = r.done ++ h ∷ [];
  parts = r.parts ∙ sym (append_assoc r.done (h ∷ []) left);
  same = rw r.same (sym (map_push readied r.done h));
  good = All-push IsUploadHeader r.done h r.good good;
}

pub all_done : (headers : List (List ℕ × List ℕ)) (sent : List (List ℕ × FieldValue)) → IsReadied headers sent []
    → (sent ≡ map readied headers) × All IsUploadHeader headers
all_done headers sent r =
    let whole : headers ≡ r.done = r.parts ∙ append-nil r.done in
    rw whole (r.same, r.good)

pub first_bad : (headers left : List (List ℕ × List ℕ)) (sent : List (List ℕ × FieldValue)) (name value : List ℕ)
    → IsReadied headers sent ((name, value) ∷ left) → (IsUploadHeader (name, value) → ⊥) → IsFirstBad headers name value
first_bad headers left sent name value r bad =
    record { before = r.done; after = left; stands = r.parts; earlier = r.good; bad = bad }
