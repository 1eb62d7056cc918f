-- What decoding leaves in its room, of a text that is a hash text or not.
use Rattle.std.proofs.Common.{true, false, ◌≡◌, ℕ, List, drop, Result, Ok, Err, sym, ap, ◌∙◌, MatchResult}
use Rattle.std.specs.Result.{is_err}
use Rattle.std.proofs.lemmas.Bool.{false≢true}
use Rattle.hex.specs.Hex.{decode_sized}
use Rattle.hex.specs.declared.error.FromHexError.{FromHexError}
use Rattle.warg_hash.specs.Hash.{IsHashText, hash_text}
use Rattle.warg_hash.specs.HashLaws.{digits_decode}

-- what decoding into room leaves there, where the text decodes
pub decoded : (d : Result (List ℕ) FromHexError) (r : Result Unit FromHexError) (out digest : List ℕ)
    → MatchResult d (λ bytes. (r ≡ Ok tt) × (out ≡ bytes)) (λ e. r ≡ Err e) → d ≡ Ok digest → (r ≡ Ok tt) × (out ≡ digest)
decoded (Ok bytes) r out digest given is = (given.0, given.1 ∙ cc)
decoded (Err e) r out digest given is = absurd cc

-- what was left in the room, where decoding did not fail
pub decodes : (d : Result (List ℕ) FromHexError) (r : Result Unit FromHexError) (out : List ℕ)
    → MatchResult d (λ bytes. (r ≡ Ok tt) × (out ≡ bytes)) (λ e. r ≡ Err e) → is_err r ≡ false → d ≡ Ok out
decodes (Ok bytes) r out given not_err = ap (λ (b : List ℕ). Ok b) (sym given.1)
decodes (Err e) r out given not_err = absurd (false≢true (sym not_err ∙ ap is_err given))

-- a text whose digits did not decode is no hash text
pub refused : (text digits digest out : List ℕ) (r : Result Unit FromHexError)
    → MatchResult (decode_sized digits 32) (λ bytes. (r ≡ Ok tt) × (out ≡ bytes)) (λ e. r ≡ Err e)
    → digits ≡ drop 7 text → is_err r ≡ true → IsHashText text digest → ⊥
refused text digits digest out r given same err is =
    let d : decode_sized digits 32 ≡ Ok digest = ap (λ (t : List ℕ). decode_sized t 32) same ∙ digits_decode text digest is in
    false≢true (sym (ap is_err (decoded _ r out digest given d).0) ∙ err)

-- a hash text is that of the digest that its digits decode to
pub same_text : (text digits digest out : List ℕ) (r : Result Unit FromHexError)
    → MatchResult (decode_sized digits 32) (λ bytes. (r ≡ Ok tt) × (out ≡ bytes)) (λ e. r ≡ Err e)
    → digits ≡ drop 7 text → IsHashText text digest → hash_text out ≡ text
same_text text digits digest out r given same is =
    let d : decode_sized digits 32 ≡ Ok digest = ap (λ (t : List ℕ). decode_sized t 32) same ∙ digits_decode text digest is in
    ap hash_text (decoded _ r out digest given d).1 ∙ sym is.1
