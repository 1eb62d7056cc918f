-- What is written in lines is read, and no proper front of it.
use Rattle.std.proofs.Common.{◌≡◌, ◌<◌, ℕ, Bool, true, false, cond, List, length, take, Option, Some, None, sym, ap, subst, ◌∙◌, refl}
use Rattle.std.specs.Prelude.{Ok}
use Rattle.std.specs.Result.{result_ok}
use Rattle.std.specs.Str.{is_utf8}
use Rattle.json.specs.Layout.{pretty}
use Rattle.json.specs.Lex.{tokens}
use Rattle.json.specs.Tree.{json_tokens}
use Rattle.serde_json.specs.Data.{Data, object, Members}
use Rattle.serde_json.specs.Read.{read}
use Rattle.serde_json.specs.Written.{IsInOrder, has_float, outline}
use Rattle.serde_json.proofs.Texts.{tokens_from_order}
use Rattle.warg_values.specs.Reading.{◌>>=◌}
use Rattle.warg_exchange.specs.Body.{Meaning, required}
use Rattle.warg_exchange.specs.Replies.{json_of}

-- what is known of a text that is written of a value
pub record IsLines (text : List ℕ) (d : Data) : Type 0 where
  pub layout : text ≡ pretty (tokens text)
  pub order : IsInOrder text d
  pub json : json_of text ≡ Some d

pub lines_are : (text : List ℕ) (d : Data) → IsLines text d → has_float d ≡ false → text ≡ pretty (json_tokens (outline d))
lines_are text d is plain = is.layout ∙ ap pretty (tokens_from_order text d is.order plain)

-- what no object means
abbrev pub OnlyObjects : {X : Type 0} → (Data → Meaning X) → Type 0
OnlyObjects f = (d : Data) → ((ms : Members) → d ≡ object ms → ⊥) → result_ok (f d) ≡ None

-- no proper front of a text in lines is read as an object
abbrev pub HasNoFront : Type 0
HasNoFront = (text : List ℕ) (whole front : Members) (n : ℕ) → text ≡ pretty (tokens text) → IsInOrder text (object whole) → n < length text → read (take n text) ≡ Some (object front) → ⊥

module _ {X : Type 0} (f : Data → Meaning X) (only : OnlyObjects f) where
  abbrev pub meaning_of : List ℕ → Option X
  meaning_of bytes = result_ok (required (json_of bytes) >>= f)

  pub lines_whole : (text : List ℕ) (d : Data) (x : X) → IsLines text d → has_float d ≡ false → f d ≡ Ok x → meaning_of (pretty (json_tokens (outline d))) ≡ Some x
  lines_whole text d x is plain means = ap meaning_of (sym (lines_are text d is plain)) ∙ rw (is.json, means) refl

  no_value : (o : Option Data) → ((ms : Members) → o ≡ Some (object ms) → ⊥) → result_ok (required o >>= f) ≡ None
  no_value None never = refl
  no_value (Some d) never = only d (λ ms e. never ms (ap Some e))

  unless : (b : Bool) (o : Option Data) → ((ms : Members) → o ≡ Some (object ms) → ⊥) → (ms : Members) → cond b o None ≡ Some (object ms) → ⊥
  unless true o never ms e = never ms e
  unless false o never ms e = cc

  -- bytes that are read as no object mean nothing
  means_none : (bytes : List ℕ) → ((ms : Members) → read bytes ≡ Some (object ms) → ⊥) → meaning_of bytes ≡ None
  means_none bytes never = no_value (json_of bytes) (unless (is_utf8 bytes) (read bytes) never)

  pub lines_front : HasNoFront → (text : List ℕ) (ms : Members) (n : ℕ) → IsLines text (object ms) → has_float (object ms) ≡ false
      → n < length (pretty (json_tokens (outline (object ms)))) → meaning_of (take n (pretty (json_tokens (outline (object ms))))) ≡ None
  lines_front law text ms n is plain lt =
      let same : text ≡ pretty (json_tokens (outline (object ms))) = lines_are text (object ms) is plain in
      ap (λ t. meaning_of (take n t)) (sym same)
      ∙ means_none (take n text) (λ front e. law text ms front n is.layout is.order (subst (λ (t : List ℕ). n < length t) (sym same) lt) e)
