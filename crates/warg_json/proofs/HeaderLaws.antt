-- Which texts are the names and the values of headers: the tests decide what the standard's words say.
use Rattle.std.proofs.Common.{◌≡◌, ℕ, List, Bool, true, false, refl}
use Rattle.std.specs.Prelude.{IsTrue}
use Rattle.std.specs.List.{list_all}
use Rattle.std.proofs.lemmas.Bool.{and_from, false_from_ne_true, true_from_ne_false, lt-ltb, le-leb}
use Rattle.std.proofs.lemmas.Bool.Decides.{Decides-by_and}
use Rattle.http_header.specs.FieldName.{is_field_name, IsFieldName}
use Rattle.http_header.specs.FieldValue.{IsFieldValue}
use Rattle.http_header.specs.Token.{AllPass, token_test, is_token_byte, is_value_byte}
use Rattle.http_header.proofs.TokenLemmas.{AllPass-from_test, IsFieldName-from_test}

test_of : (test : ℕ → Bool) (bytes : List ℕ) → AllPass test bytes → list_all test bytes ≡ true
test_of test bytes =
    (Decides-by_and test (λ b. IsTrue (test b)) (list_all test) (λ b. (λ h. h, λ h. h)) refl (λ _ _. refl) bytes).1

name_test : (bytes : List ℕ) → IsFieldName bytes → is_field_name bytes ≡ true
unfolding is_token_byte
name_test bytes h = and_from _ _ (and_from _ _ (lt-ltb _ _ h.0.0) (test_of token_test bytes h.0.1)) (le-leb _ _ h.1)

pub no_name : (bytes : List ℕ) → ¬ (IsFieldName bytes) → is_field_name bytes ≡ false
no_name bytes none = false_from_ne_true _ (λ t. none (IsFieldName-from_test bytes t))

-- a text that is not refused is a name
pub is_name : (bytes : List ℕ) → ¬ (¬ (IsFieldName bytes)) → is_field_name bytes ≡ true
is_name bytes h = true_from_ne_false _ (λ f. h (λ name. absurd (cc (f, name_test bytes name))))

pub no_value : (bytes : List ℕ) → ¬ (IsFieldValue bytes) → list_all is_value_byte bytes ≡ false
no_value bytes none = false_from_ne_true _ (λ t. none (AllPass-from_test is_value_byte bytes t))

-- a text that is not refused is a value
pub is_value : (bytes : List ℕ) → ¬ (¬ (IsFieldValue bytes)) → list_all is_value_byte bytes ≡ true
is_value bytes h = true_from_ne_false _ (λ f. h (λ value. absurd (cc (f, test_of is_value_byte bytes value))))
