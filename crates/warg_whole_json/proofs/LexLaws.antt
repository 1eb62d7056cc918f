-- The braces that the lexer finds, byte by byte.
use Rattle.std.proofs.Common.{◌≡◌, ℕ, Bool, true, false, ◌==◌, cond, List, [], ◌∷◌, ◌++◌, Option, Some, None, refl, sym, ap, ◌∙◌, append_assoc, inl, inr}
use Rattle.json.specs.Token.{Token, begin_object, end_object, begin_array, end_array, key, string, number, boolean, null, bad}
use Rattle.json.specs.Text.{content, plain}
use Rattle.json.specs.Word.{ends_word, literal, number_before, after_number, head, word}
use Rattle.json.specs.Ascii as ascii
use Rattle.json.specs.Lex.{Lexeme, token, comma, colon, Class, quote, backslash, operator, space, other, class, operator_lexeme, string_token, Mode, between, in_word, in_string, in_escape, lex_byte, lex, Place, fresh, after_value, after_comma, after_key, begins_colon, may_begin, may_close, if_allowed, place_token, punctuate, tokens}
use Rattle.json.specs.Spaced.{IsGap}
use Rattle.warg_whole_json.proofs.Braces.{brace_of, braces_of}

abbrev pub lexeme_brace : Lexeme → List Bool
lexeme_brace (token t) = brace_of t
lexeme_brace comma = []
lexeme_brace colon = []

abbrev pub lexeme_braces : List Lexeme → List Bool
lexeme_braces [] = []
lexeme_braces (l ∷ ls) = lexeme_brace l ++ lexeme_braces ls

-- the braces that a text has behind another one, after which the lexer is in a mode
abbrev pub braces_in : Mode → List ℕ → List Bool
braces_in m text = lexeme_braces (lex m text)

-- ---- byte by byte

-- the mode behind a byte
abbrev next : Mode → Class → Mode
next between quote = in_string
next between backslash = in_word
next between operator = between
next between space = between
next between other = in_word
next in_word quote = in_word
next in_word backslash = in_word
next in_word operator = between
next in_word space = between
next in_word other = in_word
next in_string quote = between
next in_string backslash = in_escape
next in_string operator = in_string
next in_string space = in_string
next in_string other = in_string
next in_escape c = in_string

-- the brace that a byte is
abbrev found : Mode → Class → ℕ → List Bool
found between operator x = lexeme_brace (operator_lexeme x)
found in_word operator x = lexeme_brace (operator_lexeme x)
found m c x = []

text_is_none : (o : Option (List ℕ)) → brace_of (string_token o) ≡ []
text_is_none None = refl
text_is_none (Some s) = refl

choose : (b : Bool) (t u : Token) → brace_of t ≡ [] → brace_of u ≡ [] → brace_of (cond b t u) ≡ []
choose true t u p q = p
choose false t u p q = q

number_is_none : (t : List ℕ) (o : Option (List ℕ)) → brace_of (number_before t o) ≡ []
number_is_none t None = refl
number_is_none t (Some rest) = choose (ends_word rest) _ _ refl refl

literal_is_none : (name : List ℕ) (u : Token) (t : List ℕ) → brace_of u ≡ [] → brace_of (literal name u t) ≡ []
literal_is_none name u t p = choose _ u bad p refl

word_is_none : (t : List ℕ) → brace_of (word t) ≡ []
unfolding word
word_is_none t =
    choose (head t == ascii.lower_t) _ _ (literal_is_none ascii.true_text (boolean true) t refl)
    (choose (head t == ascii.lower_f) _ _ (literal_is_none ascii.false_text (boolean false) t refl)
    (choose (head t == ascii.lower_n) _ _ (literal_is_none ascii.null_text null t refl) (number_is_none t (after_number t))))

one_byte : (m : Mode) (c : Class) (x : ℕ) (xs : List ℕ) (k : Mode → List Lexeme) → lexeme_braces (lex_byte m c x xs k) ≡ found m c x ++ lexeme_braces (k (next m c))
one_byte between quote x xs k = ap (λ bs. bs ++ lexeme_braces (k in_string)) (text_is_none (content plain xs))
one_byte between backslash x xs k = refl
one_byte between operator x xs k = refl
one_byte between space x xs k = refl
one_byte between other x xs k = ap (λ bs. bs ++ lexeme_braces (k in_word)) (word_is_none (x ∷ xs))
one_byte in_word quote x xs k = refl
one_byte in_word backslash x xs k = refl
one_byte in_word operator x xs k = refl
one_byte in_word space x xs k = refl
one_byte in_word other x xs k = refl
one_byte in_string quote x xs k = refl
one_byte in_string backslash x xs k = refl
one_byte in_string operator x xs k = refl
one_byte in_string space x xs k = refl
one_byte in_string other x xs k = refl
one_byte in_escape quote x xs k = refl
one_byte in_escape backslash x xs k = refl
one_byte in_escape operator x xs k = refl
one_byte in_escape space x xs k = refl
one_byte in_escape other x xs k = refl

abbrev pub mode_behind : Mode → List ℕ → Mode
mode_behind m [] = m
mode_behind m (x ∷ xs) = mode_behind (next m (class x)) xs

-- the braces of a text and of what stands behind it
pub braces_behind : (m : Mode) (text more : List ℕ) → braces_in m (text ++ more) ≡ braces_in m text ++ braces_in (mode_behind m text) more
unfolding lex
braces_behind m [] more = refl
braces_behind m (x ∷ xs) more =
    one_byte m (class x) x (xs ++ more) (λ n. lex n (xs ++ more))
    ∙ ap (λ bs. found m (class x) x ++ bs) (braces_behind (next m (class x)) xs more)
    ∙ sym (append_assoc (found m (class x) x) _ _)
    ∙ ap (λ bs. bs ++ braces_in (mode_behind m (x ∷ xs)) more) (sym (one_byte m (class x) x xs (λ n. lex n xs)))

space_is_none : (m : Mode) (x : ℕ) → found m space x ≡ []
space_is_none between x = refl
space_is_none in_word x = refl
space_is_none in_string x = refl
space_is_none in_escape x = refl

-- white space has no braces
pub gap_has_none : (m : Mode) (gap : List ℕ) → IsGap gap → braces_in m gap ≡ []
unfolding lex
gap_has_none m [] h = refl
gap_has_none m (x ∷ xs) (inl e, h) =
    one_byte m (class x) x xs (λ n. lex n xs) ∙ ap (λ y. found m (class y) y ++ braces_in (next m (class y)) xs) e
    ∙ ap (λ bs. bs ++ braces_in (next m space) xs) (space_is_none m 32) ∙ gap_has_none (next m space) xs h
gap_has_none m (x ∷ xs) (inr e, h) =
    one_byte m (class x) x xs (λ n. lex n xs) ∙ ap (λ y. found m (class y) y ++ braces_in (next m (class y)) xs) e
    ∙ ap (λ bs. bs ++ braces_in (next m space) xs) (space_is_none m 10) ∙ gap_has_none (next m space) xs h

-- ---- from lexemes to tokens

-- no token is a fault
abbrev pub AreGood : List Token → Type 0
AreGood [] = Unit {0}
AreGood (bad ∷ ts) = ⊥
AreGood (t ∷ ts) = AreGood ts

module _ (k : Place → List Token) (braces : List Bool) (rest : (p : Place) → AreGood (k p) → braces_of (k p) ≡ braces) where
  allowed : (b : Bool) (t : Token) (p : Place) → (AreGood (t ∷ k p) → AreGood (k p)) → AreGood (if_allowed b t k p) → braces_of (if_allowed b t k p) ≡ brace_of t ++ braces
  allowed true t p good h = ap (λ bs. brace_of t ++ bs) (rest p (good h))
  allowed false t p good h = absurd h

  one_token : (p : Place) (t : Token) (c : Bool) → AreGood (place_token p t c k) → braces_of (place_token p t c k) ≡ brace_of t ++ braces
  one_token p begin_object c h = allowed (may_begin p) begin_object fresh (λ g. g) h
  one_token p end_object c h = allowed (may_close p) end_object after_value (λ g. g) h
  one_token p begin_array c h = allowed (may_begin p) begin_array fresh (λ g. g) h
  one_token p end_array c h = allowed (may_close p) end_array after_value (λ g. g) h
  one_token p (key s) c h = absurd h
  one_token p (string s) true h = allowed (may_begin p) (key s) after_key (λ g. g) h
  one_token p (string s) false h = allowed (may_begin p) (string s) after_value (λ g. g) h
  one_token p (number s) c h = allowed (may_begin p) (number s) after_value (λ g. g) h
  one_token p (boolean b) c h = allowed (may_begin p) (boolean b) after_value (λ g. g) h
  one_token p null c h = allowed (may_begin p) null after_value (λ g. g) h
  one_token p bad c h = absurd h

punctuated : (p : Place) (ls : List Lexeme) → AreGood (punctuate p ls) → braces_of (punctuate p ls) ≡ lexeme_braces ls
unfolding punctuate
punctuated fresh [] h = refl
punctuated after_value [] h = refl
punctuated after_comma [] h = absurd h
punctuated after_key [] h = absurd h
punctuated fresh (token t ∷ ls) h = one_token (λ p. punctuate p ls) (lexeme_braces ls) (λ p g. punctuated p ls g) fresh t (begins_colon ls) h
punctuated after_value (token t ∷ ls) h = one_token (λ p. punctuate p ls) (lexeme_braces ls) (λ p g. punctuated p ls g) after_value t (begins_colon ls) h
punctuated after_comma (token t ∷ ls) h = one_token (λ p. punctuate p ls) (lexeme_braces ls) (λ p g. punctuated p ls g) after_comma t (begins_colon ls) h
punctuated after_key (token t ∷ ls) h = one_token (λ p. punctuate p ls) (lexeme_braces ls) (λ p g. punctuated p ls g) after_key t (begins_colon ls) h
punctuated fresh (comma ∷ ls) h = absurd h
punctuated after_value (comma ∷ ls) h = punctuated after_comma ls h
punctuated after_comma (comma ∷ ls) h = absurd h
punctuated after_key (comma ∷ ls) h = absurd h
punctuated fresh (colon ∷ ls) h = absurd h
punctuated after_value (colon ∷ ls) h = absurd h
punctuated after_comma (colon ∷ ls) h = absurd h
punctuated after_key (colon ∷ ls) h = punctuated fresh ls h

-- the braces of a text are those of its tokens
pub braces_of_text : (text : List ℕ) → AreGood (tokens text) → braces_of (tokens text) ≡ braces_in between text
braces_of_text text h = punctuated fresh (lex between text) h
