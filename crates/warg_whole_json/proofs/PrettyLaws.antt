-- A text in lines is the tokens with white space between them.
use Rattle.std.proofs.Common.{subst, ◌≡◌, ℕ, zero, suc, ◌*◌, Bool, true, false, List, [], ◌∷◌, ◌++◌, map, replicate, refl, sym, ap, ◌∙◌, append_assoc, inl, inr}
use Rattle.json.specs.Token.{Token, begin_object, end_object, begin_array, end_array, key, string, number, boolean, null, bad}
use Rattle.json.specs.Lex.{tokens}
use Rattle.json.specs.Print.{token_text, separator, begins, ends, ArePrintable}
use Rattle.json.specs.Layout.{Last, nothing, bracket, name, value, is_value, line, gap, depth_at, after, step, pretty_from, pretty}
use Rattle.json.specs.Spaced.{IsGap, AreGaps, print_spaced}
use Rattle.json.proofs.Printed.Tokens.{tokens-print_spaced}

-- each token with the white space before it
abbrev spaced : Last × ℕ → List Token → List (List ℕ × Token)
spaced s [] = []
spaced s (t ∷ ts) = (gap s.0 (begins t) (depth_at s.1 t), t) ∷ spaced (step s t) ts

spaced_tokens : (s : Last × ℕ) (ts : List Token) → map (λ p. p.1) (spaced s ts) ≡ ts
spaced_tokens s [] = refl
spaced_tokens s (t ∷ ts) = ap (λ l. t ∷ l) (spaced_tokens (step s t) ts)

spaces : (n : ℕ) → IsGap (replicate n 32)
spaces zero = tt
spaces (suc n) = (inl refl, spaces n)

line_is_gap : (depth : ℕ) → IsGap (line depth)
line_is_gap depth = (inr refl, spaces (2 * depth))

pub gap_is_gap : (last : Last) (opens : Bool) (depth : ℕ) → IsGap (gap last opens depth)
gap_is_gap nothing opens depth = tt
gap_is_gap bracket true depth = line_is_gap depth
gap_is_gap bracket false depth = tt
gap_is_gap name opens depth = (inl refl, tt)
gap_is_gap value opens depth = line_is_gap depth

spaced_gaps : (s : Last × ℕ) (ts : List Token) → AreGaps (spaced s ts)
spaced_gaps s [] = tt
spaced_gaps s (t ∷ ts) = (gap_is_gap s.0 (begins t) (depth_at s.1 t), spaced_gaps (step s t) ts)

ends_as_value : (t : Token) (depth : ℕ) → is_value (after t depth).0 ≡ ends t
ends_as_value begin_object depth = refl
ends_as_value end_object depth = refl
ends_as_value begin_array depth = refl
ends_as_value end_array depth = refl
ends_as_value (key s) depth = refl
ends_as_value (string s) depth = refl
ends_as_value (number s) depth = refl
ends_as_value (boolean b) depth = refl
ends_as_value null depth = refl
ends_as_value bad depth = refl

pretty_is_spaced : (s : Last × ℕ) (ts : List Token) → pretty_from s ts ≡ print_spaced (is_value s.0) (spaced s ts)
unfolding pretty_from print_spaced
pretty_is_spaced s [] = refl
pretty_is_spaced s (t ∷ ts) =
    let white = gap s.0 (begins t) (depth_at s.1 t) in
    append_assoc (separator (is_value s.0) t) (white ++ token_text t) (pretty_from (step s t) ts)
    ∙ ap (λ l. separator (is_value s.0) t ++ l)
    (append_assoc white (token_text t) (pretty_from (step s t) ts)
    ∙ ap (λ l. white ++ (token_text t ++ l))
    (pretty_is_spaced (step s t) ts ∙ ap (λ b. print_spaced b (spaced (step s t) ts)) (ends_as_value t (depth_at s.1 t))))

-- a text in lines has the tokens of which it is written
pub tokens-pretty : (ts : List Token) → ArePrintable ts → tokens (pretty ts) ≡ ts
tokens-pretty ts h =
    let s : Last × ℕ = (nothing, 0) in
    ap tokens (pretty_is_spaced s ts)
    ∙ tokens-print_spaced (spaced s ts) (spaced_gaps s ts) (subst ArePrintable (sym (spaced_tokens s ts)) h)
    ∙ spaced_tokens s ts
