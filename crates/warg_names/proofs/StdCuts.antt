-- What the calls of std that cut texts give, in the words of `specs/Cut`.
use Rattle.std.proofs.Common.{◌≡◌, ◌≢◌, ℕ, suc, ◌<◌, true, eqb, List, [], ◌∷◌, ◌++◌, length, get_or, Option, Some, None, refl, sym, ap, subst, ◌∙◌, arith}
use Rattle.std.specs.Borrow.{Bor}
use Rattle.std.specs.Prelude.{MatchOption, option_map, option_copied}
use Rattle.std.specs.Str.{NoCharPasses}
use Rattle.std.specs.Str.Pattern.{FindsChar, RFindsChar, FindsTextPrefix, SplitsAroundMatch, StripsPrefix}
use Rattle.std.proofs.lemmas.Bool.{and_from, ne_eqb, not_from_false}
use Rattle.std.proofs.lemmas.List.{take-append-drop}
use Rattle.std.proofs.lemmas.Str.Pattern.{split_parts, drop_at_char, NoCharPasses-char}
use Rattle.warg_names.specs.Cut.{lacks, behind, cut_first, cut_last}
use Rattle.warg_names.specs.CutLaws.{behind-none, behind-append, cut_first-none, cut_first-append, cut_last-none, cut_last-append}

-- what `strip_prefix` gives at a text
pub is_behind : (front text : List ℕ) (r : Option (Bor (List ℕ)))
    → MatchOption r (FindsTextPrefix front text None) (λ x. StripsPrefix (FindsTextPrefix front) text x.now)
    → option_copied r ≡ behind front text
is_behind front text None h = sym (behind-none front text h)
is_behind front text (Some x) h =
    let whole : text ≡ front ++ x.now = h.1.1 ∙ ap (λ t. front ++ t) (sym h.2) in
    sym (ap (behind front) whole ∙ behind-append front x.now)

-- a text lacks a byte that stands at no place of it
lacks-from : (c : ℕ) (text : List ℕ) → ((i : ℕ) → i < length text → get_or text i 0 ≢ c) → lacks c text ≡ true
lacks-from c [] h = refl
lacks-from c (b ∷ text) h =
    and_from _ _ (not_from_false _ (ne_eqb b c (h 0 (omega arith)))) (lacks-from c text (λ i lt. h (suc i) (omega (arith, lt))))

-- what `split_once` gives at an ASCII character
pub is_cut_first : (c : ℕ) (text : List ℕ) (r : Option (Bor (List ℕ) × Bor (List ℕ)))
    → MatchOption r (FindsChar c text None) (λ x. SplitsAroundMatch (FindsChar c) text x.0.now x.1.now) → c < 128
    → option_map (λ cut. (cut.0.now, cut.1.now)) r ≡ cut_first c text
is_cut_first c text None h low = sym (cut_first-none c text (lacks-from c text (split_parts c text None h low)))
is_cut_first c text (Some x) h low =
    let parts = split_parts c text (Some x) h low in
    sym (ap (cut_first c) parts.0 ∙ cut_first-append c x.0.now x.1.now (lacks-from c x.0.now parts.1))

-- what `rsplit_once` gives at an ASCII character
pub is_cut_last : (c : ℕ) (text : List ℕ) (r : Option (Bor (List ℕ) × Bor (List ℕ)))
    → MatchOption r (RFindsChar c text None) (λ x. SplitsAroundMatch (RFindsChar c) text x.0.now x.1.now) → c < 128
    → option_map (λ cut. (cut.0.now, cut.1.now)) r ≡ cut_last c text
is_cut_last c text None h low = sym (cut_last-none c text (lacks-from c text (λ i. NoCharPasses-char c text i h low)))
is_cut_last c text (Some x) h low =
    let whole : text ≡ x.0.now ++ (c ∷ x.1.now) = sym (take-append-drop h.0 text) ∙ (λ k. sym h.3 k ++ (drop_at_char c text h.0 h.1 h.2.1 low ∙ ap (λ l. c ∷ l) (sym h.4)) k) in
    let after : lacks c x.1.now ≡ true = lacks-from c x.1.now (λ i. NoCharPasses-char c x.1.now i (subst (NoCharPasses (λ d. eqb d c)) (sym h.4) h.2.0) low) in
    sym (ap (cut_last c) whole ∙ cut_last-append c x.0.now x.1.now after)
