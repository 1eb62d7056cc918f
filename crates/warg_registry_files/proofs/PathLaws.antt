-- Paths that are split, and names that are escaped.
use Rattle.std.proofs.Common.{◌≡◌, ◌≢◌, ◌<◌, ◌≤◌, ◌+◌, ℕ, suc, Bool, true, false, cond, ◌==◌, ◌||◌, nat_eq, codes, List, [], ◌∷◌, ◌++◌, length, take, drop, get_or, Option, Some, None, Bor, refl, sym, ap, ◌∙◌, arith, append_assoc, take-append-drop}
use Rattle.std.specs.Str.{NoCharPasses}
use Rattle.std.specs.Option.{MatchOption}
use Rattle.std.specs.Str.Pattern.{FindsTextPrefix, RFindsChar, StripsPrefix}
use Rattle.std.proofs.lemmas.Bool.{ne_eqb}
use Rattle.std.proofs.lemmas.List.{append_cancel_left}
use Rattle.std.proofs.lemmas.Str.Pattern.{IsSplitOnceResult, NoCharPasses-char, split_parts}
use Rattle.warg_registry_files.specs.Paths.{IsPlaceOf, has_slash, escaped, escaped_byte, escaped_bytes}

none_in : (bs : List ℕ) → ((i : ℕ) → i < length bs → get_or bs i 0 ≢ 47) → has_slash bs ≡ false
none_in [] never = refl
none_in (b ∷ bs) never = rw (ne_eqb b 47 (never 0 (omega arith))) (none_in bs (λ i lt. never (suc i) (omega arith)))

-- no character of a text is a slash
pub no_slash : (bs : List ℕ) → NoCharPasses (λ d. d == 47) bs → has_slash bs ≡ false
no_slash bs none = none_in bs (λ i lt. NoCharPasses-char 47 bs i none (omega arith) lt)

-- a text with a slash in it
pub slash_in : (before own : List ℕ) → has_slash (before ++ 47 ∷ own) ≡ true
slash_in [] own = refl
slash_in (b ∷ bs) own = or_right (nat_eq b 47) (has_slash (bs ++ 47 ∷ own)) (slash_in bs own)
  where
    or_right : (a b : Bool) → b ≡ true → (a || b) ≡ true
    or_right true b e = refl
    or_right false b e = e

-- what a text is split into at its last slash
abbrev pub IsSplit : List ℕ → List ℕ → List ℕ → Type 0
IsSplit text before own = (i : ℕ) × (j : ℕ) × RFindsChar 47 text (Some (i, j)) × (before ≡ take i text) × (own ≡ drop j text) × (i ≤ j) × (length before ≡ i) × (length own + j ≡ length text)

joined : (text before own : List ℕ) → IsSplit text before own → before ++ 47 ∷ own ≡ text
unfolding lib.Utf8.encode
joined text before own h =
    ap (λ l. l ++ 47 ∷ own) h.3 ∙ ap (λ l. take h.0 text ++ 47 ∷ l) h.4 ∙ ap (λ l. take h.0 text ++ l) (sym h.2.1.split) ∙ take-append-drop h.0 text

-- a base folder with a slash
pub place_of_parts : (base before own : List ℕ) → IsSplit base before own → IsPlaceOf base (record { parent = before; own = own })
place_of_parts base before own h =
    let e = joined base before own h in
    record {
      joined = e ∙ sym (ap (λ (b : Bool). cond b base (codes "./" ++ cond (nat_eq (length base) 0) (46 ∷ []) base)) (sym (ap has_slash e) ∙ slash_in before own));
      last = ap has_slash h.4 ∙ no_slash (drop h.1 base) h.2.0;
    }

-- and one without
pub place_of_name : (base parent own : List ℕ) → has_slash base ≡ false → parent ≡ codes "." → own ≡ cond (nat_eq (length base) 0) (46 ∷ []) base → IsPlaceOf base (record { parent = parent; own = own })
place_of_name base parent own none in_dot is = record {
  joined = ap (λ l. l ++ 47 ∷ own) in_dot ∙ ap (λ l. codes "./" ++ l) is ∙ sym (ap (λ (b : Bool). cond b base (codes "./" ++ cond (nat_eq (length base) 0) (46 ∷ []) base)) none);
  last = ap has_slash is ∙ by (nat_eq (length base) 0);
}
  where
    by : (b : Bool) → has_slash (cond b (46 ∷ []) base) ≡ false
    by true = refl
    by false = none

-- ---- cuts

-- what is behind a front
pub stripped : (front text rest : List ℕ) → StripsPrefix (FindsTextPrefix front) text rest → text ≡ front ++ rest
stripped front text rest h = h.1.1 ∙ ap (λ l. front ++ l) (sym h.2)

pub behind_none : (folder path : List ℕ) → FindsTextPrefix folder path None → (rest : List ℕ) → path ≡ folder ++ 47 ∷ rest → ⊥
behind_none folder path lacks rest e = lacks (47 ∷ rest) e

pub behind_slash : (folder path inside : List ℕ) (r : Option (Bor (List ℕ))) → path ≡ folder ++ inside → MatchOption r (FindsTextPrefix (codes "/") inside None) (λ x. StripsPrefix (FindsTextPrefix (codes "/")) inside x.now)
    → MatchOption r ((rest : List ℕ) → path ≡ folder ++ 47 ∷ rest → ⊥) (λ x. path ≡ folder ++ 47 ∷ x.now)
behind_slash folder path inside None is lacks = λ rest e. lacks rest (append_cancel_left folder inside (47 ∷ rest) (sym is ∙ e))
behind_slash folder path inside (Some x) is h = is ∙ ap (λ l. folder ++ l) (stripped (codes "/") inside x.now h)

pub parts_by : (text : List ℕ) (r : Option (Bor (List ℕ) × Bor (List ℕ))) → IsSplitOnceResult 47 text r → MatchOption r (has_slash text ≡ false) (λ x. (text ≡ x.0.now ++ 47 ∷ x.1.now) × (has_slash x.0.now ≡ false))
parts_by text None h = none_in text (split_parts 47 text None h (omega arith))
parts_by text (Some x) h = let p = split_parts 47 text (Some x) h (omega arith) in (p.0, none_in x.0.now p.1)

-- ---- names

-- one byte more is escaped
pub one_more_byte : (name more : List ℕ) (first : Bool) (bytes : List ℕ) (i b : ℕ) (whole : List ℕ) → name ++ escaped_bytes first (drop i bytes) ≡ whole → drop i bytes ≡ b ∷ drop (i + 1) bytes
    → more ≡ name ++ escaped_byte first b → more ++ escaped_bytes false (drop (i + 1) bytes) ≡ whole
one_more_byte name more first bytes i b whole so_far here is =
    ap (λ l. l ++ escaped_bytes false (drop (i + 1) bytes)) is ∙ append_assoc name (escaped_byte first b) (escaped_bytes false (drop (i + 1) bytes))
    ∙ ap (λ l. name ++ escaped_bytes first l) (sym here) ∙ so_far

-- a name that is not empty
pub some_escaped : (name : List ℕ) → 0 < length name → escaped_bytes true name ≡ escaped name
some_escaped [] lt = absurd (omega arith)
some_escaped (b ∷ bs) lt = refl
