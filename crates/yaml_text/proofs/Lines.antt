-- The lines of a text that is put together of parts.
use Rattle.std.proofs.Common.{◌≡◌, ℕ, zero, suc, ◌+◌, ◌<◌, List, [], ◌∷◌, ◌++◌, drop, Bool, true, false, not, cond, ◌&&◌, nat_lt, eqb, refl, sym, ap, ap₂, ◌∙◌, append-nil, arith}
use Rattle.std.specs.Prelude.{replicate}
use Rattle.std.specs.List.{list_all}
use Rattle.std.proofs.lemmas.Bool.{ne_eqb}
use Rattle.std.proofs.lemmas.Bool.Decides.{nat_tests}
use Rattle.yaml_scan.specs.Bytes.{spaces, whites, is_white}
use Rattle.yaml_scan.specs.Lines.{lines_of, lengthened, begins_feed, is_passed}
use Rattle.yaml_small.specs.Places.{At, next_at}

pub and_parts : (a b : Bool) → a && b ≡ true → (a ≡ true) × (b ≡ true)
and_parts true b e = (refl, e)
and_parts false b e = absurd cc

pub not_true : (b : Bool) → not b ≡ true → b ≡ false
not_true true e = absurd cc
not_true false e = refl

-- the first line, and those behind it
abbrev pub first_of : List (List ℕ) → List ℕ
first_of [] = []
first_of (line ∷ lines) = line

abbrev pub behind_first : List (List ℕ) → List (List ℕ)
behind_first [] = []
behind_first (line ∷ lines) = lines

abbrev pub line_of : List ℕ → List ℕ
line_of text = first_of (lines_of text)

abbrev pub later_of : List ℕ → List (List ℕ)
later_of text = behind_first (lines_of text)

abbrev pub HasLine : List (List ℕ) → Type 0
HasLine [] = ⊥
HasLine (line ∷ lines) = Unit {0}

has_line : (c : ℕ) (lines : List (List ℕ)) → HasLine (lengthened c lines)
has_line c [] = tt
has_line c (line ∷ lines) = tt

pub lines_there : (text : List ℕ) → HasLine (lines_of text)
lines_there [] = tt
lines_there (c ∷ cs) = either (eqb c 10) (eqb c 13 && begins_feed cs) (lines_there cs)
  where
    either : (x y : Bool) → HasLine (lines_of cs) → HasLine (cond x ([] ∷ lines_of cs) (cond y (lines_of cs) (lengthened c (lines_of cs))))
    either true y h = tt
    either false true h = h
    either false false h = has_line c (lines_of cs)

parted : (lines : List (List ℕ)) → HasLine lines → lines ≡ first_of lines ∷ behind_first lines
parted [] h = absurd h
parted (line ∷ lines) h = refl

pub lines_parted : (text : List ℕ) → lines_of text ≡ line_of text ∷ later_of text
lines_parted text = parted (lines_of text) (lines_there text)

-- bytes that end no line
abbrev pub is_inline_byte : ℕ → Bool
is_inline_byte c = not (eqb c 10) && not (eqb c 13)

abbrev pub is_inline : List ℕ → Bool
is_inline bs = list_all is_inline_byte bs

pub lines_byte : (c : ℕ) (cs : List ℕ) → is_inline_byte c ≡ true → lines_of (c ∷ cs) ≡ lengthened c (lines_of cs)
lines_byte c cs e =
    let p = and_parts (not (eqb c 10)) (not (eqb c 13)) e in
    rw (not_true (eqb c 10) p.0, not_true (eqb c 13) p.1) refl

first_longer : (c : ℕ) (lines : List (List ℕ)) → first_of (lengthened c lines) ≡ c ∷ first_of lines
first_longer c [] = refl
first_longer c (line ∷ lines) = refl

behind_longer : (c : ℕ) (lines : List (List ℕ)) → behind_first (lengthened c lines) ≡ behind_first lines
behind_longer c [] = refl
behind_longer c (line ∷ lines) = refl

pub line_of-append : (bs text : List ℕ) → is_inline bs ≡ true → line_of (bs ++ text) ≡ bs ++ line_of text
line_of-append [] text e = refl
line_of-append (b ∷ bs) text e =
    let p = and_parts (is_inline_byte b) (is_inline bs) e in
    ap first_of (lines_byte b (bs ++ text) p.0) ∙ first_longer b (lines_of (bs ++ text)) ∙ ap (λ (xs : List ℕ). b ∷ xs) (line_of-append bs text p.1)

pub later_of-append : (bs text : List ℕ) → is_inline bs ≡ true → later_of (bs ++ text) ≡ later_of text
later_of-append [] text e = refl
later_of-append (b ∷ bs) text e =
    let p = and_parts (is_inline_byte b) (is_inline bs) e in
    ap behind_first (lines_byte b (bs ++ text) p.0) ∙ behind_longer b (lines_of (bs ++ text)) ∙ later_of-append bs text p.1

pub lines_of-append : (bs text : List ℕ) → is_inline bs ≡ true → lines_of (bs ++ text) ≡ (bs ++ line_of text) ∷ later_of text
lines_of-append bs text e = lines_parted (bs ++ text) ∙ ap₂ (λ (x : List ℕ) (y : List (List ℕ)). x ∷ y) (line_of-append bs text e) (later_of-append bs text e)

-- nothing, or a line's end
abbrev pub IsBreak : List ℕ → Type 0
IsBreak [] = Unit {0}
IsBreak (c ∷ cs) = c ≡ 10

pub line_of-break : (k : List ℕ) → IsBreak k → line_of k ≡ []
line_of-break [] b = refl
line_of-break (c ∷ cs) b = rw b refl

-- the place of a text at a column, and the next content behind a line's end
abbrev pub at_text : ℕ → List ℕ → At
at_text col text = record { col = col; line = line_of text; later = later_of text }

abbrev pub after : List ℕ → At
after k = next_at (later_of k)

pub inline_spaces : (n : ℕ) → is_inline (replicate n 32) ≡ true
inline_spaces zero = refl
inline_spaces (suc n) = inline_spaces n

-- a text that begins with a byte other than white space and the marks # and %
abbrev pub opens : List ℕ → Bool
opens [] = false
opens (c ∷ cs) = nat_lt 32 c && nat_lt c 127 && not (eqb c 35) && not (eqb c 37)

pub record Opens (c : ℕ) : Type 0 where
  pub low : 32 < c
  pub high : c < 127
  pub hash : eqb c 35 ≡ false
  pub percent : eqb c 37 ≡ false

pub opens_is : (c : ℕ) (cs : List ℕ) → opens (c ∷ cs) ≡ true → Opens c
opens_is c cs e =
    let p = and_parts (nat_lt 32 c && nat_lt c 127 && not (eqb c 35)) (not (eqb c 37)) e in
    let q = and_parts (nat_lt 32 c && nat_lt c 127) (not (eqb c 35)) p.0 in
    let r = and_parts (nat_lt 32 c) (nat_lt c 127) q.0 in
    record { low = grind (arith, nat_tests); high = grind (arith, nat_tests); hash = not_true (eqb c 35) q.1; percent = not_true (eqb c 37) p.1 }

pub one_more : (m n : ℕ) → m ≡ n → 1 + m ≡ suc n
one_more m n e = omega arith

pub whites_spaces : (n c : ℕ) (cs : List ℕ) → is_white c ≡ false → whites (replicate n 32 ++ (c ∷ cs)) ≡ n
whites_spaces zero c cs e = rw e refl
whites_spaces (suc n) c cs e = one_more _ _ (whites_spaces n c cs e)

pub spaces_spaces : (n c : ℕ) (cs : List ℕ) → eqb c 32 ≡ false → spaces (replicate n 32 ++ (c ∷ cs)) ≡ n
spaces_spaces zero c cs e = rw e refl
spaces_spaces (suc n) c cs e = one_more _ _ (spaces_spaces n c cs e)

pub whites_all : (n : ℕ) → whites (replicate n 32) ≡ n
whites_all zero = refl
whites_all (suc n) = one_more _ _ (whites_all n)

pub spaces_all : (n : ℕ) → spaces (replicate n 32) ≡ n
spaces_all zero = refl
spaces_all (suc n) = one_more _ _ (spaces_all n)

pub drop_spaces : (n : ℕ) (rest : List ℕ) → drop n (replicate n 32 ++ rest) ≡ rest
drop_spaces zero rest = refl
drop_spaces (suc n) rest = drop_spaces n rest

pub opens_white : (c : ℕ) → Opens c → is_white c ≡ false
opens_white c o = rw (ne_eqb c 32 (λ e. omega (arith, o.low)), ne_eqb c 9 (λ e. omega (arith, o.low))) refl

pub opens_inline : (c : ℕ) → Opens c → is_inline_byte c ≡ true
opens_inline c o = rw (ne_eqb c 10 (λ e. omega (arith, o.low)), ne_eqb c 13 (λ e. omega (arith, o.low))) refl

opens_passed : (n c : ℕ) (cs : List ℕ) → Opens c → is_passed (replicate n 32 ++ (c ∷ cs)) ≡ false
opens_passed n c cs o = rw (whites_spaces n c cs (opens_white c o), drop_spaces n (c ∷ cs), o.hash) refl

opens_first : (n c : ℕ) (cs : List ℕ) (lines : List (List ℕ)) → Opens c → next_at ((replicate n 32 ++ (c ∷ cs)) ∷ lines) ≡ record { col = n; line = c ∷ cs; later = lines }
unfolding next_at
opens_first n c cs lines o =
    rw (opens_passed n c cs o, spaces_spaces n c cs (ne_eqb c 32 (λ e. omega (arith, o.low))), drop_spaces n (c ∷ cs)) refl

pub line_of-opens : (c : ℕ) (cs : List ℕ) → Opens c → line_of (c ∷ cs) ≡ c ∷ line_of cs
line_of-opens c cs o = line_of-append (c ∷ []) cs (rw (opens_inline c o) refl)

-- the next content behind spaces
pub next_spaces : (n : ℕ) (text : List ℕ) → opens text ≡ true → next_at (lines_of (replicate n 32 ++ text)) ≡ at_text n text
next_spaces n [] e = absurd cc
next_spaces n (c ∷ cs) e =
    let o = opens_is c cs e in
    rw (lines_of-append (replicate n 32) (c ∷ cs) (inline_spaces n), line_of-opens c cs o) (opens_first n c (line_of cs) (later_of (c ∷ cs)) o)

pub blank_passed : (n : ℕ) → is_passed (replicate n 32) ≡ true
blank_passed n = rw (whites_all n, sym (append-nil {A = ℕ} (replicate n 32)), drop_spaces n []) refl

blank_first : (n : ℕ) (lines : List (List ℕ)) → next_at (replicate n 32 ∷ lines) ≡ next_at lines
unfolding next_at
blank_first n lines = rw (blank_passed n) refl

-- a line of spaces is passed over
pub next_blank : (n : ℕ) (k : List ℕ) → IsBreak k → next_at (lines_of (replicate n 32 ++ k)) ≡ after k
next_blank n k b = rw (lines_of-append (replicate n 32) k (inline_spaces n), line_of-break k b, append-nil {A = ℕ} (replicate n 32)) (blank_first n (later_of k))
