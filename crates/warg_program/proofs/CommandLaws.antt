-- The words of commands.
use Rattle.std.proofs.Common.{◌≡◌, ◌≤◌, ◌<◌, ◌^◌, ℕ, List, [], ◌∷◌, codes, length, get_or, refl, sym, ap, subst, ◌∙◌, arith}
use Rattle.warg_program.specs.Command.{Asked, Link, Compose, Assemble, Demo, Sources, IsCommand, IsDemo, IsNumber}

-- a list of three
pub three_are : {X : Type 0} (xs : List X) (a b c : X) → 3 ≤ length xs → length xs < 4 → xs ≡ get_or xs 0 a ∷ get_or xs 1 b ∷ get_or xs 2 c ∷ []
three_are [] a b c least most = absurd (omega arith)
three_are (x ∷ []) a b c least most = absurd (omega arith)
three_are (x ∷ y ∷ []) a b c least most = absurd (omega arith)
three_are (x ∷ y ∷ z ∷ []) a b c least most = refl
three_are (x ∷ y ∷ z ∷ w ∷ xs) a b c least most = absurd (omega arith)

-- a list of four
pub four_are : {X : Type 0} (xs : List X) (a b c d : X) → 4 ≤ length xs → length xs < 5
    → xs ≡ get_or xs 0 a ∷ get_or xs 1 b ∷ get_or xs 2 c ∷ get_or xs 3 d ∷ []
four_are [] a b c d least most = absurd (omega arith)
four_are (w ∷ []) a b c d least most = absurd (omega arith)
four_are (w ∷ x ∷ []) a b c d least most = absurd (omega arith)
four_are (w ∷ x ∷ y ∷ []) a b c d least most = absurd (omega arith)
four_are (w ∷ x ∷ y ∷ z ∷ []) a b c d least most = refl
four_are (w ∷ x ∷ y ∷ z ∷ u ∷ xs) a b c d least most = absurd (omega arith)

-- a list of five
pub five_are : {X : Type 0} (xs : List X) (a b c d e : X) → 5 ≤ length xs → length xs < 6
    → xs ≡ get_or xs 0 a ∷ get_or xs 1 b ∷ get_or xs 2 c ∷ get_or xs 3 d ∷ get_or xs 4 e ∷ []
five_are [] a b c d e least most = absurd (omega arith)
five_are (v ∷ []) a b c d e least most = absurd (omega arith)
five_are (v ∷ w ∷ []) a b c d e least most = absurd (omega arith)
five_are (v ∷ w ∷ x ∷ []) a b c d e least most = absurd (omega arith)
five_are (v ∷ w ∷ x ∷ y ∷ []) a b c d e least most = absurd (omega arith)
five_are (v ∷ w ∷ x ∷ y ∷ z ∷ []) a b c d e least most = refl
five_are (v ∷ w ∷ x ∷ y ∷ z ∷ u ∷ xs) a b c d e least most = absurd (omega arith)

-- the first letter of the first word
abbrev first_letter : List (List ℕ) → ℕ
first_letter words = get_or (get_or words 0 []) 0 0

-- each command has one of its own
abbrev letter_of : Asked → ℕ
letter_of (Link root out) = 108
letter_of (Compose root config out) = 99
letter_of (Assemble sources out) = 97
letter_of (Demo seed count) = 100

letter_is : (words : List (List ℕ)) (c : Asked) → IsCommand words c → first_letter words ≡ letter_of c
letter_is words (Link root out) h = ap first_letter h
letter_is words (Compose root config out) h = ap first_letter h
letter_is words (Assemble sources out) h = ap first_letter h
letter_is words (Demo seed count) h = ap first_letter h.are

-- words are not those of two commands that begin with different letters
apart : {P : Type 0} (words : List (List ℕ)) (c d : Asked) → IsCommand words c → IsCommand words d → (letter_of c ≡ letter_of d → ⊥) → P
apart words c d h k differ = absurd (differ (sym (letter_is words c h) ∙ letter_is words d k))

-- the path of the component that words name
pub one_root : (words : List (List ℕ)) (root out other last : List ℕ) → IsCommand words (Link root out) → IsCommand words (Link other last) → root ≡ other
one_root words root out other last h k = ap (λ (l : List (List ℕ)). get_or l 1 []) (sym h ∙ k)

-- words that are a link are no other command
pub is_link : {P : Type 0} (words : List (List ℕ)) (root out : List ℕ) (c : Asked) → IsCommand words (Link root out) → IsCommand words c → ((other last : List ℕ) → c ≡ Link other last → root ≡ other → P) → P
is_link words root out (Link other last) h k then = then other last refl (one_root words root out other last h k)
is_link words root out (Compose other config last) h k then = apart words (Link root out) (Compose other config last) h k (λ e. omega (arith, e))
is_link words root out (Assemble sources last) h k then = apart words (Link root out) (Assemble sources last) h k (λ e. omega (arith, e))
is_link words root out (Demo seed count) h k then = apart words (Link root out) (Demo seed count) h k (λ e. omega (arith, e))

-- words that are a composition are no other command
same_files : (words : List (List ℕ)) (root config out a b c : List ℕ) → IsCommand words (Compose root config out) → IsCommand words (Compose a b c) → (root ≡ a) × (config ≡ b)
same_files words root config out a b c h k =
    let same = sym h ∙ k in (
      ap (λ (l : List (List ℕ)). get_or l 1 []) same,
      ap (λ (l : List (List ℕ)). get_or l 2 []) same,
    )

pub is_compose : {P : Type 0} (words : List (List ℕ)) (root config out : List ℕ) (c : Asked) → IsCommand words (Compose root config out) → IsCommand words c → ((a b last : List ℕ) → c ≡ Compose a b last → root ≡ a → config ≡ b → P) → P
is_compose words root config out (Link a last) h k then = apart words (Compose root config out) (Link a last) h k (λ e. omega (arith, e))
is_compose words root config out (Compose a b last) h k then = let same = same_files words root config out a b last h k in then a b last refl same.0 same.1
is_compose words root config out (Assemble sources last) h k then = apart words (Compose root config out) (Assemble sources last) h k (λ e. omega (arith, e))
is_compose words root config out (Demo seed count) h k then = apart words (Compose root config out) (Demo seed count) h k (λ e. omega (arith, e))

-- words that are an assembly are no other command
same_sources : (words : List (List ℕ)) (sources other : Sources) (out last : List ℕ) → IsCommand words (Assemble sources out) → IsCommand words (Assemble other last) → sources ≡ other
same_sources words sources other out last h k =
    let same = sym h ∙ k in
    ap (λ (l : List (List ℕ)). make (get_or l 1 []) sources.replies sources.checked) same ∙ ap (λ (l : List (List ℕ)). make other.plan (get_or l 2 []) sources.checked) same
    ∙ ap (λ (l : List (List ℕ)). make other.plan other.replies (get_or l 3 [])) same
  where
    make : List ℕ → List ℕ → List ℕ → Sources
    make plan replies checked = record { plan = plan; replies = replies; checked = checked }

pub is_assemble : {P : Type 0} (words : List (List ℕ)) (sources : Sources) (out : List ℕ) (c : Asked) → IsCommand words (Assemble sources out) → IsCommand words c → ((other : Sources) (last : List ℕ) → c ≡ Assemble other last → sources ≡ other → P) → P
is_assemble words sources out (Link root last) h k then = apart words (Assemble sources out) (Link root last) h k (λ e. omega (arith, e))
is_assemble words sources out (Compose root config last) h k then = apart words (Assemble sources out) (Compose root config last) h k (λ e. omega (arith, e))
is_assemble words sources out (Demo seed count) h k then = apart words (Assemble sources out) (Demo seed count) h k (λ e. omega (arith, e))
is_assemble words sources out (Assemble other last) h k then = then other last refl (same_sources words sources other out last h k)

-- words that are none of the commands
pub is_none : (words : List (List ℕ)) → ((root out : List ℕ) → IsCommand words (Link root out) → ⊥) → ((root config out : List ℕ) → IsCommand words (Compose root config out) → ⊥)
    → ((sources : Sources) (out : List ℕ) → IsCommand words (Assemble sources out) → ⊥) → ((seed count : ℕ) → IsCommand words (Demo seed count) → ⊥) → (a : Asked) → IsCommand words a → ⊥
is_none words link compose assemble demo (Link root out) h = link root out h
is_none words link compose assemble demo (Compose root config out) h = compose root config out h
is_none words link compose assemble demo (Assemble sources out) h = assemble sources out h
is_none words link compose assemble demo (Demo seed count) h = demo seed count h

-- words are a demo exactly where its numbers are in bounds
pub demo_is : (words : List (List ℕ)) (seed count : List ℕ) (c : Asked) → words ≡ codes "demo" ∷ seed ∷ count ∷ []
    → ((s : ℕ) × (n : ℕ) × (c ≡ Demo s n) × IsNumber seed s × (s < 2 ^ 64) × IsNumber count n × (1 ≤ n) × (n ≤ 200)) → IsCommand words c
demo_is words seed count c are t = subst (IsCommand words) (sym t.2) (record {
  seed_text = seed;
  count_text = count;
  are = are;
  seed_is = t.3;
  seed_fits = t.4;
  count_is = t.5;
  some = t.6;
  few = t.7;
})

pub no_demo : (words : List (List ℕ)) (seed count : List ℕ) → words ≡ codes "demo" ∷ seed ∷ count ∷ []
    → ((s n : ℕ) → IsNumber seed s → s < 2 ^ 64 → IsNumber count n → 1 ≤ n → n ≤ 200 → ⊥) → (s n : ℕ) → IsDemo words s n → ⊥
no_demo words seed count are none s n h =
    let same = sym h.are ∙ are in
    none s n (subst (λ t. IsNumber t s) (ap (λ (l : List (List ℕ)). get_or l 1 []) same) h.seed_is) h.seed_fits
    (subst (λ t. IsNumber t n) (ap (λ (l : List (List ℕ)). get_or l 2 []) same) h.count_is) h.some h.few
