-- The first clash of names is one alone.
use Rattle.std.proofs.Common.{◌≡◌, ℕ, ◌<◌, true, false, List, sym, ap, ◌∙◌, arith}
use Rattle.std.specs.Prelude.{slice_get}
use Rattle.std.proofs.lemmas.Option.{same_Some}
use Rattle.compose_agree.specs.LetterCase.{IsFirstClash, is_like}
use Rattle.compose_agree.specs.declared.letter_case.CaseClash.{CaseClash}

no_truth : true ≡ false → ⊥
no_truth e = absurd cc

neither_less : (a b : ℕ) → (a < b → ⊥) → (b < a → ⊥) → a ≡ b
neither_less a b p q = omega (arith, p, q)

-- no name before the first one that clashes does
not_before : (names : List (List ℕ)) (c d : CaseClash) → IsFirstClash names c → IsFirstClash names d → c.later < d.later → ⊥
not_before names c d p q lt = no_truth (sym p.alike ∙ q.first c.later p.name lt p.later c.earlier p.like p.in_order p.earlier)

same_name : (names : List (List ℕ)) (c d : CaseClash) (p : IsFirstClash names c) (q : IsFirstClash names d) → c.later ≡ d.later → p.name ≡ q.name
same_name names c d p q e = same_Some p.name q.name (sym p.later ∙ ap (λ n. slice_get names n) e ∙ q.later)

-- and no earlier one is like it before the first that is
no_earlier : (names : List (List ℕ)) (c d : CaseClash) (p : IsFirstClash names c) (q : IsFirstClash names d) → p.name ≡ q.name → c.earlier < d.earlier → ⊥
no_earlier names c d p q e lt = no_truth (sym p.alike ∙ ap (λ n. is_like n p.like) e ∙ q.none c.earlier p.like lt p.earlier)

pub one_first_clash : (names : List (List ℕ)) (c d : CaseClash) → IsFirstClash names c → IsFirstClash names d → c ≡ d
one_first_clash names c d p q =
    let later = neither_less c.later d.later (not_before names c d p q) (not_before names d c q p) in
    let name = same_name names c d p q later in
    let earlier = neither_less c.earlier d.earlier (no_earlier names c d p q name) (no_earlier names d c q p (sym name)) in
    λ i. record { earlier = earlier i; later = later i }
