-- The outcomes of an order exclude each other, and name the same each time.
use Rattle.std.proofs.Common.{◌≡◌, ℕ, Bool, zero, suc, ◌<◌, true, false, List, [], ◌∷◌, ◌++◌, map, take, Some, sym, ap, subst, ◌∙◌, arith, inl, inr}
use Rattle.std.specs.Prelude.{slice_get}
use Rattle.std.specs.List.{AllByRecursion}
use Rattle.std.proofs.lemmas.Option.{same_Some, slice_get_within}
use Rattle.compose_agree.specs.LetterCase.{AreApart, IsFirstClash}
use Rattle.compose_agree.specs.Order.{IsOrder, IsStuck}
use Rattle.compose_agree.specs.declared.letter_case.CaseClash.{CaseClash}
use Rattle.compose_order.specs.Agreed.{AllBrought, AreExportsApart, AreOrdered, HasNoPlace, IsCaseClash, IsNameClash, IsExportClash, IsNamedAt, IsUnbrought, NoClash, export_names, in_turn, name_of}
use Rattle.compose_order.specs.Needs.{LeftTree, is_brought}
use Rattle.compose_needs.specs.Lefts.{Lefts}
use Rattle.compose_order.proofs.OrderLaws.{all_split}

no_truth : true ≡ false → ⊥
no_truth e = absurd cc

no_clash : (names : List (List ℕ)) (a b : List ℕ) → AreApart names → IsNameClash names a b → ⊥
no_clash names a b apart c =
    no_truth (sym c.first.alike ∙ apart c.clash.later c.first.name (slice_get_within names c.clash.later c.first.name c.first.later) c.first.later c.clash.earlier c.first.like c.first.in_order c.first.earlier)

no_export_clash : (ls : List LeftTree) (a b : List ℕ) → AreExportsApart ls → IsExportClash ls a b → ⊥
no_export_clash ls a b apart c =
    let parts = all_split (λ (l : LeftTree). AreApart (export_names l.entity)) c.before (c.import ∷ c.after) (subst (λ xs. AreExportsApart xs) c.all apart) in
    no_clash (export_names c.import.entity) a b parts.1.0 c.clash

pub no_case_clash : (ls : List LeftTree) (a b : List ℕ) → NoClash ls → IsCaseClash ls a b → ⊥
no_case_clash ls a b apart (inl c) = no_clash _ a b apart.0 c
no_case_clash ls a b apart (inr c) = no_export_clash ls a b apart.1 c.1

all_at : {X : Type 0} (P : X → Type 0) (xs : List X) (n : ℕ) (x : X) → AllByRecursion P xs → slice_get xs n ≡ Some x → P x
all_at P [] n x all at = absurd cc
all_at P (y ∷ xs) zero x all at = subst P (same_Some y x at) all.0
all_at P (y ∷ xs) (suc n) x all at = all_at P xs n x all.1 at

pub none_unbrought : (left : Lefts) (ls : List LeftTree) (n : List ℕ) → AllBrought left ls → IsUnbrought left ls n → ⊥
none_unbrought left ls n all u =
    no_truth (sym (all_at (λ (l : LeftTree). is_brought left l ≡ true) ls u.number u.first.import all u.first.there) ∙ u.first.unbrought)

-- ---- one outcome alone

-- of names one clash alone comes first
OneClash : Type 0
OneClash = (names : List (List ℕ)) (c d : CaseClash) → IsFirstClash names c → IsFirstClash names d → c ≡ d

same_names : OneClash → (names : List (List ℕ)) (a b c d : List ℕ) → IsNameClash names a b → IsNameClash names c d → (a ≡ c) × (b ≡ d)
unfolding OneClash
same_names one names a b c d p q =
    let same = one names p.clash q.clash p.first q.first in
    (same_Some a c (sym p.earlier_is ∙ ap (λ (k : CaseClash). slice_get names k.earlier) same ∙ q.earlier_is), same_Some b d (sym p.later_is ∙ ap (λ (k : CaseClash). slice_get names k.later) same ∙ q.later_is))

-- the first import of whose exports two clash
same_import : (xs ys : List LeftTree) (l m : LeftTree) (after behind : List LeftTree) (a b c d : List ℕ) → xs ++ l ∷ after ≡ ys ++ m ∷ behind → AreExportsApart xs → AreExportsApart ys
    → IsNameClash (export_names l.entity) a b → IsNameClash (export_names m.entity) c d → l ≡ m
same_import [] [] l m after behind a b c d e p q u v = cc
same_import [] (y ∷ ys) l m after behind a b c d e p q u v = let same : l ≡ y = cc in absurd (no_clash (export_names y.entity) a b q.0 (subst (λ (k : LeftTree). IsNameClash (export_names k.entity) a b) same u))
same_import (x ∷ xs) [] l m after behind a b c d e p q u v = let same : m ≡ x = cc in absurd (no_clash (export_names x.entity) c d p.0 (subst (λ (k : LeftTree). IsNameClash (export_names k.entity) c d) same v))
same_import (x ∷ xs) (y ∷ ys) l m after behind a b c d e p q u v = let rest : xs ++ l ∷ after ≡ ys ++ m ∷ behind = cc in same_import xs ys l m after behind a b c d rest p.1 q.1 u v

same_exports : OneClash → (ls : List LeftTree) (a b c d : List ℕ) → IsExportClash ls a b → IsExportClash ls c d → (a ≡ c) × (b ≡ d)
same_exports one ls a b c d p q =
    let same = same_import p.before q.before p.import q.import p.after q.after a b c d (sym p.all ∙ q.all) p.apart q.apart p.clash q.clash in
    same_names one (export_names q.import.entity) a b c d (subst (λ (l : LeftTree). IsNameClash (export_names l.entity) a b) same p.clash) q.clash

pub one_case_clash : ((names : List (List ℕ)) (c d : CaseClash) → IsFirstClash names c → IsFirstClash names d → c ≡ d) → (ls : List LeftTree) (a b c d : List ℕ) → IsCaseClash ls a b → IsCaseClash ls c d → (a ≡ c) × (b ≡ d)
unfolding OneClash
one_case_clash one ls a b c d (inl p) (inl q) = same_names one (map name_of ls) a b c d p q
one_case_clash one ls a b c d (inl p) (inr q) = absurd (no_clash (map name_of ls) a b q.0 p)
one_case_clash one ls a b c d (inr p) (inl q) = absurd (no_clash (map name_of ls) c d p.0 q)
one_case_clash one ls a b c d (inr p) (inr q) = same_exports one ls a b c d p.1 q.1

-- the name of an import by its number
same_named : (ls : List LeftTree) (i j : ℕ) (m n : List ℕ) → i ≡ j → IsNamedAt ls i m → IsNamedAt ls j n → m ≡ n
same_named ls i j m n e p q = p.named ∙ ap (λ (l : LeftTree). l.name) (same_Some p.import q.import (sym p.there ∙ ap (λ k. slice_get ls k) e ∙ q.there)) ∙ sym q.named

all_before : {X : Type 0} (P : X → Type 0) (xs : List X) (m n : ℕ) (x : X) → AllByRecursion P (take n xs) → m < n → slice_get xs m ≡ Some x → P x
all_before P [] m n x all lt at = absurd cc
all_before P (y ∷ xs) m zero x all lt at = absurd (omega (arith, lt))
all_before P (y ∷ xs) zero (suc n) x all lt at = subst P (same_Some y x at) all.0
all_before P (y ∷ xs) (suc m) (suc n) x all lt at = all_before P xs m n x all.1 (omega (arith, lt)) at

neither_less : (a b : ℕ) → (a < b → ⊥) → (b < a → ⊥) → a ≡ b
neither_less a b p q = omega (arith, p, q)

not_before : (left : Lefts) (ls : List LeftTree) (m n : List ℕ) (p : IsUnbrought left ls m) (q : IsUnbrought left ls n) → p.number < q.number → ⊥
not_before left ls m n p q lt = no_truth (sym (all_before (λ (l : LeftTree). is_brought left l ≡ true) ls p.number q.number p.first.import q.first.brought lt p.first.there) ∙ p.first.unbrought)

pub one_unbrought : (left : Lefts) (ls : List LeftTree) (m n : List ℕ) → IsUnbrought left ls m → IsUnbrought left ls n → m ≡ n
one_unbrought left ls m n p q = same_named ls p.number q.number m n (neither_less p.number q.number (not_before left ls m n p q) (not_before left ls n m q p)) p.named q.named

pub one_without_place : ((ready : List ℕ → ℕ → Bool) (all : List ℕ) (i j : ℕ) → IsStuck ready all i → IsStuck ready all j → i ≡ j) → (left : Lefts) (ls : List LeftTree) (m n : List ℕ) → HasNoPlace left ls m → HasNoPlace left ls n → m ≡ n
one_without_place one left ls m n p q = same_named ls p.number q.number m n (one _ _ p.number q.number p.stuck q.stuck) p.named q.named

pub one_ordered : ((ready : List ℕ → ℕ → Bool) (all xs ys : List ℕ) → IsOrder ready all xs → IsOrder ready all ys → xs ≡ ys) → (left : Lefts) (ls xs ys : List LeftTree) → AreOrdered left ls xs → AreOrdered left ls ys → xs ≡ ys
one_ordered one left ls xs ys p q = p.written ∙ ap (in_turn ls) (one _ _ p.order q.order p.numbered.in_order q.numbered.in_order) ∙ sym q.written
