-- Left imports, one more each time.
use Rattle.std.proofs.Common.{◌≡◌, ◌<◌, ◌≤◌, ◌+◌, ℕ, zero, suc, Bool, true, false, List, [], ◌∷◌, ◌++◌, get_or, length, map, take, Option, Some, None, refl, sym, ap, ◌∙◌, arith}
use Rattle.std.specs.Prelude.{nat_lt, option_and_then, slice_get}
use Rattle.std.proofs.lemmas.List.{take_more}
use Rattle.std.proofs.lemmas.Option.{same_Some}
use Rattle.compose_order.specs.Needs.{LeftTree}
use Rattle.compose_naming.specs.Bits.{HaveBits, IsFirstWithoutBit, Scope, behind_left, behind_lefts, outermost}

pub lefts_push : (ls : List LeftTree) (l : LeftTree) (s : List Scope)
    → behind_lefts (ls ++ l ∷ []) s ≡ option_and_then (behind_left l) (behind_lefts ls s)
lefts_push [] l s = one (behind_left l s)
  where
    one : (o : Option (List Scope)) → option_and_then (behind_lefts []) o ≡ o
    one None = refl
    one (Some t) = refl
lefts_push (k ∷ ls) l s = one (behind_left k s) (lefts_push ls l)
  where
    one : (o : Option (List Scope)) → ((t : List Scope) → behind_lefts (ls ++ l ∷ []) t ≡ option_and_then (behind_left l) (behind_lefts ls t))
        → option_and_then (behind_lefts (ls ++ l ∷ [])) o ≡ option_and_then (behind_left l) (option_and_then (behind_lefts ls) o)
    one None rest = refl
    one (Some t) rest = rest t

-- one that passes
pub left_passed : (ls : List LeftTree) (i : ℕ) (l : LeftTree) (s t : List Scope) → take (i + 1) ls ≡ take i ls ++ l ∷ []
    → behind_lefts (take i ls) outermost ≡ Some s → behind_left l s ≡ Some t → behind_lefts (take (i + 1) ls) outermost ≡ Some t
left_passed ls i l s t more before passed =
    ap (λ ls. behind_lefts ls outermost) more ∙ lefts_push (take i ls) l outermost ∙ ap (option_and_then (behind_left l)) before ∙ passed

-- ---- imports as lists of what they are

pub mapped_there : {X Y : Type 0} (f : X → Y) (xs : List X) (i : ℕ) (x : X) → i < length xs → x ≡ get_or xs i x
    → slice_get (map f xs) i ≡ Some (f x)
mapped_there f [] i x lt is = absurd (omega (arith, lt))
mapped_there f (y ∷ xs) zero x lt is = ap (λ z. Some (f z)) (sym is)
mapped_there f (y ∷ xs) (suc i) x lt is = mapped_there f xs i x (omega (arith, lt)) is

mapped_length : {X Y : Type 0} (f : X → Y) (xs : List X) → length (map f xs) ≡ length xs
mapped_length f [] = refl
mapped_length f (x ∷ xs) = ap suc (mapped_length f xs)

mapped_get : {X Y : Type 0} (f : X → Y) (xs : List X) (i : ℕ) (x : X) → get_or (map f xs) i (f x) ≡ f (get_or xs i x)
mapped_get f [] i x = refl
mapped_get f (y ∷ xs) zero x = refl
mapped_get f (y ∷ xs) (suc i) x = mapped_get f xs i x

pub mapped_more : {X Y : Type 0} (f : X → Y) (xs : List X) (i : ℕ) (x : X) → i < length xs → x ≡ get_or xs i x
    → take (i + 1) (map f xs) ≡ take i (map f xs) ++ f x ∷ []
mapped_more f xs i x lt is =
    take_more (map f xs) i (f x) (let same = mapped_length f xs in omega (arith, lt, same))
    ∙ ap (λ z. take i (map f xs) ++ z ∷ []) (mapped_get f xs i x ∙ ap f (sym is))

pub all_taken : {X Y : Type 0} (f : X → Y) (xs : List X) (i : ℕ) → length xs ≤ i → take i (map f xs) ≡ map f xs
all_taken f [] zero ge = refl
all_taken f [] (suc i) ge = refl
all_taken f (y ∷ xs) zero ge = absurd (omega (arith, ge))
all_taken f (y ∷ xs) (suc i) ge = ap (λ zs. f y ∷ zs) (all_taken f xs i (omega (arith, ge)))

-- ---- imports that have the bit, and those that lack it

no_scopes : {A : Type 0} (s : List Scope) → None ≡ Some s → A
no_scopes s e = absurd cc

found_at : (ls : List LeftTree) (n : ℕ) (l : LeftTree) (s t : List Scope) → slice_get ls n ≡ Some l
    → behind_lefts (take n ls) s ≡ Some t → behind_left l t ≡ None → behind_lefts ls s ≡ None
found_at [] n l s t there before fails = absurd cc
found_at (k ∷ ls) zero l s t there before fails =
    ap (option_and_then (behind_lefts ls)) (ap (behind_left k) (same_Some s t before)
    ∙ ap (λ (k : LeftTree). behind_left k t) (same_Some k l there) ∙ fails)
found_at (k ∷ ls) (suc n) l s t there before fails =
    one (behind_left k s) before (λ u before. found_at ls n l u t there before fails)
  where
    one : (o : Option (List Scope)) → option_and_then (behind_lefts (take n ls)) o ≡ Some t
        → ((u : List Scope) → behind_lefts (take n ls) u ≡ Some t → behind_lefts ls u ≡ None)
        → option_and_then (behind_lefts ls) o ≡ None
    one None before rest = refl
    one (Some u) before rest = rest u before

pub bits_or_not : (ls : List LeftTree) (n : ℕ) → HaveBits ls → IsFirstWithoutBit ls n → ⊥
bits_or_not ls n has lacks =
    no_scopes has.scopes (sym (found_at ls n lacks.import outermost lacks.scopes lacks.there lacks.before lacks.fails) ∙ has.are)

-- one that lacks it is not before another
not_before : (ls : List LeftTree) (m n : ℕ) (k : LeftTree) (s t u : List Scope) → m < n → slice_get ls m ≡ Some k
    → behind_lefts (take m ls) s ≡ Some t → behind_left k t ≡ None → behind_lefts (take n ls) s ≡ Some u → ⊥
not_before [] m n k s t u lt there before fails after = absurd cc
not_before (x ∷ ls) m zero k s t u lt there before fails after = absurd (omega (arith, lt))
not_before (x ∷ ls) zero (suc n) k s t u lt there before fails after =
    no_scopes u (sym (ap (option_and_then (behind_lefts (take n ls)))
    (ap (behind_left x) (same_Some s t before) ∙ ap (λ (k : LeftTree). behind_left k t) (same_Some x k there) ∙ fails)) ∙ after)
not_before (x ∷ ls) (suc m) (suc n) k s t u lt there before fails after =
    one (behind_left x s) before after (λ v before after. not_before ls m n k v t u (omega (arith, lt)) there before fails after)
  where
    one : (o : Option (List Scope)) → option_and_then (behind_lefts (take m ls)) o ≡ Some t
        → option_and_then (behind_lefts (take n ls)) o ≡ Some u
        → ((v : List Scope) → behind_lefts (take m ls) v ≡ Some t → behind_lefts (take n ls) v ≡ Some u → ⊥) → ⊥
    one None before after rest = absurd cc
    one (Some v) before after rest = rest v before after

pub one_first : (ls : List LeftTree) (m n : ℕ) → IsFirstWithoutBit ls m → IsFirstWithoutBit ls n → m ≡ n
one_first ls m n a b = by (nat_lt m n) refl (nat_lt n m) refl
  where
    by : (x : Bool) → nat_lt m n ≡ x → (y : Bool) → nat_lt n m ≡ y → m ≡ n
    by true e y f = absurd (not_before ls m n a.import outermost a.scopes b.scopes (grind (arith, e)) a.there a.before a.fails b.before)
    by false e true f = absurd (not_before ls n m b.import outermost b.scopes a.scopes (grind (arith, f)) b.there b.before b.fails a.before)
    by false e false f = grind (arith, e, f)
