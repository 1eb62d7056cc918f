-- The first left import that may not have its naming bits.
use Rattle.std.proofs.Common.{◌≡◌, ◌<◌, ◌+◌, ℕ, zero, suc, List, [], ◌∷◌, ◌++◌, length, take, Option, Some, None, refl, sym, ap, ◌∙◌, arith}
use Rattle.std.specs.Prelude.{option_and_then, slice_get}
use Rattle.std.proofs.lemmas.Option.{same_Some}
use Rattle.compose_order.specs.Needs.{LeftTree}
use Rattle.compose_naming.specs.Bits.{HaveBits, IsFirstWithoutBit, Scope, behind_left, behind_lefts, outermost}
use Rattle.compose_naming.specs.GrownLaws.{no_scopes}
use Rattle.compose_naming.specs.NamingBits.{HaveNamingBits}
use Rattle.compose_naming.proofs.FoundLaws.{bits_are_had}
use Rattle.compose_naming.proofs.LeftLaws.{lefts_push}
use Rattle.compose_naming.proofs.PassingLaws.{bits_are_found}

there_is : (ls : List LeftTree) (n : ℕ) → n < length ls → (l : LeftTree) × (slice_get ls n ≡ Some l)
there_is [] n lt = absurd (omega (arith, lt))
there_is (k ∷ ls) zero lt = (k, refl)
there_is (k ∷ ls) (suc n) lt = there_is ls n (omega (arith, lt))

taken_more : (ls : List LeftTree) (n : ℕ) (l : LeftTree) → slice_get ls n ≡ Some l → take (suc n) ls ≡ take n ls ++ l ∷ []
taken_more [] n l there = absurd cc
taken_more (k ∷ ls) zero l there = ap (λ (k : LeftTree). k ∷ []) (same_Some k l there)
taken_more (k ∷ ls) (suc n) l there = ap (λ ls. k ∷ ls) (taken_more ls n l there)

next : (n : ℕ) → n + 1 ≡ suc n
next n = omega arith

-- behind those up to one
behind_it : (ls : List LeftTree) (n : ℕ) (l : LeftTree) (scopes : List Scope) → slice_get ls n ≡ Some l
    → behind_lefts (take n ls) outermost ≡ Some scopes → behind_lefts (take (n + 1) ls) outermost ≡ behind_left l scopes
behind_it ls n l scopes there before =
    ap (λ k. behind_lefts (take k ls) outermost) (next n)
    ∙ ap (λ ls. behind_lefts ls outermost) (taken_more ls n l there)
    ∙ lefts_push (take n ls) l outermost
    ∙ ap (option_and_then (behind_left l)) before

pub had_before : (ls : List LeftTree) (n : ℕ) → IsFirstWithoutBit ls n → HaveNamingBits (take n ls)
had_before ls n h = bits_are_had (take n ls) (record { scopes = h.scopes; are = h.before })

pub not_had : (ls : List LeftTree) (n : ℕ) → IsFirstWithoutBit ls n → HaveNamingBits (take (n + 1) ls) → ⊥
not_had ls n h had =
    let found = bits_are_found (take (n + 1) ls) had in
    no_scopes found.scopes (sym (behind_it ls n h.import h.scopes h.there h.before ∙ h.fails) ∙ found.are)

pub first_of : (ls : List LeftTree) (n : ℕ) → n < length ls → HaveNamingBits (take n ls) → (HaveNamingBits (take (n + 1) ls) → ⊥)
    → IsFirstWithoutBit ls n
first_of ls n lt before fails = by (behind_left there.0 found.scopes) refl
  where
    there : (l : LeftTree) × (slice_get ls n ≡ Some l)
    there = there_is ls n lt

    found : HaveBits (take n ls)
    found = bits_are_found (take n ls) before

    by : (o : Option (List Scope)) → behind_left there.0 found.scopes ≡ o → IsFirstWithoutBit ls n
    by None e = record { import = there.0; there = there.1; scopes = found.scopes; before = found.are; fails = e }
    by (Some t) e = absurd (fails (bits_are_had (take (n + 1) ls) (record {
      scopes = t;
      are = behind_it ls n there.0 found.scopes there.1 found.are ∙ e;
    })))
