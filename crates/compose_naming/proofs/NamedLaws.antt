-- What is named in scopes that are open, with the bits of a relation.
use Rattle.std.proofs.Common.{◌≡◌, ℕ, Bool, true, false, cond, List, ◌∷◌, Option, Some, None, refl, sym, ap, ◌∙◌}
use Rattle.std.specs.Prelude.{◌||◌, nat_lt}
use Rattle.comp_entity.specs.Entity.{Name}
use Rattle.comp_entity.specs.Fits.{same_name}
use Rattle.compose_naming.specs.Bits.{Scope, bit_in, further_out, opened, outermost, with_bit}
use Rattle.compose_naming.specs.GrownLaws.{name_is}
use Rattle.compose_naming.specs.NamingBits.{bits_of, inside, nothing, with_name}

-- scopes have just what is named so far, with these bits
abbrev pub Fits : (Name → Bool) → (Name → Bool) → List Scope → Type 0
Fits named bit scopes = bit_in scopes ≡ bits_of named bit

or_false : (b : Bool) → (b || false) ≡ b
or_false true = refl
or_false false = refl

or_true : (b : Bool) → (b || true) ≡ true
or_true true = refl
or_true false = refl

-- what is named is named already
pub still_named : (named : Name → Bool) (n : Name) → named n ≡ true → with_name named (Some n) ≡ named
still_named named n is = λ i m. one m (same_name n m) refl i
  where
    one : (m : Name) (x : Bool) → same_name n m ≡ x → (named m || same_name n m) ≡ named m
    one m false e = (λ i. named m || e i) ∙ or_false (named m)
    one m true e = (λ i. named m || e i) ∙ or_true (named m) ∙ sym (ap named (sym (name_is n m e)) ∙ is)

pub same_bits : (named bit : Name → Bool) (n : Name) (scopes : List Scope) → named n ≡ true → Fits named bit scopes
    → Fits (with_name named (Some n)) bit scopes
same_bits named bit n scopes is fits = fits ∙ ap (λ k. bits_of k bit) (sym (still_named named n is))

pub bit_known : (named bit : Name → Bool) (n : Name) (scopes : List Scope) → named n ≡ true → Fits named bit scopes
    → bit_in scopes n ≡ Some (bit n)
bit_known named bit n scopes is fits = (λ i. fits i n) ∙ (λ i. cond (is i) (Some (bit n)) None)

pub bit_unknown : (named bit : Name → Bool) (n : Name) (scopes : List Scope) → named n ≡ false → Fits named bit scopes
    → bit_in scopes n ≡ None
bit_unknown named bit n scopes is fits = (λ i. fits i n) ∙ (λ i. cond (is i) (Some (bit n)) None)

-- a type that is new
pub noted_fits : (named bit : Name → Bool) (n : Name) (s : Scope) (around : List Scope) → nat_lt n.out s.width ≡ true
    → Fits named bit (s ∷ around) → Fits (with_name named (Some n)) bit (with_bit n (bit n) s ∷ around)
noted_fits named bit n s around own fits = λ i m. one m (same_name n m) refl i
  where
    one : (m : Name) (x : Bool) → same_name n m ≡ x
        → bit_in (with_bit n (bit n) s ∷ around) m ≡ bits_of (with_name named (Some n)) bit m
    one m false e =
        (λ i. cond (nat_lt m.out s.width) (cond (e i) (Some (bit n)) (s.bits m)) (bit_in around (further_out s.width m)))
        ∙ (λ i. fits i m)
        ∙ (λ i. cond (sym (or_false (named m)) i) (Some (bit m)) None)
        ∙ (λ i. cond (named m || sym e i) (Some (bit m)) None)
    one m true e =
        let here : nat_lt m.out s.width ≡ true = ap (λ (k : Name). nat_lt k.out s.width) (sym (name_is n m e)) ∙ own in
        (λ i. cond (nat_lt m.out s.width) (cond (e i) (Some (bit n)) (s.bits m)) (bit_in around (further_out s.width m)))
        ∙ (λ i. cond (here i) (Some (bit n)) (bit_in around (further_out s.width m)))
        ∙ ap (λ (k : Name). Some (bit k)) (name_is n m e)
        ∙ (λ i. cond (sym (or_true (named m)) i) (Some (bit m)) None)
        ∙ (λ i. cond (named m || sym e i) (Some (bit m)) None)

-- a scope that is opened
pub opened_fits : (width : ℕ) (named bit own : Name → Bool) (scopes : List Scope) → Fits named bit scopes
    → Fits (inside width nothing named) (inside width own bit) (opened width ∷ scopes)
opened_fits width named bit own scopes fits = λ i n. one n (nat_lt n.out width) refl i
  where
    one : (n : Name) (x : Bool) → nat_lt n.out width ≡ x
        → bit_in (opened width ∷ scopes) n ≡ bits_of (inside width nothing named) (inside width own bit) n
    one n x e = by x e
      where
        out : Name
        out = further_out width n

        by : (x : Bool) → nat_lt n.out width ≡ x
            → cond (nat_lt n.out width) None (bit_in scopes out)
            ≡ cond (cond (nat_lt n.out width) false (named out)) (Some (cond (nat_lt n.out width) (own n) (bit out))) None
        by true e =
            (λ i. cond (e i) None (bit_in scopes out))
            ∙ (λ i. cond (cond (sym e i) false (named out)) (Some (cond (sym e i) (own n) (bit out))) None)
        by false e =
            (λ i. cond (e i) None (bit_in scopes out))
            ∙ (λ i. fits i out)
            ∙ (λ i. cond (cond (sym e i) false (named out)) (Some (cond (sym e i) (own n) (bit out))) None)

-- nothing is named at first
pub first_fits : (bit : Name → Bool) → Fits nothing bit outermost
first_fits bit = λ i n. by (nat_lt n.out 2) i
  where
    unknown : Option Bool
    unknown = None

    by : (x : Bool) → cond x unknown unknown ≡ unknown
    by true = refl
    by false = refl
