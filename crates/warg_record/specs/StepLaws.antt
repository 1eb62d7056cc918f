-- What is known of the steps of a reading that came to its end.
use Rattle.std.proofs.Common.{◌≡◌, ℕ, Bool, true, false, cond, eqb, Option, Some, None, option_and_then, refl, sym, ap, ◌∙◌, inl, inr}
use Rattle.std.proofs.lemmas.Bool.{cases_Bool, eqb-true}

-- a step that read something
pub bind_some : {A B : Type 0} (o : Option A) (f : A → Option B) (y : B) → option_and_then f o ≡ Some y → (x : A) × (o ≡ Some x) × (f x ≡ Some y)
bind_some (Some x) f y e = (x, refl, e)
bind_some None f y e = absurd cc

-- a test that refuses, and did not
pub guard_some : {A : Type 0} (b : Bool) (o : Option A) (y : A) → cond b None o ≡ Some y → (b ≡ false) × (o ≡ Some y)
guard_some true o y e = absurd cc
guard_some false o y e = (refl, e)

-- a test that lets pass, and did
pub pass_some : {A : Type 0} (b : Bool) (o : Option A) (y : A) → cond b o None ≡ Some y → (b ≡ true) × (o ≡ Some y)
pass_some true o y e = (refl, e)
pass_some false o y e = absurd cc

abbrev some : {A : Type 0} → A → Option A
some x = Some x

abbrev none : {A : Type 0} → Option A
none = None

-- two values that were read are one
pub some_is : {A : Type 0} (x y : A) → some x ≡ some y → x ≡ y
some_is x y e = cc

-- nothing is no value
pub never : {A P : Type 0} (y : A) → none ≡ some y → P
never y e = absurd cc

-- one arm of a choice by a number
pub pick : {A P : Type 0} (b c : ℕ) (x y z : A) → cond (eqb b c) x y ≡ z → (b ≡ c → x ≡ z → P) → (y ≡ z → P) → P
pick b c x y z e here there =
    elim (cases_Bool (eqb b c)) [
      | inl is ↦ here (eqb-true b c is) (sym (ap (λ (t : Bool). cond t x y) is) ∙ e)
      | inr is ↦ there (sym (ap (λ (t : Bool). cond t x y) is) ∙ e)
    ]
