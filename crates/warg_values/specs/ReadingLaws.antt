-- What is known of the steps of a reading that came to its end.
use Rattle.std.proofs.Common.{◌≡◌, ◌<◌, ◌≤◌, ℕ, Bool, true, false, cond, eqb, ltb, Result, Ok, Err, refl, sym, ap, ◌∙◌, inl, inr}
use Rattle.std.proofs.lemmas.Bool.{cases_Bool, cases_lt, eqb-true, lt-ltb, le-ltb}
use Rattle.warg_values.specs.Reading.{◌>>=◌}

abbrev done : {A F : Type 0} → A → Result A F
done x = Ok x

abbrev failed : {A F : Type 0} → F → Result A F
failed fault = Err fault

-- a step that did not fail read a value
pub bind_ok : {A B F : Type 0} (r : Result A F) (f : A → Result B F) (y : B) → (r >>= f) ≡ Ok y → (x : A) × (r ≡ Ok x) × (f x ≡ Ok y)
bind_ok (Ok x) f y e = (x, refl, e)
bind_ok (Err fault) f y e = absurd cc

-- two values that were read are one
pub ok_is : {A F : Type 0} (x y : A) → done {F = F} x ≡ done y → x ≡ y
ok_is x y e = cc

-- a fault is no value
pub never : {A F P : Type 0} (fault : F) (y : A) → failed fault ≡ done y → P
never fault y e = absurd cc

-- a test that refuses, and did not
pub guard_ok : {A F : Type 0} (b : Bool) (fault : F) (x : Result A F) (y : A) → cond b (Err fault) x ≡ Ok y → (b ≡ false) × (x ≡ Ok y)
guard_ok true fault x y e = absurd cc
guard_ok false fault x y e = (refl, e)

-- a test that lets pass, and did
pub wanted_ok : {A F : Type 0} (b : Bool) (fault : F) (x : Result A F) (y : A) → cond b x (Err fault) ≡ Ok y → (b ≡ true) × (x ≡ Ok y)
wanted_ok true fault x y e = (refl, e)
wanted_ok false fault x y e = absurd cc

-- one arm of a choice by a number
pub pick : {A P : Type 0} (b c : ℕ) (x y z : A) → cond (eqb b c) x y ≡ z → (b ≡ c → x ≡ z → P) → (y ≡ z → P) → P
pick b c x y z e here there =
    elim (cases_Bool (eqb b c)) [
      | inl is ↦ here (eqb-true b c is) (sym (ap (λ (t : Bool). cond t x y) is) ∙ e)
      | inr is ↦ there (sym (ap (λ (t : Bool). cond t x y) is) ∙ e)
    ]

-- a choice by an order of numbers
pub pick_below : {A P : Type 0} (a b : ℕ) (x y z : A) → cond (ltb a b) x y ≡ z → (a < b → x ≡ z → P) → (b ≤ a → y ≡ z → P) → P
pick_below a b x y z e below above =
    elim (cases_lt a b) [
      | inl lt ↦ below lt (sym (ap (λ (t : Bool). cond t x y) (lt-ltb a b lt)) ∙ e)
      | inr le ↦ above le (sym (ap (λ (t : Bool). cond t x y) (le-ltb a b le)) ∙ e)
    ]
