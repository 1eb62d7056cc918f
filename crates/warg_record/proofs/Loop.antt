-- Reading fields one after the other, as a loop does.
use Rattle.std.proofs.Common.{◌≡◌, ℕ, zero, suc, ◌+◌, ◌-◌, ◌*◌, ◌^◌, ◌<◌, ◌≤◌, ◌==◌, ◌||◌, nat_lt, nat_le, Bool, cond, List, [], ◌∷◌, ◌++◌, length, Option, Some, None, refl, sym, ap, subst, ◌∙◌, append_assoc, arith, inl, inr}
use Rattle.std.proofs.lemmas.Bool.{cases_Bool}
use Rattle.std.proofs.lemmas.List.{append-nil, length-drop, length-take}
use Rattle.warg_record.specs.declared.error.EnvelopeError.{EnvelopeError}
use Rattle.warg_record.specs.declared.error.EnvelopeError.TheVariants as error
use Rattle.warg_record.specs.Answer.{Refuses}
use Rattle.warg_record.specs.Reading.{◌>>=◌, varint_at, counted_at, field_at, each_field}
use Rattle.warg_record.specs.StepLaws.{bind_some, guard_some, pass_some, some_is, never}
use Rattle.warg_record.specs.WireLaws.{varint_at-sound}

-- a number takes a byte at least
pub varint_at-shorter : (k : ℕ) (bytes : List ℕ) (x : ℕ × List ℕ) → varint_at k bytes ≡ Some x → length x.1 < length bytes
unfolding varint_at
varint_at-shorter zero bytes x e = never x e
varint_at-shorter (suc k) [] x e = never x e
varint_at-shorter (suc k) (b ∷ bytes) x e =
    elim (cases_Bool (nat_lt b 128)) [
      | inl small ↦
          let last : (b, bytes) ≡ x = some_is _ _ (sym (ap (λ (t : Bool). cond t (Some (b, bytes)) (varint_at k bytes >>= λ high. cond (nat_le 256 b || (high.0 == 0 || nat_le (2 ^ 57) high.0)) None (Some (b - 128 + 128 * high.0, high.1)))) small) ∙ e) in
          subst (λ (y : ℕ × List ℕ). length y.1 < suc (length bytes)) last (omega arith)
      | inr large ↦
          let more : (varint_at k bytes >>= λ high. cond (nat_le 256 b || (high.0 == 0 || nat_le (2 ^ 57) high.0)) None (Some (b - 128 + 128 * high.0, high.1))) ≡ Some x = sym (ap (λ (t : Bool). cond t (Some (b, bytes)) (varint_at k bytes >>= λ high. cond (nat_le 256 b || (high.0 == 0 || nat_le (2 ^ 57) high.0)) None (Some (b - 128 + 128 * high.0, high.1)))) large) ∙ e in
          let a = bind_some (varint_at k bytes) _ x more in
          let g = guard_some (nat_le 256 b || (a.0.0 == 0 || nat_le (2 ^ 57) a.0.0)) _ x a.2 in
          let shorter = varint_at-shorter k bytes a.0 a.1 in
          subst (λ (y : ℕ × List ℕ). length y.1 < suc (length bytes)) (some_is _ _ g.1) (omega (arith, shorter))
    ]

-- bytes behind their length take a byte at least
pub counted_at-shorter : (bytes : List ℕ) (x : List ℕ × List ℕ) → counted_at bytes ≡ Some x → length x.1 < length bytes
unfolding counted_at
counted_at-shorter bytes x e =
    let a = bind_some (varint_at 10 bytes) _ x e in
    let g = guard_some (nat_lt (length a.0.1) a.0.0) _ x a.2 in
    let shorter = varint_at-shorter 10 bytes a.0 a.1 in
    subst (λ (y : List ℕ × List ℕ). length y.1 < length bytes) (some_is _ _ g.1) (omega (arith, shorter, length-drop a.0.0 a.0.1))

-- a field takes a byte at least
pub field_at-shorter : (number : ℕ) (bytes : List ℕ) (x : List ℕ × List ℕ) → field_at number bytes ≡ Some x → length x.1 < length bytes
unfolding field_at
field_at-shorter number [] x e = never x e
field_at-shorter number (b ∷ bytes) x e =
    let a = pass_some (b == 8 * number + 2) (counted_at bytes) x e in
    omega (arith, counted_at-shorter bytes x a.1)

-- a field's bytes are fewer than 2 ^ 64
counted_at-short : (bytes : List ℕ) (x : List ℕ × List ℕ) → counted_at bytes ≡ Some x → length x.0 < 2 ^ 64
unfolding counted_at
counted_at-short bytes x e =
    let a = bind_some (varint_at 10 bytes) _ x e in
    let g = guard_some (nat_lt (length a.0.1) a.0.0) _ x a.2 in
    let small = varint_at-sound 10 bytes a.0 a.1 in
    subst (λ (y : List ℕ × List ℕ). length y.0 < 2 ^ 64) (some_is _ _ g.1) (omega (arith, small.1, length-take a.0.0 a.0.1))

pub field_at-short : (number : ℕ) (bytes : List ℕ) (x : List ℕ × List ℕ) → field_at number bytes ≡ Some x → length x.0 < 2 ^ 64
unfolding field_at
field_at-short number [] x e = never x e
field_at-short number (b ∷ bytes) x e = counted_at-short bytes x (pass_some (b == 8 * number + 2) (counted_at bytes) x e).1

-- two ways to go on that agree on what was read
after : {A B : Type 0} {f g : A → Option B} (o : Option A) → ((x : A) → o ≡ Some x → f x ≡ g x) → (o >>= f) ≡ (o >>= g)
after (Some x) h = h x refl
after None h = refl

-- what was read before, and what is still read
abbrev pub behind : {X : Type 0} → List X → Option (List X) → Option (List X)
behind front rest = rest >>= λ xs. Some (front ++ xs)

regroup : {X : Type 0} (front : List X) (x : X) (rest : Option (List X)) → behind front (rest >>= λ xs. Some (x ∷ xs)) ≡ behind (front ++ x ∷ []) rest
regroup {X} front x (Some xs) = ap (λ (ys : List X). Some ys) (sym (append_assoc front (x ∷ []) xs))
regroup front x None = refl

module _ {X : Type 0} (one : List ℕ → Option X) (number : ℕ) where
  -- a bound on the number of fields is of no account, where it is not below the number of bytes
  pub each_field-bound : (n m : ℕ) (bytes : List ℕ) → length bytes ≤ n → length bytes ≤ m → each_field one number n bytes ≡ each_field one number m bytes
  unfolding each_field
  each_field-bound zero zero bytes h k = refl
  each_field-bound zero (suc m) [] h k = refl
  each_field-bound zero (suc m) (b ∷ bytes) h k = absurd (omega arith)
  each_field-bound (suc n) zero [] h k = refl
  each_field-bound (suc n) zero (b ∷ bytes) h k = absurd (omega arith)
  each_field-bound (suc n) (suc m) [] h k = refl
  each_field-bound (suc n) (suc m) (b ∷ bytes) h k =
      after (field_at number (b ∷ bytes)) (λ f e.
      let shorter = field_at-shorter number (b ∷ bytes) f e in
      let same = each_field-bound n m f.1 (omega arith) (omega arith) in
      ap (λ (o : Option (List X)). one f.0 >>= λ x. o >>= λ xs. Some (x ∷ xs)) same)

  -- one field more
  pub goes_on : (front : List X) (bytes : List ℕ) (f : List ℕ × List ℕ) (x : X) (total : Option (List X)) → field_at number bytes ≡ Some f → one f.0 ≡ Some x
      → behind front (each_field one number (length bytes) bytes) ≡ total
      → behind (front ++ x ∷ []) (each_field one number (length f.1) f.1) ≡ total
  unfolding each_field
  goes_on front [] f x total e h so_far = absurd (omega (arith, field_at-shorter number [] f e))
  goes_on front (b ∷ bytes) f x total e h so_far =
      let shorter = field_at-shorter number (b ∷ bytes) f e in
      let whole : each_field one number (suc (length bytes)) (b ∷ bytes) ≡ (each_field one number (length bytes) f.1 >>= λ xs. Some (x ∷ xs)) = rw (e, h) refl in
      let same = each_field-bound (length f.1) (length bytes) f.1 (omega arith) (omega arith) in
      ap (behind (front ++ x ∷ [])) same ∙ sym (regroup front x (each_field one number (length bytes) f.1)) ∙ ap (behind front) (sym whole) ∙ so_far

  -- a field that is not there
  pub field_ends : (e : EnvelopeError) (front : List X) (bytes : List ℕ) (total : Option (List X)) → 0 < length bytes → Refuses e (field_at number bytes)
      → behind front (each_field one number (length bytes) bytes) ≡ total → Refuses e total
  unfolding each_field
  field_ends error.Memory front bytes total lt none so_far = tt
  field_ends error.Form front [] total lt none so_far = absurd (omega arith)
  field_ends error.Form front (b ∷ bytes) total lt none so_far =
      let whole : each_field one number (suc (length bytes)) (b ∷ bytes) ≡ None = rw none refl in
      sym so_far ∙ ap (behind front) whole

  -- a field whose value is not read
  pub value_ends : (e : EnvelopeError) (front : List X) (bytes : List ℕ) (f : List ℕ × List ℕ) (total : Option (List X)) → field_at number bytes ≡ Some f → Refuses e (one f.0)
      → behind front (each_field one number (length bytes) bytes) ≡ total → Refuses e total
  unfolding each_field
  value_ends error.Memory front bytes f total h none so_far = tt
  value_ends error.Form front [] f total h none so_far = absurd (omega (arith, field_at-shorter number [] f h))
  value_ends error.Form front (b ∷ bytes) f total h none so_far =
      let whole : each_field one number (suc (length bytes)) (b ∷ bytes) ≡ None = rw (h, none) refl in
      sym so_far ∙ ap (behind front) whole

  -- the end
  pub is_done : (front : List X) (bytes : List ℕ) (total : Option (List X)) → length bytes ≡ 0
      → behind front (each_field one number (length bytes) bytes) ≡ total → total ≡ Some front
  unfolding each_field
  is_done front [] total len so_far = sym so_far ∙ ap (λ (xs : List X). Some xs) (append-nil front)
  is_done front (b ∷ bytes) total len so_far = absurd (omega arith)
