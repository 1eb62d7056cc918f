-- Values behind others, as a loop looks for them, and the values of a vector.
use Rattle.std.proofs.Common.{◌≡◌, ℕ, zero, suc, ◌-◌, ◌+◌, ◌<◌, ◌≤◌, List, [], ◌∷◌, ◌++◌, length, take, drop, Result, Ok, Err, refl, sym, ap, subst, ◌∙◌, arith, inl, inr}
use Rattle.std.proofs.lemmas.List.{length-append, length-take}
use Rattle.warg_values.specs.Reading.{◌>>=◌}
use Rattle.comp_format.specs.Fault.{Fault}
use Rattle.comp_format.specs.Numbers.{FormOf, number_at}
use Rattle.comp_format.specs.Vectors.{ReaderOf, Many, many_at}
use Rattle.comp_format.specs.Sections.{Whole}
use Rattle.comp_format.specs.NumberLaws.{number_again, leb_shorter}
use Rattle.comp_format.specs.VectorLaws.{IsComplete}
use Rattle.comp_format.specs.DepthLaws.{Below, first_below}
use Rattle.comp_format.specs.ScopeLaws.{UsesUp, many_used}
use Rattle.comp_reader.specs.declared.refusal.Refusal.{Refusal}
use Rattle.comp_reader.specs.Refusal.{Fails}
use Rattle.comp_reader.specs.Places.{ValueFirst, behind_many_at}
use Rattle.comp_reader.proofs.ItemLaws.{fails_on}

-- ---- a loop

-- one value more in front
abbrev behind_value : {X : Type 0} → X → Result (List X × List ℕ) Fault → Result (List X × List ℕ) Fault
behind_value x read = read >>= λ xs. Ok (x ∷ xs.0, xs.1)

-- the bytes behind values
abbrev behind_all : {X : Type 0} → Result (List X × List ℕ) Fault → Result (List ℕ) Fault
behind_all read = read >>= λ xs. Ok xs.1

module _ {X : Type 0} (one : ReaderOf X) where
  regroup : (x : X) (read : Result (List X × List ℕ) Fault) → behind_all (behind_value x read) ≡ behind_all read
  regroup x (Ok xs) = refl
  regroup x (Err fault) = refl

  pub goes_on : (count i : ℕ) (bytes : List ℕ) (x : X) (after : List ℕ) (total : Result (List ℕ) Fault) → i < count → one bytes ≡ Ok (x, after) → behind_many_at one (count - i) bytes ≡ total
      → behind_many_at one (count - (i + 1)) after ≡ total
  unfolding many_at
  goes_on count i bytes x after total lt h so_far =
      let k : count - i ≡ suc (count - (i + 1)) = omega arith in
      let one_more : behind_many_at one (count - i) bytes ≡ behind_many_at one (count - (i + 1)) after = rw (k, h) (regroup x (many_at one (count - (i + 1)) after)) in
      sym one_more ∙ so_far

  pub ends : (e : Refusal) (count i : ℕ) (bytes : List ℕ) (total : Result (List ℕ) Fault) → i < count → Fails e (one bytes) → behind_many_at one (count - i) bytes ≡ total → Fails e total
  unfolding many_at
  ends e count i bytes total lt h so_far =
      let k : count - i ≡ suc (count - (i + 1)) = omega arith in
      subst (λ (r : Result (List ℕ) Fault). Fails e r) (ap (λ (n : ℕ). behind_many_at one n bytes) (sym k) ∙ so_far)
      (fails_on e (one bytes >>= λ x. many_at one (count - (i + 1)) x.1 >>= λ xs. Ok (x.0 ∷ xs.0, xs.1)) (λ xs. Ok xs.1) (fails_on e (one bytes) _ h))

  pub is_done : (count i : ℕ) (bytes : List ℕ) (total : Result (List ℕ) Fault) → count ≤ i → behind_many_at one (count - i) bytes ≡ total → total ≡ Ok bytes
  unfolding many_at
  is_done count i bytes total le so_far =
      let k : count - i ≡ 0 = omega arith in
      sym so_far ∙ ap (λ (n : ℕ). behind_many_at one n bytes) k

-- ---- vectors

module _ {X : Type 0} (one : ReaderOf X) (One : FormOf X) where
  -- each form is read so, or too deep to be
  abbrev pub IsReadOrDeep : Type 0
  IsReadOrDeep = (x : X) (bytes rest : List ℕ) → One x bytes rest → Below (one bytes) (Ok (x, rest))

  pub complete_is : IsComplete one One → IsReadOrDeep
  complete_is complete x bytes rest h = inr (complete x bytes rest h)

  many_or_deep : IsReadOrDeep → (xs : List X) (bytes rest : List ℕ) → Many One xs bytes rest → Below (many_at one (length xs) bytes) (Ok (xs, rest))
  unfolding many_at
  many_or_deep read [] bytes rest h = inr (ap (λ (r : List ℕ). Ok ([], r)) h)
  many_or_deep read (x ∷ xs) bytes rest h =
      elim (read x bytes h.0 h.1) [
        | inl deep ↦ inl (rw deep refl)
        | inr is ↦ elim (many_or_deep read xs h.0 rest h.2) [
          | inl deep ↦ inl (rw (is, deep) refl)
          | inr all ↦ inr (rw (is, all) refl)
        ]
      ]

  -- a value's bytes are read, or values in front of it are too deep
  pub first_or_deep : IsReadOrDeep → (xs : List X) (number : ℕ) (content behind item : List ℕ) → number < length xs → ValueFirst One xs number content behind item
      → (values : List ℕ) × Below (number_at content >>= λ count. behind_many_at one number count.1) (Ok values) × (item ≡ values ++ behind)
  first_or_deep read xs number content behind item lt h =
      let counted : length (take number xs) ≡ number = omega (arith, lt, length-take number xs) in
      let all : Below (many_at one number h.0) (Ok (take number xs, h.1)) =
      subst (λ (n : ℕ). Below (many_at one n h.0) (Ok (take number xs, h.1))) counted (many_or_deep read (take number xs) h.0 h.1 h.3) in
      let behind_all : Below (behind_many_at one number h.0) (Ok h.1) = first_below (many_at one number h.0) (Ok (take number xs, h.1)) (λ xs. Ok xs.1) all in
      (h.1, rw (number_again (length xs) content h.0 h.2) behind_all, h.5)

module _ {X : Type 0} (One : FormOf X) where
  many_split : (number : ℕ) (xs : List X) (bytes rest : List ℕ) → Many One xs bytes rest → (values : List ℕ) × Many One (take number xs) bytes values × Many One (drop number xs) values rest
  many_split zero xs bytes rest h = (bytes, refl, h)
  many_split (suc number) [] bytes rest h = (bytes, refl, h)
  many_split (suc number) (x ∷ xs) bytes rest h =
      let others = many_split number xs h.0 rest h.2 in
      (others.0, (h.0, h.1, others.1), others.2)

  -- each number has its value's bytes
  pub value_is_there : ((x : X) → UsesUp (One x)) → (xs : List X) (number : ℕ) (content behind : List ℕ) → Whole One xs content
      → (item : List ℕ) × ValueFirst One xs number content behind item × (length item ≤ length content + length behind)
  value_is_there used xs number content behind h =
      let split = many_split number xs h.0 [] h.2 in
      let item : List ℕ = split.0 ++ behind in (
        item,
        (h.0, split.0, h.1, split.1, split.2, refl),
        omega (arith, length-append split.0 behind, leb_shorter 5 (length xs) content h.0 h.1.form, many_used One used (take number xs) h.0 split.0 split.1),
      )
