-- Fields that repeat, and messages of one field or two.
use Rattle.std.proofs.Common.{◌≡◌, ℕ, zero, suc, ◌+◌, ◌^◌, ◌<◌, ◌≤◌, ◌==◌, false, List, [], ◌∷◌, ◌++◌, length, map, Option, Some, refl, sym, ap, subst, ◌∙◌, arith}
use Rattle.std.specs.List.{AllByRecursion}
use Rattle.std.proofs.lemmas.Bool.{eqb-true, ne_eqb, eqb-false}
use Rattle.std.proofs.lemmas.List.{length-append, append-nil, nil_from_length}
use Rattle.std.proofs.lemmas.List.Concat.{flat_map-cons}
use Rattle.warg_record.specs.Wire.{varint, counted, field, fields}
use Rattle.warg_record.specs.Reading.{counted_at, field_at, each_field, some_fields, only_field, one_field, two_fields}
use Rattle.warg_record.specs.StepLaws.{bind_some, guard_some, pass_some, some_is, never}
use Rattle.warg_record.specs.WireLaws.{counted_at-sound, counted_at-again, field_at-sound, field_at-again}

-- the length of a field
pub length-field : (number : ℕ) (text rest : List ℕ) → length text + length rest < length (field number text ++ rest)
length-field number text rest =
    omega (arith, length-append (counted text) rest, length-append (varint (length text)) text)

some_of : {X : Type 0} (xs : List X) → (xs ≡ [] → ⊥) → 0 < length xs
some_of [] h = absurd (h refl)
some_of (x ∷ xs) h = omega arith

module _ {X : Type 0} (one : List ℕ → Option X) (One : X → Type 0) (text : X → List ℕ) (number : ℕ)
    (sound : (bytes : List ℕ) (x : X) → one bytes ≡ Some x → (bytes ≡ text x) × One x)
    (again : (x : X) → One x → length (text x) < 2 ^ 64 → one (text x) ≡ Some x) where
  each_field-sound : (n : ℕ) (bytes : List ℕ) (xs : List X) → each_field one number n bytes ≡ Some xs → (bytes ≡ fields number (map text xs)) × AllByRecursion One xs
  unfolding each_field
  each_field-sound zero [] xs e = subst (λ (ys : List X). ([] ≡ fields number (map text ys)) × AllByRecursion One ys) (some_is [] xs e) (refl, tt)
  each_field-sound zero (b ∷ bytes) xs e = never xs e
  each_field-sound (suc n) [] xs e = subst (λ (ys : List X). ([] ≡ fields number (map text ys)) × AllByRecursion One ys) (some_is [] xs e) (refl, tt)
  each_field-sound (suc n) (b ∷ bytes) xs e =
      let f = bind_some (field_at number (b ∷ bytes)) _ xs e in
      let x = bind_some (one f.0.0) _ xs f.2 in
      let ys = bind_some (each_field one number n f.0.1) _ xs x.2 in
      let first = sound f.0.0 x.0 x.1 in
      let others = each_field-sound n f.0.1 ys.0 ys.1 in
      let parts : b ∷ bytes ≡ fields number (map text (x.0 ∷ ys.0)) =
      field_at-sound number (b ∷ bytes) f.0 f.1 ∙ ap (λ (t : List ℕ). field number t ++ f.0.1) first.0 ∙ ap (λ (t : List ℕ). field number (text x.0) ++ t) others.0
      ∙ sym (flat_map-cons (field number) (text x.0) (map text ys.0)) in
      subst (λ (zs : List X). (b ∷ bytes ≡ fields number (map text zs)) × AllByRecursion One zs) (some_is _ _ ys.2) (parts, (first.1, others.1))

  each_field-again : (n : ℕ) (xs : List X) → AllByRecursion One xs → length (fields number (map text xs)) ≤ n → n < 2 ^ 64 → each_field one number n (fields number (map text xs)) ≡ Some xs
  unfolding each_field
  each_field-again zero [] are le lt = refl
  each_field-again (suc n) [] are le lt = refl
  each_field-again zero (x ∷ xs) are le lt =
      let whole : fields number (map text (x ∷ xs)) ≡ field number (text x) ++ fields number (map text xs) = flat_map-cons (field number) (text x) (map text xs) in
      absurd (omega (arith, length-field number (text x) (fields number (map text xs)), ap length whole))
  each_field-again (suc n) (x ∷ xs) are le lt =
      let rest = fields number (map text xs) in
      let whole : fields number (map text (x ∷ xs)) ≡ field number (text x) ++ rest = flat_map-cons (field number) (text x) (map text xs) in
      let bound : length (field number (text x) ++ rest) ≤ suc n = omega (arith, ap length whole) in
      let len = length-field number (text x) rest in
      let first = field_at-again number (text x) rest (omega arith) in
      let value = again x are.0 (omega arith) in
      let others = each_field-again n xs are.1 (omega arith) (omega arith) in
      ap (each_field one number (suc n)) whole ∙ rw (first, value, others) refl

  pub some_fields-sound : (bytes : List ℕ) (xs : List X) → some_fields one number bytes ≡ Some xs → (bytes ≡ fields number (map text xs)) × (0 < length xs) × AllByRecursion One xs
  unfolding some_fields
  some_fields-sound bytes xs e =
      let g = guard_some (length bytes == 0) (each_field one number (length bytes) bytes) xs e in
      let all = each_field-sound (length bytes) bytes xs g.1 in
      (all.0, some_of xs (λ none. eqb-false (length bytes) 0 g.0 (ap length (all.0 ∙ ap (λ (ys : List X). fields number (map text ys)) none))), all.1)

  pub some_fields-again : (xs : List X) → 0 < length xs → AllByRecursion One xs → length (fields number (map text xs)) < 2 ^ 64 → some_fields one number (fields number (map text xs)) ≡ Some xs
  unfolding some_fields
  some_fields-again [] lt are short = absurd (omega arith)
  some_fields-again (x ∷ xs) lt are short =
      let whole : fields number (map text (x ∷ xs)) ≡ field number (text x) ++ fields number (map text xs) = flat_map-cons (field number) (text x) (map text xs) in
      let len = length-field number (text x) (fields number (map text xs)) in
      let some : (length (fields number (map text (x ∷ xs))) == 0) ≡ false = ne_eqb (length (fields number (map text (x ∷ xs)))) 0 (λ z. omega (arith, ap length whole)) in
      rw some (each_field-again _ (x ∷ xs) are (omega arith) short)

-- ---- messages

pub only_field-sound : (bytes : List ℕ) (x : ℕ × List ℕ) → only_field bytes ≡ Some x → bytes ≡ x.0 ∷ counted x.1
unfolding only_field
only_field-sound [] x e = never x e
only_field-sound (key ∷ bytes) x e =
    let a = bind_some (counted_at bytes) _ x e in
    let g = pass_some (length a.0.1 == 0) _ x a.2 in
    let nothing : a.0.1 ≡ [] = nil_from_length a.0.1 (eqb-true (length a.0.1) 0 g.0) in
    let whole : bytes ≡ counted a.0.0 = counted_at-sound bytes a.0 a.1 ∙ ap (λ (t : List ℕ). counted a.0.0 ++ t) nothing ∙ append-nil (counted a.0.0) in
    subst (λ (y : ℕ × List ℕ). key ∷ bytes ≡ y.0 ∷ counted y.1) (some_is _ _ g.1) (ap (λ (t : List ℕ). key ∷ t) whole)

pub only_field-again : (key : ℕ) (text : List ℕ) → length text < 2 ^ 64 → only_field (key ∷ counted text) ≡ Some (key, text)
unfolding only_field
only_field-again key text lt =
    let again : counted_at (counted text) ≡ Some (text, []) = ap counted_at (sym (append-nil (counted text))) ∙ counted_at-again text [] lt in
    rw again refl

pub one_field-sound : (bytes text : List ℕ) → one_field bytes ≡ Some text → bytes ≡ field 1 text
unfolding one_field
one_field-sound bytes text e =
    let a = bind_some (field_at 1 bytes) _ text e in
    let g = pass_some (length a.0.1 == 0) _ text a.2 in
    let nothing : a.0.1 ≡ [] = nil_from_length a.0.1 (eqb-true (length a.0.1) 0 g.0) in
    field_at-sound 1 bytes a.0 a.1 ∙ ap (λ (t : List ℕ). field 1 a.0.0 ++ t) nothing ∙ append-nil (field 1 a.0.0) ∙ ap (field 1) (some_is _ _ g.1)

pub one_field-again : (text : List ℕ) → length text < 2 ^ 64 → one_field (field 1 text) ≡ Some text
unfolding one_field
one_field-again text lt =
    let again : field_at 1 (field 1 text) ≡ Some (text, []) = ap (field_at 1) (sym (append-nil (field 1 text))) ∙ field_at-again 1 text [] lt in
    rw again refl

pub two_fields-sound : (bytes : List ℕ) (x : List ℕ × List ℕ) → two_fields bytes ≡ Some x → bytes ≡ field 1 x.0 ++ field 2 x.1
unfolding two_fields
two_fields-sound bytes x e =
    let a = bind_some (field_at 1 bytes) _ x e in
    let b = bind_some (field_at 2 a.0.1) _ x a.2 in
    let g = pass_some (length b.0.1 == 0) _ x b.2 in
    let nothing : b.0.1 ≡ [] = nil_from_length b.0.1 (eqb-true (length b.0.1) 0 g.0) in
    let second : a.0.1 ≡ field 2 b.0.0 = field_at-sound 2 a.0.1 b.0 b.1 ∙ ap (λ (t : List ℕ). field 2 b.0.0 ++ t) nothing ∙ append-nil (field 2 b.0.0) in
    let whole : bytes ≡ field 1 a.0.0 ++ field 2 b.0.0 = field_at-sound 1 bytes a.0 a.1 ∙ ap (λ (t : List ℕ). field 1 a.0.0 ++ t) second in
    subst (λ (y : List ℕ × List ℕ). bytes ≡ field 1 y.0 ++ field 2 y.1) (some_is _ _ g.1) whole

pub two_fields-again : (first second : List ℕ) → length first < 2 ^ 64 → length second < 2 ^ 64 → two_fields (field 1 first ++ field 2 second) ≡ Some (first, second)
unfolding two_fields
two_fields-again first second lt lt' =
    let again : field_at 2 (field 2 second) ≡ Some (second, []) = ap (field_at 2) (sym (append-nil (field 2 second))) ∙ field_at-again 2 second [] lt' in
    rw (field_at-again 1 first (field 2 second) lt, again) refl
