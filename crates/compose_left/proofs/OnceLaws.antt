-- No two origins have one number.
use Rattle.std.proofs.Common.{◌≡◌, ℕ, zero, suc, ◌+◌, ◌*◌, ◌<◌, Bool, true, false, cond, List, [], ◌∷◌, refl, sym, ap, ◌∙◌, arith}
use Rattle.std.specs.Prelude.{◌||◌}
use Rattle.std.specs.List.{list_any}
use Rattle.comp_entity.specs.Places.{Path}
use Rattle.compose_left.specs.declared.origin.Origin.{Origin}
use Rattle.compose_left.specs.declared.origin.Origin.TheVariants as origins
use Rattle.compose_left.specs.declared.numbering.OriginKey.{OriginKey}
use Rattle.compose_left.specs.Origins.{is_made, same_origin, place_in, number_in}
use Rattle.compose_left.specs.Numbers.{origin_key, HasNumber}
use Rattle.compose_left.proofs.NumberLaws.{key_alike, key_is}

-- what counts in turn tells place and turn
turns : (n : ℕ) (a b i j : ℕ) → i < suc n → j < suc n → a * suc n + i ≡ b * suc n + j → (a ≡ b) × (i ≡ j)
turns n zero zero i j p q e = (refl, omega (arith, e))
turns n zero (suc b) i j p q e = absurd (omega (arith, p, e))
turns n (suc a) zero i j p q e = absurd (omega (arith, q, e))
turns n (suc a) (suc b) i j p q e = let r = turns n a b i j p q (omega (arith, e)) in (ap suc r.0, r.1)

-- an origin that is not made, from its key
abbrev left : Path → Origin
left [] = origins.Made 0 0
left (m ∷ y) = origins.Left m y

abbrev of_key : OriginKey → Origin → Origin
of_key k (origins.Left n x) = cond k.is_given (origins.Given k.instance k.path) (left k.path)
of_key k (origins.Given i x) = cond k.is_given (origins.Given k.instance k.path) (origins.Made 0 0)
of_key k (origins.Made i n) = origins.Made i n

pub same_is : (a b : Origin) → is_made a ≡ false → is_made b ≡ false → same_origin a b ≡ true → a ≡ b
same_is (origins.Left n x) (origins.Left m y) p q e = ap (λ (k : OriginKey). of_key k (origins.Left n x)) (key_is (origin_key (origins.Left n x)) (origin_key (origins.Left m y)) (key_alike (origins.Left n x) (origins.Left m y) q ∙ e))
same_is (origins.Left n x) (origins.Given j y) p q e = absurd cc
same_is (origins.Left n x) (origins.Made j m) p q e = absurd cc
same_is (origins.Given i x) (origins.Left m y) p q e = absurd cc
same_is (origins.Given i x) (origins.Given j y) p q e = ap (λ (k : OriginKey). of_key k (origins.Given i x)) (key_is (origin_key (origins.Given i x)) (origin_key (origins.Given j y)) (key_alike (origins.Given i x) (origins.Given j y) q ∙ e))
same_is (origins.Given i x) (origins.Made j m) p q e = absurd cc
same_is (origins.Made i n) b p q e = absurd cc

-- one place, one origin
place_is : (os : List Origin) (a b : Origin) → is_made a ≡ false → is_made b ≡ false → list_any (λ p. same_origin p a) os ≡ true → list_any (λ p. same_origin p b) os ≡ true → place_in os a ≡ place_in os b → a ≡ b
place_is [] a b p q f g e = absurd cc
place_is (o ∷ os) a b p q f g e = one (same_origin o a) (same_origin o b) refl refl f g e (place_is os a b p q)
  where
    unmade : (c : Origin) → same_origin o c ≡ true → is_made c ≡ false → is_made o ≡ false
    unmade c h r = one_of o c h r
      where
        one_of : (o c : Origin) → same_origin o c ≡ true → is_made c ≡ false → is_made o ≡ false
        one_of (origins.Left n x) c h r = refl
        one_of (origins.Given n x) c h r = refl
        one_of (origins.Made i n) (origins.Left m y) h r = absurd cc
        one_of (origins.Made i n) (origins.Given m y) h r = absurd cc
        one_of (origins.Made i n) (origins.Made m y) h r = absurd cc

    one : (s t : Bool) → same_origin o a ≡ s → same_origin o b ≡ t → (s || list_any (λ p. same_origin p a) os) ≡ true → (t || list_any (λ p. same_origin p b) os) ≡ true
        → cond s 0 (suc (place_in os a)) ≡ cond t 0 (suc (place_in os b))
        → (list_any (λ p. same_origin p a) os ≡ true → list_any (λ p. same_origin p b) os ≡ true → place_in os a ≡ place_in os b → a ≡ b) → a ≡ b
    one true true h k f g e rest = sym (same_is o a (unmade a h p) p h) ∙ same_is o b (unmade a h p) q k
    one true false h k f g e rest = absurd (omega (arith, e))
    one false true h k f g e rest = absurd (omega (arith, e))
    one false false h k f g e rest = rest f g (omega (arith, e))

pub once : (instances : ℕ) (os : List Origin) (a b : Origin) → HasNumber instances os a → HasNumber instances os b → number_in instances os a ≡ number_in instances os b → a ≡ b
once n os (origins.Made i k) (origins.Made j m) f g e = let r = turns n k m i j (omega (arith, f)) (omega (arith, g)) e in λ t. origins.Made (r.1 t) (r.0 t)
once n os (origins.Made i k) (origins.Left m y) f g e = absurd (let r = turns n k (place_in os (origins.Left m y)) i n (omega (arith, f)) (omega arith) e in let s = r.1 in omega (arith, f, s))
once n os (origins.Made i k) (origins.Given m y) f g e = absurd (let r = turns n k (place_in os (origins.Given m y)) i n (omega (arith, f)) (omega arith) e in let s = r.1 in omega (arith, f, s))
once n os (origins.Left m y) (origins.Made i k) f g e = absurd (let r = turns n (place_in os (origins.Left m y)) k n i (omega arith) (omega (arith, g)) e in let s = r.1 in omega (arith, g, s))
once n os (origins.Given m y) (origins.Made i k) f g e = absurd (let r = turns n (place_in os (origins.Given m y)) k n i (omega arith) (omega (arith, g)) e in let s = r.1 in omega (arith, g, s))
once n os (origins.Left m y) (origins.Left l z) f g e = place_is os (origins.Left m y) (origins.Left l z) refl refl f g (turns n (place_in os (origins.Left m y)) (place_in os (origins.Left l z)) n n (omega arith) (omega arith) e).0
once n os (origins.Left m y) (origins.Given l z) f g e = place_is os (origins.Left m y) (origins.Given l z) refl refl f g (turns n (place_in os (origins.Left m y)) (place_in os (origins.Given l z)) n n (omega arith) (omega arith) e).0
once n os (origins.Given m y) (origins.Left l z) f g e = place_is os (origins.Given m y) (origins.Left l z) refl refl f g (turns n (place_in os (origins.Given m y)) (place_in os (origins.Left l z)) n n (omega arith) (omega arith) e).0
once n os (origins.Given m y) (origins.Given l z) f g e = place_is os (origins.Given m y) (origins.Given l z) refl refl f g (turns n (place_in os (origins.Given m y)) (place_in os (origins.Given l z)) n n (omega arith) (omega arith) e).0
