-- Where the registry of a name stands, and what becomes of the list where it changes.
use Rattle.std.proofs.Common.{◌≡◌, ◌<◌, ◌+◌, ◌∷◌, ◌++◌, [], ℕ, suc, List, Bool, true, false, cond, Option, Some, None, refl, sym, ◌∙◌, ap, length, set, arith}
use Rattle.std.specs.Prelude.{find, slice_get, option_map}
use Rattle.std.proofs.lemmas.Slice.Eq.{bytes_eq-Decides}
use Rattle.warg_model.specs.Held.{Held}
use Rattle.warg_vectors.specs.Named.{same_name}
use Rattle.warg_vectors.specs.World.{Named, registry_in, place_in, changed}

-- a name is itself
pub same-own : (name : Option (List ℕ)) → same_name name name ≡ true
same-own None = refl
same-own (Some a) = (bytes_eq-Decides a a).1 refl

-- one more than a place
abbrev next : Option ℕ → Option ℕ
next o = option_map (λ (place : ℕ). place + 1) o

none-next : (o : Option ℕ) → next o ≡ None → o ≡ None
none-next None e = refl
none-next (Some p) e = absurd cc

some-next : (o : Option ℕ) (place : ℕ) → next o ≡ Some place → (p : ℕ) × (o ≡ Some p) × (place ≡ suc p)
some-next None place e = absurd cc
some-next (Some p) place e = (p, refl, one-more p place e)
  where
    one-is : (a b : ℕ) → Some a ≡ Some b → a ≡ b
    one-is a b e = cc e

    one-more : (p place : ℕ) → Some (p + 1) ≡ Some place → place ≡ suc p
    one-more p place e = let is = one-is (p + 1) place e in omega (arith, is)

-- no registry has the name
pub place-none : (name : Option (List ℕ)) (rs : List Named) → place_in rs name ≡ None → registry_in rs name ≡ None
unfolding place_in
place-none name [] e = refl
place-none name (r ∷ rs) e = by-name (same_name r.name name) (place-none name rs) e
  where
    by-name : (b : Bool) → (place_in rs name ≡ None → registry_in rs name ≡ None) → cond b (Some 0) (next (place_in rs name)) ≡ None
        → option_map (λ (x : Named). x.held) (cond b (Some r) (find (λ (x : Named). same_name x.name name) rs)) ≡ None
    by-name true later e = absurd cc
    by-name false later e = later (none-next (place_in rs name) e)

-- the registry of a name stands at its place
pub record StandsAt (rs : List Named) (name : Option (List ℕ)) (place : ℕ) : Type 0 where
  pub named : Named
  pub at : slice_get rs place ≡ Some named
  pub is : registry_in rs name ≡ Some named.held
  pub change : (f : Held → Held) → changed f name rs ≡ set rs place (record named { held = f named.held })

pub place-stands : (name : Option (List ℕ)) (rs : List Named) (place : ℕ) → place_in rs name ≡ Some place → StandsAt rs name place
unfolding place_in changed
place-stands name [] place e = absurd cc
place-stands name (r ∷ rs) place e = by-name (same_name r.name name) refl (λ (p : ℕ) (is : place_in rs name ≡ Some p). place-stands name rs p is) e
  where
    first : same_name r.name name ≡ true → 0 ≡ place → StandsAt (r ∷ rs) name place
    first same zero_is = record {
      named = r;
      at = ap (slice_get (r ∷ rs)) (sym zero_is);
      is = rw same refl;
      change = λ f. rw same (ap (λ (p : ℕ). set (r ∷ rs) p (record r { held = f r.held })) zero_is);
    }

    later : (p : ℕ) → same_name r.name name ≡ false → place ≡ suc p → StandsAt rs name p → StandsAt (r ∷ rs) name place
    later p other more s = record {
      named = s.named;
      at = ap (slice_get (r ∷ rs)) more ∙ s.at;
      is = rw other s.is;
      change = λ f. rw other (ap (λ (l : List Named). r ∷ l) (s.change f) ∙ ap (λ (q : ℕ). set (r ∷ rs) q (record s.named { held = f s.named.held })) (sym more));
    }

    one-is : (a b : ℕ) → Some a ≡ Some b → a ≡ b
    one-is a b e = cc e

    by-name : (b : Bool) → same_name r.name name ≡ b → ((p : ℕ) → place_in rs name ≡ Some p → StandsAt rs name p) → cond b (Some 0) (next (place_in rs name)) ≡ Some place → StandsAt (r ∷ rs) name place
    by-name true is behind e = first is (one-is 0 place e)
    by-name false is behind e = let s = some-next (place_in rs name) place e in later s.0 is s.2 (behind s.0 s.1)

-- a place is one of the list
pub place-below : (name : Option (List ℕ)) (rs : List Named) (place : ℕ) → place_in rs name ≡ Some place → place < length rs
unfolding place_in
place-below name [] place e = absurd cc
place-below name (r ∷ rs) place e = by-name (same_name r.name name) (λ (p : ℕ) (is : place_in rs name ≡ Some p). place-below name rs p is) e
  where
    one-is : (a b : ℕ) → Some a ≡ Some b → a ≡ b
    one-is a b e = cc e

    by-name : (b : Bool) → ((p : ℕ) → place_in rs name ≡ Some p → p < length rs) → cond b (Some 0) (next (place_in rs name)) ≡ Some place → place < length (r ∷ rs)
    by-name true behind e = let is = one-is 0 place e in omega (arith, is)
    by-name false behind e =
        let s = some-next (place_in rs name) place e in
        let below = behind s.0 s.1 in
        omega (arith, below, s.2)

-- a registry that is put behind the others has its name, which none of them has
pub place-behind : (name : Option (List ℕ)) (rs : List Named) (r : Named) → place_in rs name ≡ None → r.name ≡ name → place_in (rs ++ r ∷ []) name ≡ Some (length rs)
unfolding place_in
place-behind name [] r none is = rw (ap (λ (n : Option (List ℕ)). same_name n name) is ∙ same-own name) refl
place-behind name (x ∷ rs) r none is = by-name (same_name x.name name) (λ (e : place_in rs name ≡ None). place-behind name rs r e is) none
  where
    by-name : (b : Bool) → (place_in rs name ≡ None → place_in (rs ++ r ∷ []) name ≡ Some (length rs)) → cond b (Some 0) (next (place_in rs name)) ≡ None
        → cond b (Some 0) (next (place_in (rs ++ r ∷ []) name)) ≡ Some (length (x ∷ rs))
    by-name true last e = absurd cc
    by-name false last e = ap next (last (none-next (place_in rs name) e)) ∙ ap (λ (n : ℕ). Some n) (omega arith)

-- ---- a search for the place, from the front

pub from-start : (o : Option ℕ) → option_map (λ (p : ℕ). p + 0) o ≡ o
from-start None = refl
from-start (Some p) = ap (λ (n : ℕ). Some n) (omega arith)

pub none-left : (place : ℕ) → option_map (λ (p : ℕ). p + place) None ≡ None
none-left place = refl

one-further : (o : Option ℕ) (place : ℕ) → option_map (λ (p : ℕ). p + place) (next o) ≡ option_map (λ (p : ℕ). p + (place + 1)) o
one-further None place = refl
one-further (Some p) place = ap (λ (n : ℕ). Some n) (omega arith)

pub goes-on : (name : Option (List ℕ)) (r : Named) (rs : List Named) (place : ℕ) (whole : Option ℕ) → same_name r.name name ≡ false
    → option_map (λ (p : ℕ). p + place) (place_in (r ∷ rs) name) ≡ whole → option_map (λ (p : ℕ). p + (place + 1)) (place_in rs name) ≡ whole
unfolding place_in
goes-on name r rs place whole other is =
    sym (one-further (place_in rs name) place) ∙ sym (ap (λ (b : Bool). option_map (λ (p : ℕ). p + place) (cond b (Some 0) (next (place_in rs name)))) other) ∙ is

pub stands-here : (name : Option (List ℕ)) (r : Named) (rs : List Named) (place : ℕ) (whole : Option ℕ) → same_name r.name name ≡ true
    → option_map (λ (p : ℕ). p + place) (place_in (r ∷ rs) name) ≡ whole → Some place ≡ whole
unfolding place_in
stands-here name r rs place whole same is =
    ap (λ (n : ℕ). Some n) (omega arith) ∙ sym (ap (λ (b : Bool). option_map (λ (p : ℕ). p + place) (cond b (Some 0) (next (place_in rs name)))) same) ∙ is
