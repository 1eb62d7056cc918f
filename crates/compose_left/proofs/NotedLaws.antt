-- Numbers that are noted stay those of their origins.
use Rattle.std.proofs.Common.{◌≡◌, ℕ, suc, ◌+◌, ◌*◌, Bool, true, false, cond, List, [], ◌∷◌, ◌++◌, length, take, Option, Some, refl, sym, ap, subst, ◌∙◌, slice_index_or, ◌<◌}
use Rattle.std.specs.Prelude.{◌||◌, is_some, fold, Result, Ok, Err, IfOk}
use Rattle.std.specs.List.{list_any, AllByRecursion}
use Rattle.std.specs.BTreeMap.{BTreeMap, get}
use Rattle.std.proofs.lemmas.Option.{same_Some}
use Rattle.std.proofs.lemmas.List.{take_more}
use Rattle.std.proofs.lemmas.List.Folds.{list_any-append}
use Rattle.compose_left.proofs.ListLaws.{all_push, or_right}
use Rattle.compose_left.specs.declared.origin.Origin.{Origin}
use Rattle.compose_left.specs.declared.origin.Origin.TheVariants as origins
use Rattle.compose_left.specs.declared.origin.Held.{Held}
use Rattle.compose_left.specs.declared.numbering.Reached.TheVariants as reached
use Rattle.compose_left.specs.Wiring.{Wiring}
use Rattle.compose_left.specs.Origins.{origin, is_made, same_origin, with_origin, place_in, number_in, table_of}
use Rattle.compose_left.specs.Numbers.{held_cmp, same_held, IsThere, IsNoted, AreNumbers, IsReached, IsNumbered}
use Rattle.compose_left.proofs.NumberLaws.{itself, held_is}

with_cond : (b : Bool) (os : List Origin) (o : Origin) → b ≡ true → cond b os (os ++ o ∷ []) ≡ os
with_cond true os o e = refl
with_cond false os o e = absurd cc

pub with_there : (os : List Origin) (o : Origin) → IsThere os o → with_origin os o ≡ os
with_there os o t = with_cond (is_made o || list_any (λ p. same_origin p o) os) os o t

or_longer : (a b c : Bool) → (a || b) ≡ true → (a || (b || c)) ≡ true
or_longer true b c e = refl
or_longer false true c e = refl
or_longer false false c e = absurd cc

-- what is there stays there
there_more : (os : List Origin) (o q : Origin) → IsThere os o → IsThere (os ++ q ∷ []) o
there_more os o q t =
    ap (λ (b : Bool). is_made o || b) (list_any-append (λ p. same_origin p o) os (q ∷ []))
    ∙ or_longer (is_made o) (list_any (λ p. same_origin p o) os) (same_origin q o || false) t

there_kept : (os : List Origin) (o q : Origin) → IsThere os o → IsThere (with_origin os q) o
there_kept os o q t = one (is_made q || list_any (λ p. same_origin p q) os)
  where
    one : (b : Bool) → IsThere (cond b os (os ++ q ∷ [])) o
    one true = t
    one false = there_more os o q t

pub there_with : (os : List Origin) (o : Origin) → IsThere (with_origin os o) o
there_with os o = one (is_made o || list_any (λ p. same_origin p o) os) refl
  where
    one : (b : Bool) → (is_made o || list_any (λ p. same_origin p o) os) ≡ b → IsThere (cond b os (os ++ o ∷ [])) o
    one true e = e
    one false e =
        ap (λ (b : Bool). is_made o || b) (list_any-append (λ p. same_origin p o) os (o ∷ []))
        ∙ or_right (is_made o) _ (or_right (list_any (λ p. same_origin p o) os) _ (λ i. itself o i || false))

place_more : (os : List Origin) (o q : Origin) → list_any (λ p. same_origin p o) os ≡ true → place_in (os ++ q ∷ []) o ≡ place_in os o
place_more [] o q e = absurd cc
place_more (p ∷ os) o q e = one (same_origin p o) e (place_more os o q)
  where
    one : (b : Bool) → (b || list_any (λ p. same_origin p o) os) ≡ true → (list_any (λ p. same_origin p o) os ≡ true → place_in (os ++ q ∷ []) o ≡ place_in os o)
        → cond b 0 (suc (place_in (os ++ q ∷ []) o)) ≡ cond b 0 (suc (place_in os o))
    one true e rest = refl
    one false e rest = ap suc (rest e)

number_more : (n : ℕ) (os : List Origin) (o q : Origin) → IsThere os o → number_in n (os ++ q ∷ []) o ≡ number_in n os o
number_more n os (origins.Left m x) q t = ap (λ (k : ℕ). k * suc n + n) (place_more os (origins.Left m x) q t)
number_more n os (origins.Given i x) q t = ap (λ (k : ℕ). k * suc n + n) (place_more os (origins.Given i x) q t)
number_more n os (origins.Made i k) q t = refl

number_kept : (n : ℕ) (os : List Origin) (o q : Origin) → IsThere os o → number_in n (with_origin os q) o ≡ number_in n os o
number_kept n os o q t = one (is_made q || list_any (λ p. same_origin p q) os)
  where
    one : (b : Bool) → number_in n (cond b os (os ++ q ∷ [])) o ≡ number_in n os o
    one true = refl
    one false = number_more n os o q t

pub numbers_kept : (w : Wiring) (os new : List Origin) (q : Origin) (m : BTreeMap Held ℕ) → new ≡ with_origin os q → AreNumbers w os m → AreNumbers w new m
numbers_kept w os new q m e a h k g =
    let n = a h k g in
    subst (λ (ps : List Origin). IsNoted w ps h k) (sym e)
    (record { there = there_kept os (origin w h) q n.there; number = n.number ∙ sym (number_kept (length w.shapes) os (origin w h) q n.there) })

any_is : (P : Held → Type 0) (trail : List Held) (h : Held) → AllByRecursion P trail → list_any (λ t. same_held t h) trail ≡ true → P h
any_is P [] h a e = absurd cc
any_is P (t ∷ ts) h a e = one (same_held t h) refl e (any_is P ts h a.1)
  where
    one : (b : Bool) → same_held t h ≡ b → (b || list_any (λ t. same_held t h) ts) ≡ true → (list_any (λ t. same_held t h) ts ≡ true → P h) → P h
    one true s e rest = subst P (held_is t h s) a.0
    one false s e rest = rest e

-- some things of one origin are noted
pub numbers_noted : (w : Wiring) (os : List Origin) (m n : BTreeMap Held ℕ) (trail : List Held) (o : Origin) (number : ℕ) → AreNumbers w os m
    → AllByRecursion (λ h. origin w h ≡ o) trail → IsThere os o → number ≡ number_in (length w.shapes) os o
    → ((h : Held) → get held_cmp n h ≡ cond (list_any (λ t. same_held t h) trail) (Some number) (get held_cmp m h)) → AreNumbers w os n
numbers_noted w os m n trail o number a alike t is all h k g = one (list_any (λ t. same_held t h) trail) refl (sym (all h) ∙ g)
  where
    one : (b : Bool) → list_any (λ t. same_held t h) trail ≡ b → cond b (Some number) (get held_cmp m h) ≡ Some k → IsNoted w os h k
    one true e f =
        let same : origin w h ≡ o = any_is (λ h. origin w h ≡ o) trail h alike e in
        record { there = subst (IsThere os) (sym same) t; number = sym (same_Some number k f) ∙ is ∙ ap (number_in (length w.shapes) os) (sym same) }
    one false e f = a h k f

pub noted_now : (m n : BTreeMap Held ℕ) (trail : List Held) (number : ℕ) (from : Held) → (list_any (λ t. same_held t from) trail || is_some (get held_cmp m from)) ≡ true
    → get held_cmp n from ≡ cond (list_any (λ t. same_held t from) trail) (Some number) (get held_cmp m from) → (is_some (get held_cmp n from) ≡ true)
noted_now m n trail number from e all = ap (λ (o : Option ℕ). is_some o) all ∙ (one (list_any (λ t. same_held t from) trail) (get held_cmp m from) e)
  where
    one : (b : Bool) (o : Option ℕ) → (b || is_some o) ≡ true → is_some (cond b (Some number) o) ≡ true
    one true o e = refl
    one false o e = e

pub noted_still : (m n : BTreeMap Held ℕ) (trail : List Held) (number : ℕ) (h : Held) → get held_cmp n h ≡ cond (list_any (λ t. same_held t h) trail) (Some number) (get held_cmp m h)
    → (is_some (get held_cmp m h) ≡ true) → (is_some (get held_cmp n h) ≡ true)
noted_still m n trail number h all s = ap (λ (o : Option ℕ). is_some o) all ∙ (one (list_any (λ t. same_held t h) trail) (get held_cmp m h) s)
  where
    one : (b : Bool) (o : Option ℕ) → is_some o ≡ true → is_some (cond b (Some number) o) ≡ true
    one true o s = refl
    one false o s = s

-- what was come to gets its number
pub number_known : (w : Wiring) (os : List Origin) (m : BTreeMap Held ℕ) (o : Origin) (k : ℕ) → AreNumbers w os m → IsReached w m o (reached.Known k) → IsNumbered w os os o k
number_known w os m o k a r =
    let n = a r.0 k r.1 in
    let there : IsThere os o = subst (IsThere os) r.2 n.there in
    record { added = sym (with_there os o there); number = n.number ∙ ap (number_in (length w.shapes) os) r.2; there = there }

pub number_ended : (w : Wiring) (instances : ℕ) (os new : List Origin) (p o : Origin) (k : ℕ) → instances ≡ length w.shapes → p ≡ o → new ≡ with_origin os p → k ≡ number_in instances new p → IsNumbered w os new o k
number_ended w instances os new p o k same is added number = record {
  added = added ∙ ap (with_origin os) is;
  number = number ∙ (λ i. number_in (same i) new (is i));
  there = subst (λ (ps : List Origin). IsThere ps o) (sym (added ∙ ap (with_origin os) is)) (there_with os o);
}

all_weaker : {X : Type 0} (P Q : X → Type 0) (xs : List X) → ((x : X) → P x → Q x) → AllByRecursion P xs → AllByRecursion Q xs
all_weaker P Q [] f a = tt
all_weaker P Q (x ∷ xs) f a = (f x a.0, all_weaker P Q xs f a.1)

fold_push : {A B : Type 0} (f : B → A → B) (b : B) (xs : List A) (x : A) → fold f b (xs ++ x ∷ []) ≡ f (fold f b xs) x
fold_push f b [] x = refl
fold_push f b (y ∷ xs) x = fold_push f (f b y) xs x

pub table_step : (w : Wiring) (things : List Held) (i : ℕ) (x : Held) (old new : List Origin) → i < length things → x ≡ slice_index_or things i x → old ≡ table_of w (take i things) → new ≡ with_origin old (origin w x) → new ≡ table_of w (take (i + 1) things)
table_step w things i x old new lt is e n =
    let more : take (i + 1) things ≡ take i things ++ x ∷ [] = take_more things i x lt ∙ ap (λ (y : Held). take i things ++ y ∷ []) (sym is) in
    n ∙ ap (λ (os : List Origin). with_origin os (origin w x)) e ∙ sym (fold_push (λ os h. with_origin os (origin w h)) [] (take i things) x) ∙ ap (table_of w) (sym more)

pub all_step : (m n : BTreeMap Held ℕ) (things : List Held) (i : ℕ) (x : Held) → i < length things → x ≡ slice_index_or things i x → AllByRecursion (λ h. (is_some (get held_cmp m h) ≡ true)) (take i things)
    → ((h : Held) → (is_some (get held_cmp m h) ≡ true) → (is_some (get held_cmp n h) ≡ true)) → (is_some (get held_cmp n x) ≡ true) → AllByRecursion (λ h. (is_some (get held_cmp n h) ≡ true)) (take (i + 1) things)
all_step m n things i x lt is a kept now =
    let more : take (i + 1) things ≡ take i things ++ x ∷ [] = take_more things i x lt ∙ ap (λ (y : Held). take i things ++ y ∷ []) (sym is) in
    subst (AllByRecursion (λ h. (is_some (get held_cmp n h) ≡ true))) (sym more)
    (all_push (λ h. (is_some (get held_cmp n h) ≡ true)) (take i things) x (all_weaker (λ h. (is_some (get held_cmp m h) ≡ true)) (λ h. (is_some (get held_cmp n h) ≡ true)) (take i things) kept a) now)

pub both_ok : {X E : Type 0} (r : Result X E) (P Q R : X → Type 0) → IfOk r P → IfOk r Q → ((x : X) → P x → Q x → R x) → IfOk r R
both_ok (Ok x) P Q R p q f = f x p q
both_ok (Err e) P Q R p q f = p
