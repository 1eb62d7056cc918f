-- What trees mention, seen from further out, and leaf by leaf.
use Rattle.std.proofs.Common.{◌≡◌, ◌⊎◌, inl, inr, ◌||◌, ◌==◌, ◌-◌, ℕ, suc, Bool, true, false, List, [], ◌∷◌, ◌++◌, refl, sym, ap, ◌∙◌, arith}
use Rattle.std.specs.Prelude.{flat_map, filter, nat_le, if◌then◌else◌}
use Rattle.std.specs.List.{list_all}
use Rattle.std.proofs.lemmas.Bool.{and_from, and_parts, eq-eqb, eqb-true, le-leb, or_left, or_right}
use Rattle.std.proofs.lemmas.Grind.{flat_map-append}
use Rattle.std.proofs.lemmas.List.{append-nil}
use Rattle.std.proofs.lemmas.List.Folds.{list_any-append}
use Rattle.comp_entity.specs.Entity.{Name, EntityTree, IsType, IsFunc, IsInstance, IsComponent, IsModule, IsOwnModule, Entries, no_entry, entry}
use Rattle.comp_entity.specs.Fits.{same_name}
use Rattle.comp_entity.specs.Names.{Mention, OfResource, OfPlace, in_entity, in_entries}
use Rattle.comp_entity.specs.Places.{Path, leaves_of, leaves_in}
use Rattle.compose_left.specs.declared.spots.Thing.{Thing}
use Rattle.compose_left.specs.Origins.{same_thing}
use Rattle.compose_needs.specs.Mentioned.{has, around, outward, outwards}
use Rattle.compose_needs.specs.DeepLaws.{deepen, deepened}
use Rattle.compose_needs.specs.ThingLaws.{same_things, same_itself}

-- ---- names

pub name_is : (a b : Name) → same_name a b ≡ true → a ≡ b
name_is a b h =
    let h = and_parts (a.out == b.out) (a.number == b.number) h in
    λ i. record { out = eqb-true a.out b.out h.0 i; number = eqb-true a.number b.number h.1 i }

pub name_itself : (n : Name) → same_name n n ≡ true
name_itself n =
    and_from (n.out == n.out) (n.number == n.number) (eq-eqb n.out n.out refl) (eq-eqb n.number n.number refl)

-- ---- lists of things

either : (a b : Bool) → a || b ≡ true → (a ≡ true) ⊎ (b ≡ true)
either true b h = inl refl
either false b h = inr h

pub has_either : (xs ys : List Thing) (t : Thing) → has (xs ++ ys) t ≡ true → (has xs t ≡ true) ⊎ (has ys t ≡ true)
has_either xs ys t h = either (has xs t) (has ys t) (sym (list_any-append (λ m. same_thing m t) xs ys) ∙ h)

pub has_first : (xs ys : List Thing) (t : Thing) → has xs t ≡ true → has (xs ++ ys) t ≡ true
has_first xs ys t h = list_any-append (λ m. same_thing m t) xs ys ∙ or_left (has xs t) (has ys t) h

pub has_then : (xs ys : List Thing) (t : Thing) → has ys t ≡ true → has (xs ++ ys) t ≡ true
has_then xs ys t h = list_any-append (λ m. same_thing m t) xs ys ∙ or_right (has xs t) (has ys t) h

pub has_one : (x t : Thing) → has (x ∷ []) t ≡ true → x ≡ t
has_one x t h = one (same_thing x t) refl h
  where
    one : (b : Bool) → same_thing x t ≡ b → b || false ≡ true → x ≡ t
    one true e h = same_things x t e
    one false e h = absurd cc

pub has_itself : (x : Thing) (xs : List Thing) → has (x ∷ xs) x ≡ true
has_itself x xs = or_left (same_thing x x) (has xs x) (same_itself x)

-- what holds of all holds of each that there is
pub all_have : (p : Thing → Bool) (xs : List Thing) (t : Thing) → list_all p xs ≡ true → has xs t ≡ true → p t ≡ true
all_have p [] t a h = absurd cc
all_have p (x ∷ xs) t a h =
    go (all_have p xs t (and_parts (p x) (list_all p xs) a).1) (either (same_thing x t) (has xs t) h)
  where
    go : (has xs t ≡ true → p t ≡ true) → (same_thing x t ≡ true) ⊎ (has xs t ≡ true) → p t ≡ true
    go later (inl e) = sym (ap p (same_things x t e)) ∙ (and_parts (p x) (list_all p xs) a).0
    go later (inr e) = later e

pub filter_has : (p : Thing → Bool) (xs : List Thing) (t : Thing) → p t ≡ true → has xs t ≡ true
    → has (filter p xs) t ≡ true
filter_has p [] t q h = absurd cc
filter_has p (x ∷ xs) t q h = go (filter_has p xs t q) (either (same_thing x t) (has xs t) h)
  where
    first : (b : Bool) → b ≡ true → has (x ∷ filter p xs) t ≡ true
        → has (if b then x ∷ filter p xs else filter p xs) t ≡ true
    first true e h = h
    first false e h = absurd cc

    later : (b : Bool) → has (filter p xs) t ≡ true → has (if b then x ∷ filter p xs else filter p xs) t ≡ true
    later true h = or_right (same_thing x t) (has (filter p xs) t) h
    later false h = h

    go : (has xs t ≡ true → has (filter p xs) t ≡ true) → (same_thing x t ≡ true) ⊎ (has xs t ≡ true)
        → has (filter p (x ∷ xs)) t ≡ true
    go rest (inl e) = first (p x) (ap p (same_things x t e) ∙ q) (or_left (same_thing x t) (has (filter p xs) t) e)
    go rest (inr e) = later (p x) (rest e)

-- ---- leaf by leaf

abbrev pub in_leaves : ℕ → List (Path × EntityTree) → List (ℕ × Mention)
in_leaves d ls = flat_map (λ l. in_entity d l.1) ls

one_leaf : (d : ℕ) (e : EntityTree) → in_entity d e ++ [] ≡ in_entity d e
one_leaf d e = append-nil (in_entity d e)

mutual
  pub leaves_mention : (d : ℕ) (path : Path) (e : EntityTree) → in_leaves d (leaves_of path e) ≡ in_entity d e
  leaves_mention d path (IsType t) = one_leaf d (IsType t)
  leaves_mention d path (IsFunc f) = one_leaf d (IsFunc f)
  leaves_mention d path (IsInstance es) = among_mention d path es
  leaves_mention d path (IsComponent is es) = one_leaf d (IsComponent is es)
  leaves_mention d path (IsModule m) = refl
  leaves_mention d path IsOwnModule = refl

  pub among_mention : (d : ℕ) (path : Path) (es : Entries) → in_leaves d (leaves_in path es) ≡ in_entries d es
  among_mention d path no_entry = refl
  among_mention d path (entry name e mark es) =
      flat_map-append (λ (l : Path × EntityTree). in_entity d l.1) (leaves_of (path ++ name ∷ []) e) (leaves_in path es)
      ∙ (λ i. leaves_mention d (path ++ name ∷ []) e i ++ among_mention d path es i)

pub outwards-append : (xs ys : List (ℕ × Mention)) → outwards (xs ++ ys) ≡ outwards xs ++ outwards ys
outwards-append xs ys = flat_map-append outward xs ys

-- what leaves mention
abbrev pub leaves_mentioned : List (Path × EntityTree) → List Thing
leaves_mentioned ls = outwards (in_leaves 0 ls)

-- ---- from further out

abbrev pub further_out : Thing → Thing
further_out t = record t { out = suc t.out }

abbrev pub called : Bool → Name → Thing
called is_type n = record { is_type = is_type; out = n.out; number = n.number }

around_out : (is_type : Bool) (d : ℕ) (n : Name) (t : Thing) → has (around (called is_type) d n) (further_out t) ≡ true
    → has (around (called is_type) (suc d) n) t ≡ true
around_out is_type d n t h = go (nat_le d n.out) refl h
  where
    go : (b : Bool) → nat_le d n.out ≡ b
        → has (if b then called is_type (record { out = n.out - d; number = n.number }) ∷ [] else []) (further_out t)
        ≡ true → has (around (called is_type) (suc d) n) t ≡ true
    go false e h = absurd cc
    go true e h =
        let same = has_one (called is_type (record { out = n.out - d; number = n.number })) (further_out t) h in
        let out : n.out - d ≡ suc t.out = ap (λ (x : Thing). x.out) same in
        let past : nat_le (suc d) n.out ≡ true = le-leb (suc d) n.out (omega (arith, out)) in
        let less : n.out - suc d ≡ t.out = omega (arith, out) in
        let is : called is_type (record { out = n.out - suc d; number = n.number })
        ≡ t = (λ i. record { is_type = (same i).is_type; out = less i; number = (same i).number }) in
        ap (λ b. has (if b then called is_type (record { out = n.out - suc d; number = n.number }) ∷ [] else []) t) past
        ∙ ap (λ x. has (x ∷ []) t) is ∙ has_itself t []

outward_out : (x : ℕ × Mention) (t : Thing) → has (outward x) (further_out t) ≡ true → has (outward (deepen x)) t ≡ true
outward_out (d, OfResource n) t h = around_out false d n t h
outward_out (d, OfPlace n) t h = around_out true d n t h

pub outwards_out : (xs : List (ℕ × Mention)) (t : Thing) → has (outwards xs) (further_out t) ≡ true
    → has (outwards (deepened xs)) t ≡ true
outwards_out [] t h = absurd cc
outwards_out (x ∷ xs) t h = go (outwards_out xs t) (has_either (outward x) (outwards xs) (further_out t) h)
  where
    go : (has (outwards xs) (further_out t) ≡ true → has (outwards (deepened xs)) t ≡ true)
        → (has (outward x) (further_out t) ≡ true) ⊎ (has (outwards xs) (further_out t) ≡ true)
        → has (outwards (deepened (x ∷ xs))) t ≡ true
    go rest (inl e) = has_first (outward (deepen x)) (outwards (deepened xs)) t (outward_out x t e)
    go rest (inr e) = has_then (outward (deepen x)) (outwards (deepened xs)) t (rest e)
