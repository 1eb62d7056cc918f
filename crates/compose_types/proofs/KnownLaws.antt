-- Things that are known, found by a map.
use Rattle.std.proofs.Common.{◌≡◌, ℕ, suc, ◌&&◌, Bool, true, false, cond, List, [], ◌∷◌, ◌++◌, length, Option, Some, None, refl, sym, ap, subst, ◌∙◌}
use Rattle.std.specs.Prelude.{◌==◌, option_map, option_and_then, slice_get, is_some, IfSome, if◌then◌else◌}
use Rattle.std.specs.Option.{option_or}
use Rattle.std.specs.Ordering.{nat_cmp, bool_cmp, ordering_then, is_eq}
use Rattle.std.specs.Cmp.{both_tied, unsigned_ties}
use Rattle.std.specs.BTreeMap.{BTreeMap, Updates, get}
use Rattle.std.proofs.lemmas.Bool.{and_parts, eqb-true}
use Rattle.std.proofs.lemmas.List.{map_push}
use Rattle.std.proofs.lemmas.Option.{same_Some}
use Rattle.comp_entity.specs.Fits.{same_name, same_truth}
use Rattle.comp_entity.specs.Names.{Mention, OfResource, OfPlace}
use Rattle.comp_entity.specs.Places.{same_mention}
use Rattle.compose_writing.specs.Keys.{At, KnownThings, known_at}
use Rattle.compose_types.specs.Views.{AreFound, AreNamed, FindsKeys, IsNamed, at_of, at_there, key_cmp, key_place, known_of, mention_of, name_of, place_of, same_key}
use Rattle.compose_types.specs.declared.known.At.{At as AtOf}
use Rattle.compose_types.specs.declared.known.Key.{Key}

-- ---- keys

truth_ties : (a b : Bool) → same_truth a b ≡ is_eq (bool_cmp a b)
truth_ties true true = refl
truth_ties true false = refl
truth_ties false true = refl
truth_ties false false = refl

key_ties : (a b : Key) → same_key a b ≡ is_eq (key_cmp a b)
key_ties a b =
    both_tied _ _ (bool_cmp a.is_place b.is_place) (ordering_then (nat_cmp a.out b.out) (nat_cmp a.number b.number)) (truth_ties a.is_place b.is_place)
    (both_tied _ _ (nat_cmp a.out b.out) (nat_cmp a.number b.number) (unsigned_ties a.out b.out) (unsigned_ties a.number b.number))

same_truths : (a b : Bool) → same_truth a b ≡ true → a ≡ b
same_truths true true e = refl
same_truths true false e = absurd cc
same_truths false true e = absurd cc
same_truths false false e = refl

same_keys : (a b : Key) → same_key a b ≡ true → a ≡ b
same_keys a b e =
    let parts = and_parts (same_truth a.is_place b.is_place) ((a.out == b.out) && (a.number == b.number)) e in
    let rest = and_parts (a.out == b.out) (a.number == b.number) parts.1 in
    λ i. record { is_place = same_truths a.is_place b.is_place parts.0 i; out = eqb-true a.out b.out rest.0 i; number = eqb-true a.number b.number rest.1 i }

-- keys are compared as what they stand for
keys_mention : (a b : Key) → same_mention (mention_of a) (mention_of b) ≡ same_key a b
keys_mention a b = one a.is_place b.is_place
  where
    one : (p q : Bool) → same_mention (if p then OfPlace (name_of a) else OfResource (name_of a)) (if q then OfPlace (name_of b) else OfResource (name_of b)) ≡ (same_truth p q && same_name (name_of a) (name_of b))
    one true true = refl
    one true false = refl
    one false true = refl
    one false false = refl

-- ---- what is found

abbrev pub found_there : List (Key × AtOf) → Option ℕ → Option At
found_there ks place = option_map at_there (option_and_then (slice_get (known_of ks)) place)

pub known_found : (ks : List (Key × AtOf)) (key : Key) → known_at (known_of ks) (mention_of key) ≡ found_there ks (key_place key ks)
known_found [] key = refl
known_found (k ∷ ks) key = ap (λ b. if b then Some (at_of k.1) else known_at (known_of ks) (mention_of key)) (keys_mention k.0 key) ∙ one (same_key k.0 key) (key_place key ks) (known_found ks key)
  where
    one : (b : Bool) (o : Option ℕ) → known_at (known_of ks) (mention_of key) ≡ found_there ks o → cond b (Some (at_of k.1)) (known_at (known_of ks) (mention_of key)) ≡ found_there (k ∷ ks) (cond b (Some 0) (option_map suc o))
    one true o e = refl
    one false None e = e
    one false (Some i) e = e

pub named_at : (ks : KnownThings) (key : Mention) → AreNamed ks → IfSome (known_at ks key) IsNamed
named_at [] key n = tt
named_at (k ∷ ks) key n = one (same_mention k.0 key) (named_at ks key n.1)
  where
    one : (b : Bool) → IfSome (known_at ks key) IsNamed → IfSome (cond b (Some k.1) (known_at ks key)) IsNamed
    one true h = n.0
    one false h = h

pub mapped : {X Y : Type 0} (f : X → Y) (P : Y → Type 0) (o : Option X) (p : Option Y) → option_map f o ≡ p → IfSome p P → IfSome o (λ x. P (f x))
mapped f P None p is h = tt
mapped f P (Some x) p is h = rw (sym is) at h

-- ---- one more

pub named_push : (ks : KnownThings) (k : Mention × At) → AreNamed ks → IsNamed k.1 → AreNamed (ks ++ k ∷ [])
named_push [] k n h = (h, tt)
named_push (x ∷ ks) k n h = (n.0, named_push ks k n.1 h)

place_push : (key : Key) (ks : List (Key × AtOf)) (x : Key × AtOf) → key_place key (ks ++ x ∷ []) ≡ option_or (key_place key ks) (cond (same_key x.0 key) (Some (length ks)) None)
place_push key [] x = refl
place_push key (k ∷ ks) x = ap (λ (r : Option ℕ). cond (same_key k.0 key) (Some 0) (option_map suc r)) (place_push key ks x) ∙ one (same_key k.0 key) (key_place key ks) (same_key x.0 key)
  where
    one : (b : Bool) (o : Option ℕ) (c : Bool) → cond b (Some 0) (option_map suc (option_or o (cond c (Some (length ks)) None))) ≡ option_or (cond b (Some 0) (option_map suc o)) (cond c (Some (suc (length ks))) None)
    one true o c = refl
    one false (Some k) c = refl
    one false None true = refl
    one false None false = refl

or_nothing : (o : Option ℕ) → o ≡ option_or o None
or_nothing None = refl
or_nothing (Some k) = refl

finds_more : (old new : BTreeMap Key ℕ) (ks : List (Key × AtOf)) (x : Key × AtOf) (place : ℕ) → FindsKeys old ks → get key_cmp old x.0 ≡ None → place ≡ length ks → Updates key_cmp old new x.0 (Some place) → FindsKeys new (ks ++ x ∷ [])
finds_more old new ks x place f absent at u key =
    u.0 key ∙ (λ i. cond (sym (key_ties x.0 key) i) (Some (at i)) (get key_cmp old key)) ∙ one (same_key x.0 key) refl ∙ sym (place_push key ks x)
  where
    one : (b : Bool) → same_key x.0 key ≡ b → cond (same_key x.0 key) (Some (length ks)) (get key_cmp old key) ≡ option_or (key_place key ks) (cond (same_key x.0 key) (Some (length ks)) None)
    one true e =
        let gone : key_place key ks ≡ None = sym (f key) ∙ ap (λ j. get key_cmp old j) (sym (same_keys x.0 key e)) ∙ absent in
        (λ i. cond (e i) (Some (length ks)) (get key_cmp old key)) ∙ sym (λ i. option_or (gone i) (cond (e i) (Some (length ks)) None))
    one false e = (λ i. cond (e i) (Some (length ks)) (get key_cmp old key)) ∙ f key ∙ or_nothing (key_place key ks) ∙ (λ i. option_or (key_place key ks) (cond (sym e i) (Some (length ks)) None))

pub found_push : (old new : BTreeMap Key ℕ) (ks : List (Key × AtOf)) (key : Key) (at : AtOf) (place : ℕ) → AreFound old ks → get key_cmp old key ≡ None → place ≡ length ks → Updates key_cmp old new key (Some place) → IsNamed (at_of at) → AreFound new (ks ++ (key, at) ∷ [])
found_push old new ks key at place f absent is u n = record {
  named = subst AreNamed (sym (map_push place_of ks (key, at))) (named_push (known_of ks) (mention_of key, at_of at) f.named n);
  found = finds_more old new ks (key, at) place f.found absent is u;
}

-- what is not known stands nowhere
pub not_found : (first : BTreeMap Key ℕ) (ks : List (Key × AtOf)) (key : Key) → FindsKeys first ks → (known : KnownThings) → known ≡ known_of ks → is_some (known_at known (mention_of key)) ≡ false → get key_cmp first key ≡ None
not_found first ks key f known is none = f key ∙ one (key_place key ks) refl
  where
    one : (o : Option ℕ) → key_place key ks ≡ o → o ≡ None
    one None e = refl
    one (Some i) e = absurd (no_truth (sym (ap (λ o. is_some o) (known_found ks key ∙ ap (found_there ks) e) ∙ there ks i e) ∙ ap (λ k. is_some (known_at k (mention_of key))) (sym is) ∙ none))
      where
        no_truth : true ≡ false → ⊥
        no_truth e = absurd cc

        there : (ks : List (Key × AtOf)) (i : ℕ) → key_place key ks ≡ Some i → is_some (found_there ks (Some i)) ≡ true
        there [] i e = absurd cc
        there (k ∷ ks) i e = at (same_key k.0 key) (key_place key ks) (there ks) i e
          where
            at : (b : Bool) (o : Option ℕ) → ((i : ℕ) → o ≡ Some i → is_some (found_there ks (Some i)) ≡ true) → (i : ℕ) → cond b (Some 0) (option_map suc o) ≡ Some i → is_some (found_there (k ∷ ks) (Some i)) ≡ true
            at true o rest i e = subst (λ j. is_some (found_there (k ∷ ks) (Some j)) ≡ true) (same_Some 0 i e) refl
            at false None rest i e = absurd cc
            at false (Some j) rest i e = subst (λ n. is_some (found_there (k ∷ ks) (Some n)) ≡ true) (same_Some (suc j) i e) (rest j refl)
