-- Numbers for origins: the table, and the things whose numbers are noted.
use Rattle.std.proofs.Common.{◌≡◌, ℕ, suc, ◌+◌, ◌<◌, Bool, true, false, cond, List, [], ◌∷◌, ◌++◌, length, take, Option, Some, None, refl, sym, ap, ◌∙◌, slice_index_or}
use Rattle.std.specs.Prelude.{option_map, ◌&&◌, ◌||◌}
use Rattle.std.specs.Option.{option_or}
use Rattle.std.specs.List.{list_any}
use Rattle.std.specs.BTreeMap.{BTreeMap, get, Updates}
use Rattle.std.specs.Cmp.{both_tied, unsigned_ties, nat_eq_equiv}
use Rattle.std.specs.Cmp.Lexicographic.{slice_cmp, lists_ties, texts_ties, lists_equiv, nat_list_eq_equiv}
use Rattle.std.specs.FinMap.{slice_cmp-IsAntisymmetric, nat_cmp-IsAntisymmetric}
use Rattle.std.specs.Ordering.{bool_cmp, nat_cmp, ordering_then, is_eq}
use Rattle.std.specs.declared.cmp.Ordering.{Ordering}
use Rattle.std.specs.declared.cmp.Ordering.TheVariants.{Less, Equal, Greater}
use Rattle.std.proofs.lemmas.List.{take_more}
use Rattle.std.proofs.lemmas.List.Folds.{list_any-append}
use Rattle.std.proofs.lemmas.Option.{same_Some}
use Rattle.compose_left.specs.declared.spots.Thing.{Thing}
use Rattle.compose_left.specs.declared.origin.Origin.{Origin}
use Rattle.compose_left.specs.declared.origin.Origin.TheVariants as origins
use Rattle.compose_left.specs.declared.origin.Held.{Held}
use Rattle.compose_left.specs.declared.numbering.OriginKey.{OriginKey}
use Rattle.compose_left.specs.Origins.{same_origin, is_made, with_origin, place_in}
use Rattle.compose_left.specs.Numbers.{origin_key, same_key, key_cmp, key_place, FindsOrigins, same_held, held_cmp}
use Rattle.compose_left.specs.Wired.{thing_cmp}
use Rattle.compose_left.proofs.MapLaws.{thing_ties, truth_ties}

equal_is : (o : Ordering) → true ≡ is_eq o → o ≡ Equal
equal_is Less e = absurd cc
equal_is Equal e = refl
equal_is Greater e = absurd cc

both : (x y : Ordering) → ordering_then x y ≡ Equal → (x ≡ Equal) × (y ≡ Equal)
both Less y e = absurd cc
both Equal y e = (refl, e)
both Greater y e = absurd cc

key_ties : (a b : OriginKey) → same_key a b ≡ is_eq (key_cmp a b)
key_ties a b =
    both_tied _ _ (bool_cmp a.is_given b.is_given) (ordering_then (nat_cmp a.instance b.instance) (slice_cmp (slice_cmp nat_cmp) a.path b.path)) (truth_ties a.is_given b.is_given)
    (both_tied _ _ (nat_cmp a.instance b.instance) (slice_cmp (slice_cmp nat_cmp) a.path b.path) (unsigned_ties a.instance b.instance) (lists_ties (slice_cmp nat_cmp) texts_ties a.path b.path))

bool_is : (a b : Bool) → bool_cmp a b ≡ Equal → a ≡ b
bool_is true true e = refl
bool_is true false e = absurd cc
bool_is false true e = absurd cc
bool_is false false e = refl

pub key_is : (a b : OriginKey) → same_key a b ≡ true → a ≡ b
key_is a b e =
    let f = both (bool_cmp a.is_given b.is_given) _ (equal_is (key_cmp a b) (sym e ∙ key_ties a b)) in
    let g = both (nat_cmp a.instance b.instance) (slice_cmp (slice_cmp nat_cmp) a.path b.path) f.1 in
    let is_given = bool_is a.is_given b.is_given f.0 in
    let instance = nat_cmp-IsAntisymmetric a.instance b.instance g.0 in
    let path = slice_cmp-IsAntisymmetric (slice_cmp-IsAntisymmetric nat_cmp-IsAntisymmetric) a.path b.path g.1 in
    λ i. record { is_given = is_given i; instance = instance i; path = path i }

pub key_or : (b : Bool) (o p : Option ℕ) → cond b (Some 0) (option_map suc (option_or o p)) ≡ option_or (cond b (Some 0) (option_map suc o)) (option_map suc p)
key_or true o p = refl
key_or false None p = refl
key_or false (Some n) p = refl

pub map_cond : (b : Bool) (n : ℕ) → option_map suc (cond b (Some n) None) ≡ cond b (Some (suc n)) None
map_cond true n = refl
map_cond false n = refl

key_push : (k : OriginKey) (os : List Origin) (o : Origin) → key_place k (os ++ o ∷ []) ≡ option_or (key_place k os) (cond (same_key (origin_key o) k) (Some (length os)) None)
key_push k [] o = refl
key_push k (p ∷ os) o =
    ap (λ (r : Option ℕ). cond (same_key (origin_key p) k) (Some 0) (option_map suc r)) (key_push k os o)
    ∙ key_or (same_key (origin_key p) k) (key_place k os) (cond (same_key (origin_key o) k) (Some (length os)) None)
    ∙ ap (λ (r : Option ℕ). option_or (cond (same_key (origin_key p) k) (Some 0) (option_map suc (key_place k os))) r) (map_cond (same_key (origin_key o) k) (length os))

pub or_none : (o : Option ℕ) → option_or o None ≡ o
or_none None = refl
or_none (Some n) = refl

-- one origin more, and its key
pub finds_added : (m n : BTreeMap OriginKey ℕ) (os : List Origin) (o : Origin) (key : OriginKey) → FindsOrigins m os → key ≡ origin_key o → get key_cmp m key ≡ None → (place : ℕ) → place ≡ length os → Updates key_cmp m n key (Some place) → (new : List Origin) → new ≡ os ++ o ∷ [] → FindsOrigins n new
finds_added m n os o key f is absent place at u new grown q =
    u.0 q ∙ ap (λ (k : ℕ). cond (is_eq (key_cmp key q)) (Some k) (get key_cmp m q)) at ∙ ap (λ (b : Bool). cond b (Some (length os)) (get key_cmp m q)) (sym (key_ties key q)) ∙ one (same_key key q) refl
    ∙ ap (λ (j : OriginKey). option_or (key_place q os) (cond (same_key j q) (Some (length os)) None)) is ∙ sym (key_push q os o) ∙ ap (key_place q) (sym grown)
  where
    one : (b : Bool) → same_key key q ≡ b → cond b (Some (length os)) (get key_cmp m q) ≡ option_or (key_place q os) (cond (same_key key q) (Some (length os)) None)
    one true e =
        let gone : key_place q os ≡ None = sym (f q) ∙ ap (λ (j : OriginKey). get key_cmp m j) (sym (key_is key q e)) ∙ absent in
        sym ((λ i. option_or (gone i) (cond (e i) (Some (length os)) None)))
    one false e = f q ∙ sym (or_none (key_place q os)) ∙ ap (λ (b : Bool). option_or (key_place q os) (cond b (Some (length os)) None)) (sym e)

pub key_alike : (p o : Origin) → is_made o ≡ false → same_key (origin_key p) (origin_key o) ≡ same_origin p o
key_alike (origins.Left n x) (origins.Left m y) e = refl
key_alike (origins.Left n x) (origins.Given j y) e = refl
key_alike (origins.Left n x) (origins.Made j m) e = absurd cc
key_alike (origins.Given i x) (origins.Left m y) e = refl
key_alike (origins.Given i x) (origins.Given j y) e = refl
key_alike (origins.Given i x) (origins.Made j m) e = absurd cc
key_alike (origins.Made i n) (origins.Left m y) e = refl
key_alike (origins.Made i n) (origins.Given j y) e = refl
key_alike (origins.Made i n) (origins.Made j m) e = absurd cc

key_found : (o : Origin) (os : List Origin) → is_made o ≡ false → key_place (origin_key o) os ≡ cond (list_any (λ p. same_origin p o) os) (Some (place_in os o)) None
key_found o [] e = refl
key_found o (p ∷ os) e =
    ap (λ (b : Bool). cond b (Some 0) (option_map suc (key_place (origin_key o) os))) (key_alike p o e)
    ∙ ap (λ (r : Option ℕ). cond (same_origin p o) (Some 0) (option_map suc r)) (key_found o os e)
    ∙ one (same_origin p o) (list_any (λ p. same_origin p o) os)
  where
    one : (b c : Bool) → cond b (Some 0) (option_map suc (cond c (Some (place_in os o)) None)) ≡ cond (b || c) (Some (cond b 0 (suc (place_in os o)))) None
    one true c = refl
    one false true = refl
    one false false = refl

some_is : (b : Bool) (n place : ℕ) → cond b (Some n) None ≡ Some place → (b ≡ true) × (place ≡ n)
some_is true n place e = (refl, sym (same_Some n place e))
some_is false n place e = absurd cc

none_is : (b : Bool) (n : ℕ) → cond b (Some n) None ≡ None → b ≡ false
none_is true n e = absurd cc
none_is false n e = refl

pub found : (o : Origin) (os : List Origin) (place : ℕ) → is_made o ≡ false → key_place (origin_key o) os ≡ Some place → (os ≡ with_origin os o) × (place ≡ place_in os o)
found o os place e h =
    let s = some_is (list_any (λ p. same_origin p o) os) (place_in os o) place (sym (key_found o os e) ∙ h) in
    ((λ i. cond (sym e i || sym s.0 i) os (os ++ o ∷ [])) ∙ refl, s.1)

pub itself : (o : Origin) → same_origin o o ≡ true
itself (origins.Left n x) = λ i. nat_list_eq_equiv.refl n i && (lists_equiv nat_list_eq_equiv).refl x i
itself (origins.Made i n) = λ j. nat_eq_equiv.refl i j && nat_eq_equiv.refl n j
itself (origins.Given i x) = λ j. nat_eq_equiv.refl i j && (lists_equiv nat_list_eq_equiv).refl x j

place_last : (os : List Origin) (o : Origin) → list_any (λ p. same_origin p o) os ≡ false → length os ≡ place_in (os ++ o ∷ []) o
place_last [] o e = λ i. cond (sym (itself o) i) 0 1
place_last (p ∷ os) o e = one (same_origin p o) refl (place_last os o)
  where
    one : (b : Bool) → same_origin p o ≡ b → (list_any (λ p. same_origin p o) os ≡ false → length os ≡ place_in (os ++ o ∷ []) o) → suc (length os) ≡ cond (same_origin p o) 0 (suc (place_in (os ++ o ∷ []) o))
    one true h rest = absurd (let bad : true ≡ false = (λ i. sym h i || list_any (λ p. same_origin p o) os) ∙ e in cc)
    one false h rest =
        let none : list_any (λ p. same_origin p o) os ≡ false = (λ i. sym h i || list_any (λ p. same_origin p o) os) ∙ e in
        ap suc (rest none) ∙ (λ i. cond (sym h i) 0 (suc (place_in (os ++ o ∷ []) o)))

pub missing : (o : Origin) (os : List Origin) → is_made o ≡ false → key_place (origin_key o) os ≡ None → (os ++ o ∷ [] ≡ with_origin os o) × (length os ≡ place_in (os ++ o ∷ []) o)
missing o os e h =
    let s = none_is (list_any (λ p. same_origin p o) os) (place_in os o) (sym (key_found o os e) ∙ h) in
    ((λ i. cond (sym e i || sym s i) os (os ++ o ∷ [])), place_last os o s)

-- ---- noted things

pub held_ties : (a b : Held) → same_held a b ≡ is_eq (held_cmp a b)
held_ties a b = both_tied _ _ (nat_cmp a.instance b.instance) (thing_cmp a.thing b.thing) (unsigned_ties a.instance b.instance) (thing_ties a.thing b.thing)

thing_is : (a b : Thing) → thing_cmp a b ≡ Equal → a ≡ b
thing_is a b e =
    let f = both (bool_cmp a.is_type b.is_type) _ e in
    let g = both (nat_cmp a.out b.out) (nat_cmp a.number b.number) f.1 in
    let is_type = bool_is a.is_type b.is_type f.0 in
    let out = nat_cmp-IsAntisymmetric a.out b.out g.0 in
    let number = nat_cmp-IsAntisymmetric a.number b.number g.1 in
    λ i. record { is_type = is_type i; out = out i; number = number i }

pub held_is : (a b : Held) → same_held a b ≡ true → a ≡ b
held_is a b e =
    let f = both (nat_cmp a.instance b.instance) (thing_cmp a.thing b.thing) (equal_is (held_cmp a b) (sym e ∙ held_ties a b)) in
    let instance = nat_cmp-IsAntisymmetric a.instance b.instance f.0 in
    let thing = thing_is a.thing b.thing f.1 in
    λ i. record { instance = instance i; thing = thing i }

noted_or : (a b : Bool) (k : ℕ) (o : Option ℕ) → cond b (Some k) (cond a (Some k) o) ≡ cond (a || (b || false)) (Some k) o
noted_or true true k o = refl
noted_or true false k o = refl
noted_or false true k o = refl
noted_or false false k o = refl

pub noted_step : (m n first : BTreeMap Held ℕ) (things : List Held) (i k : ℕ) (x h : Held) → i < length things → x ≡ slice_index_or things i x → Updates held_cmp m n x (Some k)
    → get held_cmp m h ≡ cond (list_any (λ t. same_held t h) (take i things)) (Some k) (get held_cmp first h)
    → get held_cmp n h ≡ cond (list_any (λ t. same_held t h) (take (i + 1) things)) (Some k) (get held_cmp first h)
noted_step m n first things i k x h lt is u e =
    let more : take (i + 1) things ≡ take i things ++ x ∷ [] = take_more things i x lt ∙ ap (λ (y : Held). take i things ++ y ∷ []) (sym is) in
    u.0 h ∙ (λ j. cond (sym (held_ties x h) j) (Some k) (e j))
    ∙ noted_or (list_any (λ t. same_held t h) (take i things)) (same_held x h) k (get held_cmp first h)
    ∙ ap (λ (b : Bool). cond b (Some k) (get held_cmp first h)) (sym (list_any-append (λ t. same_held t h) (take i things) (x ∷ [])) ∙ ap (λ (ts : List Held). list_any (λ t. same_held t h) ts) (sym more))
