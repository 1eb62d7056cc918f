-- Types of instances name what they mention of their own scope there or earlier, also where names around them are changed,
-- and where needs are merged.
use Rattle.std.proofs.Common.{◌≡◌, ℕ, ◌-◌, suc, ◌<◌, Bool, true, false, cond, List, [], ◌∷◌, ◌++◌, map, Option, Some, None, refl, sym, ap, ◌∙◌, arith}
use Rattle.std.specs.Prelude.{◌||◌, filter, nat_lt, option_map, option_to_list}
use Rattle.std.specs.List.{list_all}
use Rattle.std.proofs.lemmas.List.{map-append}
use Rattle.std.proofs.lemmas.List.Folds.{list_any-append}
use Rattle.std.proofs.lemmas.Bool.{and_parts}
use Rattle.comp_entity.specs.Entity.{Name, ValueTree, RecordOf, VariantOf, FlagsOf, EnumOf, TypeShapeTree, Value, Resource, Func, Instance, Component, EntityTree, IsType, IsFunc, IsInstance, IsComponent, IsModule, IsOwnModule, Entries, no_entry, entry}
use Rattle.comp_entity.specs.Fits.{place_of}
use Rattle.comp_entity.specs.Names.{Change, changing, deeper, outside, value_by, type_by, entity_by, entries_by}
use Rattle.comp_entity.specs.Places.{Path, leaves_of, leaves_in}
use Rattle.comp_coherence.specs.Coherence.{Names, OneTree, TypeCoheres, Coheres, AllCohere}
use Rattle.compose_left.specs.declared.spots.Thing.{Thing}
use Rattle.compose_left.specs.Merging.{followed_by, is_absent, new_in, union}
use Rattle.compose_left.specs.Origins.{same_thing}
use Rattle.compose_left.specs.Spots.{named_by, named_type, resource}
use Rattle.compose_needs.specs.declared.place.Place.{Place}
use Rattle.compose_needs.specs.Leaves.{leaf_of}
use Rattle.compose_needs.specs.Mentioned.{has, mentioned}
use Rattle.compose_needs.specs.ThingLaws.{both, same_things}
use Rattle.compose_needs.specs.Tied.{are_tied}
use Rattle.compose_known.specs.InOrder.{AreInOrder, IsApart, IsInOrder, TypeInOrder, is_instance_tied, is_of_scope, scope_place}
use Rattle.compose_settled.proofs.Near.{entity_stays, near}

-- ---- one type of instances

abbrev Item : Type 0
Item = Path × EntityTree

either_or : (a b c d : Bool) → (a ≡ true → c ≡ true) → (b ≡ true → d ≡ true) → (a || b) ≡ true → (c || d) ≡ true
either_or true b c d f g h = by c (f refl)
  where
    by : (c : Bool) → c ≡ true → (c || d) ≡ true
    by true is = refl
    by false is = absurd cc
either_or false b true d f g h = refl
either_or false b false d f g h = g h

-- what is had of the scope, is had of it elsewhere
abbrev Covers : List Thing → List Thing → Type 0
Covers ts us = (t : Thing) → is_of_scope t ≡ true → has ts t ≡ true → has us t ≡ true

covers_both : (a b c d : List Thing) → Covers a c → Covers b d → Covers (a ++ b) (c ++ d)
covers_both a b c d h k t near there =
    list_any-append (λ m. same_thing m t) c d
    ∙ either_or (has a t) (has b t) (has c t) (has d t) (h t near) (k t near) (sym (list_any-append (λ m. same_thing m t) a b) ∙ there)

-- all of some of the scope is had
all_had : (a b ts : List Thing) → Covers a b → list_all (has a) (filter is_of_scope ts) ≡ true → list_all (has b) (filter is_of_scope ts) ≡ true
all_had a b [] h k = refl
all_had a b (t ∷ ts) h k = by (is_of_scope t) refl k (all_had a b ts h)
  where
    by : (near : Bool) → is_of_scope t ≡ near → list_all (has a) (cond near (t ∷ filter is_of_scope ts) (filter is_of_scope ts)) ≡ true
        → (list_all (has a) (filter is_of_scope ts) ≡ true → list_all (has b) (filter is_of_scope ts) ≡ true)
        → list_all (has b) (cond near (t ∷ filter is_of_scope ts) (filter is_of_scope ts)) ≡ true
    by true near k rest =
        let parts = and_parts (has a t) (list_all (has a) (filter is_of_scope ts)) k in
        both (has b t) (list_all (has b) (filter is_of_scope ts)) (h t near parts.0) (rest parts.1)
    by false other k rest = rest k

module _ (f g : Name → Name) (d : ℕ) (deep : 0 < d) where
  abbrev c : Change
  c = changing f g

  abbrev changed : Item → Item
  changed x = (x.0, entity_by c d x.1)

  mutual
    leaves_changed : (path : Path) (e : EntityTree) → leaves_of path (entity_by c d e) ≡ map changed (leaves_of path e)
    leaves_changed path (IsInstance es) = inner_changed path es
    leaves_changed path (IsType t) = refl
    leaves_changed path (IsFunc fn) = refl
    leaves_changed path (IsComponent is es) = refl
    leaves_changed path (IsModule m) = refl
    leaves_changed path IsOwnModule = refl

    inner_changed : (path : Path) (es : Entries) → leaves_in path (entries_by c d es) ≡ map changed (leaves_in path es)
    inner_changed path no_entry = refl
    inner_changed path (entry name e mark es) =
        let first = leaves_changed (path ++ name ∷ []) e in
        let rest = inner_changed path es in
        (λ i. first i ++ rest i) ∙ sym (map-append changed (leaves_of (path ++ name ∷ []) e) (leaves_in path es))

  of_itself : (a : Thing) (t : Thing) → has (a ∷ []) t ≡ true → a ≡ t
  of_itself a t h = same_things a t (by (same_thing a t) h)
    where
      by : (b : Bool) → (b || false) ≡ true → b ≡ true
      by true h = refl
      by false h = h

  stays : (h : Name → Name) (n : Name) → nat_lt n.out 1 ≡ true → outside h d n ≡ n
  stays h n near =
      let inner : nat_lt n.out d ≡ true = grind (arith, deep) in
      ap (λ b. cond b n (deeper d (h (record n { out = n.out - d })))) inner

  one_named : (thing : Name → Thing) → ((n : Name) → (thing n).out ≡ n.out) → (h : Name → Name) (n : Name) → Covers (thing n ∷ []) (thing (outside h d n) ∷ [])
  one_named thing out h n t near there =
      let same = of_itself (thing n) t there in
      let of_scope : nat_lt n.out 1 ≡ true = ap (λ o. nat_lt o 1) (sym (out n) ∙ ap (λ (t : Thing). t.out) same) ∙ near in
      ap (λ n. has (thing n ∷ []) t) (stays h n of_scope) ∙ there

  place_changed : (t : ValueTree) → place_of (value_by c d t) ≡ option_map (outside g d) (place_of t)
  place_changed (RecordOf None cs) = refl
  place_changed (RecordOf (Some n) cs) = refl
  place_changed (VariantOf None cs) = refl
  place_changed (VariantOf (Some n) cs) = refl
  place_changed (FlagsOf None ls) = refl
  place_changed (FlagsOf (Some n) ls) = refl
  place_changed (EnumOf None ls) = refl
  place_changed (EnumOf (Some n) ls) = refl
  place_changed _ = refl

  type_named : (o : Option Name) → Covers (option_to_list (option_map named_type o)) (option_to_list (option_map named_type (option_map (outside g d) o)))
  type_named None t near there = absurd cc
  type_named (Some n) t near there = one_named named_type (λ n. refl) g n t near there

  named_stays : (e : EntityTree) → Covers (option_to_list (named_by e)) (option_to_list (named_by (entity_by c d e)))
  named_stays (IsType (Resource r)) t near there = one_named resource (λ n. refl) f r t near there
  named_stays (IsType (Value v)) t near there =
      ap (λ o. has (option_to_list (option_map named_type o)) t) (place_changed v) ∙ type_named (place_of v) t near there
  named_stays _ t near there = absurd cc

  abbrev place_at : Item → Place
  place_at x = scope_place (leaf_of x)

  abbrev places : List Item → List Place
  places xs = map scope_place (map leaf_of xs)

  asked_stays : (seen : List Thing) (x : Item) → list_all (has seen) (place_at x).asked ≡ true → list_all (has seen) (place_at (changed x)).asked ≡ true
  asked_stays seen x h = ap (list_all (has seen)) (entity_stays f g 0 d deep x.1) ∙ h

  tied_changed : (xs : List Item) (old new : List Thing) → Covers old new → are_tied old (places xs) ≡ true → are_tied new (places (map changed xs)) ≡ true
  tied_changed [] old new h k = refl
  tied_changed (x ∷ xs) old new h k =
      let before : List Thing = old ++ (place_at x).named in
      let after : List Thing = new ++ (place_at (changed x)).named in
      let parts = and_parts (list_all (has before) (place_at x).asked) (are_tied before (places xs)) k in
      let more = covers_both old (place_at x).named new (place_at (changed x)).named h (named_stays x.1) in
      both (list_all (has after) (place_at (changed x)).asked) (are_tied after (places (map changed xs)))
      (asked_stays after x (all_had before after (mentioned x.1) more parts.0))
      (tied_changed xs before after more parts.1)

  pub instance_tied : (es : Entries) → is_instance_tied es ≡ true → is_instance_tied (entries_by c d es) ≡ true
  instance_tied es h =
      ap (λ xs. are_tied [] (places xs)) (inner_changed [] es) ∙ tied_changed (leaves_in [] es) [] [] (λ t near there. there) h

-- ---- all of an entity

abbrev mutual
  pub TypeTies : TypeShapeTree → Type 0
  TypeTies (Value t) = Unit {0}
  TypeTies (Resource r) = Unit {0}
  TypeTies (Func f) = Unit {0}
  TypeTies (Instance es) = (is_instance_tied es ≡ true) × AllTie es
  TypeTies (Component is es) = AllTie is × AllTie es

  pub Ties : EntityTree → Type 0
  Ties (IsType t) = TypeTies t
  Ties (IsFunc f) = Unit {0}
  Ties (IsInstance es) = AllTie es
  Ties (IsComponent is es) = AllTie is × AllTie es
  Ties (IsModule m) = Unit {0}
  Ties IsOwnModule = Unit {0}

  pub AllTie : Entries → Type 0
  AllTie no_entry = Unit {0}
  AllTie (entry name e mark es) = Ties e × AllTie es

mutual
  type_ties : (t : TypeShapeTree) → TypeInOrder t → TypeTies t
  type_ties (Value t) h = tt
  type_ties (Resource r) h = tt
  type_ties (Func f) h = tt
  type_ties (Instance es) h = (h.0, all_tie es h.1)
  type_ties (Component is es) h = (all_tie is h.0, all_tie es h.1)

  pub ties : (e : EntityTree) → IsInOrder e → Ties e
  ties (IsType t) h = type_ties t h
  ties (IsFunc f) h = tt
  ties (IsInstance es) h = all_tie es h
  ties (IsComponent is es) h = (all_tie is h.0, all_tie es h.1)
  ties (IsModule m) h = tt
  ties IsOwnModule h = tt

  all_tie : (es : Entries) → AreInOrder es → AllTie es
  all_tie no_entry h = tt
  all_tie (entry name e mark es) h = (ties e h.0, all_tie es h.1)

module _ (f g : Name → Name) where
  mutual
    type_ties_by : (d : ℕ) (t : TypeShapeTree) → TypeTies t → TypeTies (type_by (changing f g) d t)
    type_ties_by d (Value t) h = tt
    type_ties_by d (Resource r) h = tt
    type_ties_by d (Func fn) h = tt
    type_ties_by d (Instance es) h = (instance_tied f g (suc d) (omega arith) es h.0, all_tie_by (suc d) es h.1)
    type_ties_by d (Component is es) h = (all_tie_by (suc (suc d)) is h.0, all_tie_by (suc (suc d)) es h.1)

    pub ties_by : (d : ℕ) (e : EntityTree) → Ties e → Ties (entity_by (changing f g) d e)
    ties_by d (IsType t) h = type_ties_by d t h
    ties_by d (IsFunc fn) h = tt
    ties_by d (IsInstance es) h = all_tie_by d es h
    ties_by d (IsComponent is es) h = (all_tie_by (suc (suc d)) is h.0, all_tie_by (suc (suc d)) es h.1)
    ties_by d (IsModule m) h = tt
    ties_by d IsOwnModule h = tt

    all_tie_by : (d : ℕ) (es : Entries) → AllTie es → AllTie (entries_by (changing f g) d es)
    all_tie_by d no_entry h = tt
    all_tie_by d (entry name e mark es) h = (ties_by d e h.0, all_tie_by d es h.1)

followed_tie : (es fs : Entries) → AllTie es → AllTie fs → AllTie (followed_by es fs)
followed_tie no_entry fs h k = k
followed_tie (entry name e mark es) fs h k = (h.0, followed_tie es fs h.1 k)

new_tie : (es fs : Entries) → AllTie fs → AllTie (new_in es fs)
new_tie es no_entry h = tt
new_tie es (entry name f mark fs) h = by (is_absent name es) (new_tie es fs h.1)
  where
    by : (b : Bool) → AllTie (new_in es fs) → AllTie (cond b (entry name f mark (new_in es fs)) (new_in es fs))
    by true rest = (h.0, rest)
    by false rest = rest

pub union_ties : (e f : EntityTree) → Ties e → Ties f → Ties (union e f)
union_ties (IsInstance es) (IsInstance fs) h k = followed_tie es (new_in es fs) h (new_tie es fs k)
union_ties _ _ h k = h

-- ---- what coheres and is tied stands in order

module _ (apart : (names : Names) (t : ValueTree) → OneTree names t → IsApart t) where
  mutual
    type_in_order : (names : Names) (t : TypeShapeTree) → TypeCoheres names t → TypeTies t → TypeInOrder t
    type_in_order names (Value t) h k = apart names t h
    type_in_order names (Resource r) h k = tt
    type_in_order names (Func fn) h k = tt
    type_in_order names (Instance es) h k = (k.0, all_in_order _ es h.1 k.1)
    type_in_order names (Component is es) h k = (all_in_order _ is h.1 k.0, all_in_order _ es h.2 k.1)

    pub in_order : (names : Names) (e : EntityTree) → Coheres names e → Ties e → IsInOrder e
    in_order names (IsType t) h k = type_in_order names t h k
    in_order names (IsFunc fn) h k = tt
    in_order names (IsInstance es) h k = all_in_order names es h k
    in_order names (IsComponent is es) h k = (all_in_order _ is h.1 k.0, all_in_order _ es h.2 k.1)
    in_order names (IsModule m) h k = tt
    in_order names IsOwnModule h k = tt

    all_in_order : (names : Names) (es : Entries) → AllCohere names es → AllTie es → AreInOrder es
    all_in_order names no_entry h k = tt
    all_in_order names (entry name e mark es) h k = (in_order names e h.0 k.0, all_in_order names es h.1 k.1)
