-- What imports need, and what is brought, in the words of the rule.
use Rattle.std.proofs.Common.{◌≡◌, ℕ, suc, Bool, true, false, cond, List, [], ◌∷◌, ◌++◌, map, Option, Some, None, refl, sym, ap, subst, ◌∙◌, arith, inl, inr}
use Rattle.std.specs.Prelude.{◌||◌, ◌&&◌, ◌↔◌, ◌⊎◌, Contains, IsSome, bytes_eq, filter, find, flat_map, is_none, not, option_and_then, option_map, slice_get}
use Rattle.std.specs.Cmp.Lexicographic.{nat_list_eq_equiv, same_text}
use Rattle.std.proofs.lemmas.Bool.{and_parts}
use Rattle.std.proofs.lemmas.Grind.{flat_map-append}
use Rattle.std.proofs.lemmas.List.{append-nil, map-append}
use Rattle.std.proofs.lemmas.List.Elements.{Contains-append_cases, Contains-append_left, Contains-append_right}
use Rattle.comp_entity.specs.Entity.{EntityTree, IsType, IsFunc, IsInstance, IsComponent, IsModule, IsOwnModule, Entries, no_entry, entry}
use Rattle.comp_entity.specs.Names.{in_entity, in_entries}
use Rattle.comp_entity.specs.Places.{Path, leaves_in, leaves_of}
use Rattle.compose_left.specs.declared.spots.Thing.{Thing}
use Rattle.compose_left.specs.Origins.{same_thing}
use Rattle.compose_needs.specs.declared.leaves.Leaf.{Leaf}
use Rattle.compose_needs.specs.declared.place.Place.{Place}
use Rattle.compose_needs.specs.Components.{HoldsTied}
use Rattle.compose_needs.specs.Leaves.{leaf_of, leaves_at}
use Rattle.compose_needs.specs.Lefts.{Lefts}
use Rattle.compose_needs.specs.Mentioned.{has, mentioned, outward, outwards}
use Rattle.compose_needs.specs.ThingLaws.{both, same_itself, same_things}
use Rattle.compose_needs.specs.Tied.{AreTied, are_tied, entity_holds_tied, named_in}
use Rattle.compose_order.specs.Brought.{Brings, BringsInOrder, IsBrought, IsBroughtAmong, NeedsSomethingOf, NeedsThing}
use Rattle.compose_order.specs.Needs.{LeftTree, called_at, is_bound, is_brought, is_of, is_own, left_place, left_places, need_of, needs, other_name, thing_of}
use Rattle.compose_order.proofs.ThingLists.{all_has, contains_cases, contains_first, contains_later, filter_has, find_first, first_found, flat_has, has_all, has_filter, has_flat, or_left, or_parts, or_right, split_at, unmapped}

no_truth : {A : Type 0} → true ≡ false → A
no_truth e = absurd cc

-- ---- what an import brings itself

of_name : (name : List ℕ) (o : Option (List ℕ)) → is_of name o ≡ true → o ≡ Some name
of_name name None e = absurd cc
of_name name (Some m) e = ap (λ (x : List ℕ). Some x) (sym (same_text name m (sym e)))

own_brings : (left : Lefts) (l : LeftTree) (t : Thing) → is_own left l t ≡ true → Brings left l t
own_brings left l t e =
    let parts = and_parts (has (map thing_of l.calls) t) (t.is_type || is_of l.name (left t.number)) e in
    one t.is_type refl parts.0 parts.1
  where
    one : (b : Bool) → t.is_type ≡ b → has (map thing_of l.calls) t ≡ true → (b || is_of l.name (left t.number)) ≡ true → Brings left l t
    one true is named rest = inr (is, named)
    one false is named rest = inl (is, named, of_name l.name (left t.number) rest)

brings_own : (left : Lefts) (l : LeftTree) (t : Thing) → Brings left l t → is_own left l t ≡ true
brings_own left l t (inl h) =
    both (has (map thing_of l.calls) t) (t.is_type || is_of l.name (left t.number)) h.1
    (or_right t.is_type (is_of l.name (left t.number)) (ap (is_of l.name) h.2 ∙ nat_list_eq_equiv.refl l.name))
brings_own left l t (inr h) = both (has (map thing_of l.calls) t) (t.is_type || is_of l.name (left t.number)) h.1 (or_left t.is_type (is_of l.name (left t.number)) h.0)

not_own : (left : Lefts) (l : LeftTree) (t : Thing) → is_own left l t ≡ false → ¬ (Brings left l t)
not_own left l t e b = no_truth (sym (brings_own left l t b) ∙ e)

-- ---- what the places of an import mention is what it mentions

abbrev mentioned_there : Leaf → List Thing
mentioned_there leaf = leaf.mentioned

abbrev all_mentioned : List (Path × EntityTree) → List Thing
all_mentioned ls = flat_map mentioned_there (map leaf_of ls)

mutual
  entity_mentions : (path : Path) (e : EntityTree) → all_mentioned (leaves_of path e) ≡ outwards (in_entity 0 e)
  entity_mentions path (IsInstance es) = entries_mention path es
  entity_mentions path (IsType t) = append-nil (mentioned (IsType t))
  entity_mentions path (IsFunc f) = append-nil (mentioned (IsFunc f))
  entity_mentions path (IsComponent is es) = append-nil (mentioned (IsComponent is es))
  entity_mentions path (IsModule m) = append-nil (mentioned (IsModule m))
  entity_mentions path IsOwnModule = append-nil (mentioned IsOwnModule)

  entries_mention : (path : Path) (es : Entries) → all_mentioned (leaves_in path es) ≡ outwards (in_entries 0 es)
  entries_mention path no_entry = refl
  entries_mention path (entry name e mark es) =
      ap (flat_map mentioned_there) (map-append leaf_of (leaves_of (path ++ name ∷ []) e) (leaves_in path es))
      ∙ flat_map-append mentioned_there (map leaf_of (leaves_of (path ++ name ∷ []) e)) (map leaf_of (leaves_in path es))
      ∙ (λ i. entity_mentions (path ++ name ∷ []) e i ++ entries_mention path es i)
      ∙ sym (flat_map-append outward (in_entity 0 e) (in_entries 0 es))

mentions_are : (e : EntityTree) → flat_map mentioned_there (leaves_at e) ≡ mentioned e
mentions_are e = entity_mentions [] e

-- ---- what is brought at places

abbrev brought_there : Lefts → LeftTree → Leaf → List Thing
brought_there left l leaf = filter (is_own left l) (called_at l.calls leaf.path)

named_is : (left : Lefts) (l : LeftTree) (xs : List Leaf) → named_in (map (left_place left l) xs) ≡ flat_map (brought_there left l) xs
named_is left l [] = refl
named_is left l (x ∷ xs) = ap (λ ts. brought_there left l x ++ ts) (named_is left l xs)

brought_among : (left : Lefts) (l : LeftTree) (xs : List Leaf) (t : Thing) → has (named_in (map (left_place left l) xs)) t ≡ true → IsBroughtAmong left l t xs
brought_among left l xs t h =
    let given = has_flat (brought_there left l) xs t (sym (ap (λ ts. has ts t) (named_is left l xs)) ∙ h) in
    let parts = has_filter (is_own left l) (called_at l.calls given.giver.path) t given.given in
    record { leaf = given.giver; among = given.among; brings = own_brings left l t parts.0; named = parts.1 }

among_brought : (left : Lefts) (l : LeftTree) (xs : List Leaf) (t : Thing) → IsBroughtAmong left l t xs → has (named_in (map (left_place left l) xs)) t ≡ true
among_brought left l xs t b =
    ap (λ ts. has ts t) (named_is left l xs)
    ∙ flat_has (brought_there left l) xs b.leaf t b.among (filter_has (is_own left l) (called_at l.calls b.leaf.path) t (brings_own left l t b.brings) b.named)

-- what a place asks is named up to it
asked_named : (left : Lefts) (l : LeftTree) → AreTied (left_places left l) → (before after : List Leaf) (leaf : Leaf) (t : Thing) → leaves_at l.entity ≡ before ++ leaf ∷ after
    → has leaf.mentioned t ≡ true → is_bound left l t ≡ true → IsBroughtAmong left l t (before ++ leaf ∷ [])
asked_named left l tied before after leaf t e m bound =
    brought_among left l (before ++ leaf ∷ []) t
    (ap (λ ps. has (named_in ps) t) (map-append (left_place left l) before (leaf ∷ []))
    ∙ tied (map (left_place left l) before) (map (left_place left l) after) (left_place left l leaf) t (ap (map (left_place left l)) e ∙ map-append (left_place left l) before (leaf ∷ after)) (filter_has (is_bound left l) leaf.mentioned t bound m))

tied_in_order : (left : Lefts) (l : LeftTree) → AreTied (left_places left l) → BringsInOrder left l
tied_in_order left l tied before after leaf t e m b = asked_named left l tied before after leaf t e m (or_left (is_own left l t) (is_none (left t.number)) (brings_own left l t b))

tied_origins : (left : Lefts) (l : LeftTree) → AreTied (left_places left l) → (t : Thing) → NeedsThing left l t → IsSome (left t.number)
tied_origins left l tied t h = one (left t.number) refl
  where
    one : (o : Option (List ℕ)) → left t.number ≡ o → IsSome o
    one (Some m) e = refl
    one None e =
        let given = has_flat mentioned_there (leaves_at l.entity) t (ap (λ ts. has ts t) (mentions_are l.entity) ∙ h.0) in
        let split = split_at (leaves_at l.entity) given.giver given.among in
        absurd (h.1 (asked_named left l tied split.before split.after given.giver t split.all given.given (or_right (is_own left l t) (is_none (left t.number)) (ap (λ (x : Option (List ℕ)). is_none x) e))).brings)

order_tied : (left : Lefts) (l : LeftTree) → ((t : Thing) → NeedsThing left l t → IsSome (left t.number)) → BringsInOrder left l → AreTied (left_places left l)
order_tied left l origins in_order before after p t e a =
    let cut = unmapped (left_place left l) (leaves_at l.entity) before after p e in
    let asked = has_filter (is_bound left l) cut.here.mentioned t (ap (λ (q : Place). has q.asked t) cut.here_is ∙ a) in
    let there : IsBroughtAmong left l t (cut.front ++ cut.here ∷ []) = one cut.front cut.back cut.here cut.all (is_own left l t) refl asked.0 asked.1 in
    (λ i. has (named_in (sym cut.front_is i ++ sym cut.here_is i ∷ [])) t) ∙ ap (λ ps. has (named_in ps) t) (sym (map-append (left_place left l) cut.front (cut.here ∷ [])))
    ∙ among_brought left l (cut.front ++ cut.here ∷ []) t there
  where
    one : (front back : List Leaf) (here : Leaf) → leaves_at l.entity ≡ front ++ here ∷ back → (b : Bool) → is_own left l t ≡ b → (b || is_none (left t.number)) ≡ true → has here.mentioned t ≡ true → IsBroughtAmong left l t (front ++ here ∷ [])
    one front back here all true is bound m = in_order front back here t all m (own_brings left l t is)
    one front back here all false is bound m =
        let needed : has (mentioned l.entity) t ≡ true = ap (λ ts. has ts t) (sym (mentions_are l.entity)) ∙ ap (λ ls. has (flat_map mentioned_there ls) t) all
        ∙ flat_has mentioned_there (front ++ here ∷ back) here t (Contains-append_right front (here ∷ back) here (contains_first here back)) m in
        no_origin (left t.number) bound (origins t (needed, not_own left l t is))
      where
        no_origin : (o : Option (List ℕ)) → is_none o ≡ true → IsSome o → IsBroughtAmong left l t (front ++ here ∷ [])
        no_origin None n s = absurd cc
        no_origin (Some m) n s = absurd cc

-- ---- the rule

module _ (tied_is : (ps : List Place) → (are_tied [] ps ≡ true) ↔ AreTied ps) (holds_is : (e : EntityTree) → (entity_holds_tied e ≡ true) ↔ HoldsTied e) where
  pub brought_is : (left : Lefts) (l : LeftTree) → (is_brought left l ≡ true) ↔ IsBrought left l
  brought_is left l = (sound, complete)
    where
      sound : is_brought left l ≡ true → IsBrought left l
      sound e =
          let parts = and_parts (are_tied [] (left_places left l)) (entity_holds_tied l.entity) e in
          let tied : AreTied (left_places left l) = (tied_is (left_places left l)).0 parts.0 in
          record { origins = tied_origins left l tied; in_order = tied_in_order left l tied; within = (holds_is l.entity).0 parts.1 }

      complete : IsBrought left l → is_brought left l ≡ true
      complete h =
          both (are_tied [] (left_places left l)) (entity_holds_tied l.entity)
          ((tied_is (left_places left l)).1 (order_tied left l h.origins h.in_order)) ((holds_is l.entity).1 h.within)

-- ---- what is needed of other imports

pub record IsFlat {X Y : Type 0} (f : X → List Y) (xs : List X) (y : Y) : Type 0 where
  pub giver : X
  pub among : Contains xs giver
  pub given : Contains (f giver) y

from_flat : {X Y : Type 0} (f : X → List Y) (xs : List X) (y : Y) → Contains (flat_map f xs) y → IsFlat f xs y
from_flat f [] y c = absurd (omega (arith, c.1))
from_flat f (x ∷ xs) y c = one (Contains-append_cases (f x) (flat_map f xs) y c) (from_flat f xs y)
  where
    one : Contains (f x) y ⊎ Contains (flat_map f xs) y → (Contains (flat_map f xs) y → IsFlat f xs y) → IsFlat f (x ∷ xs) y
    one (inl here) rest = record { giver = x; among = contains_first x xs; given = here }
    one (inr there) rest = let r = rest there in record { giver = r.giver; among = contains_later x r.giver xs r.among; given = r.given }

into_flat : {X Y : Type 0} (f : X → List Y) (xs : List X) (x : X) (y : Y) → Contains xs x → Contains (f x) y → Contains (flat_map f xs) y
into_flat f [] x y c h = absurd (omega (arith, c.1))
into_flat f (z ∷ xs) x y c h = contains_cases z x xs c (λ e. Contains-append_left (f z) (flat_map f xs) y (subst (λ u. Contains (f u) y) (sym e) h)) (λ d. Contains-append_right (f z) (flat_map f xs) y (into_flat f xs x y d h))

contains_has : (ts : List Thing) (t : Thing) → Contains ts t → has ts t ≡ true
contains_has [] t c = absurd (omega (arith, c.1))
contains_has (x ∷ ts) t c = contains_cases x t ts c (λ e. or_left (same_thing x t) (has ts t) (ap (λ y. same_thing y t) e ∙ same_itself t)) (λ d. or_right (same_thing x t) (has ts t) (contains_has ts t d))

has_contains : (ts : List Thing) (t : Thing) → has ts t ≡ true → Contains ts t
has_contains [] t h = absurd cc
has_contains (x ∷ ts) t h =
    or_parts (same_thing x t) (has ts t) h
    (λ e. subst (λ y. Contains (x ∷ ts) y) (same_things x t e) (contains_first x ts))
    (λ e. contains_later x t ts (has_contains ts t e))

nothing_in : {X : Type 0} (x : X) → Contains [] x → ⊥
nothing_in x c = omega (arith, c.1)

needs_sound : (left : Lefts) (l : LeftTree) (other : List ℕ) → Contains (needs left l) other → NeedsSomethingOf left l other
needs_sound left l other c =
    let flat = from_flat (need_of left l) (mentioned l.entity) other c in
    one flat.giver (contains_has (mentioned l.entity) flat.giver flat.among) (is_own left l flat.giver) refl (left flat.giver.number) refl flat.given
  where
    named : (t : Thing) (m : List ℕ) → has (mentioned l.entity) t ≡ true → is_own left l t ≡ false → left t.number ≡ Some m → (b : Bool) → bytes_eq l.name m ≡ b → Contains (cond b [] (m ∷ [])) other → NeedsSomethingOf left l other
    named t m h own origin true e c = absurd (nothing_in other c)
    named t m h own origin false e c = contains_cases m other [] c (λ same. record { thing = t; needed = (h, not_own left l t own); origin = origin ∙ ap (λ (x : List ℕ). Some x) same; another = ap (bytes_eq l.name) (sym same) ∙ e }) (λ d. absurd (nothing_in other d))

    one : (t : Thing) → has (mentioned l.entity) t ≡ true → (b : Bool) → is_own left l t ≡ b → (o : Option (List ℕ)) → left t.number ≡ o → Contains (cond b [] (other_name l.name o)) other → NeedsSomethingOf left l other
    one t h true own o origin c = absurd (nothing_in other c)
    one t h false own None origin c = absurd (nothing_in other c)
    one t h false own (Some m) origin c = named t m h own origin (bytes_eq l.name m) refl c

needs_complete : (left : Lefts) (l : LeftTree) (other : List ℕ) → NeedsSomethingOf left l other → Contains (needs left l) other
needs_complete left l other n =
    into_flat (need_of left l) (mentioned l.entity) n.thing other (has_contains (mentioned l.entity) n.thing n.needed.0) (one (is_own left l n.thing) refl)
  where
    one : (b : Bool) → is_own left l n.thing ≡ b → Contains (cond b [] (other_name l.name (left n.thing.number))) other
    one true own = absurd (n.needed.1 (own_brings left l n.thing own))
    one false own = subst (λ (o : Option (List ℕ)). Contains (other_name l.name o) other) (sym n.origin) (subst (λ b. Contains (cond b [] (other ∷ [])) other) (sym n.another) (contains_first other []))

pub needs_is : (left : Lefts) (l : LeftTree) (other : List ℕ) → Contains (needs left l) other ↔ NeedsSomethingOf left l other
needs_is left l other = (needs_sound left l other, needs_complete left l other)
