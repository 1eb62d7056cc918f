-- What those that need a left import call at a place of it stands for the type of what is named there.
use Rattle.std.proofs.Common.{◌≡◌, ℕ, Bool, true, false, cond, List, [], ◌∷◌, Option, Some, None, refl, sym, ap, ◌∙◌}
use Rattle.std.specs.Prelude.{bytes_eq, filter, find, is_some, map, not, slice_get}
use Rattle.std.specs.List.{AllByRecursion, fold}
use Rattle.std.specs.Option.{option_map_or}
use Rattle.comp_entity.specs.Entity.{Name, ValueTree, RecordOf, VariantOf, FlagsOf, EnumOf, Value, EntityTree, IsType, IsFunc, IsInstance, IsComponent, IsModule, IsOwnModule, Entries, no_entry, entry, ShapeTree}
use Rattle.comp_entity.specs.Fits.{place_of, under}
use Rattle.comp_entity.specs.Names.{Change, entity_by, entries_by}
use Rattle.comp_entity.specs.Places.{Path, leaves_of}
use Rattle.comp_scope.specs.Spaces.{is_named as is_value_named}
use Rattle.comp_coherence.specs.Coherence.{Coheres, Names, OneTree, bare_value}
use Rattle.compose_left.specs.declared.spots.Spot.{Spot}
use Rattle.compose_left.specs.declared.spots.Thing.{Thing}
use Rattle.compose_left.specs.Merging.{agree, followed_by, is_absent, new_in, union}
use Rattle.compose_left.specs.Origins.{placed, same_path}
use Rattle.compose_left.specs.Spots.{named_by, named_type, spots_in}
use Rattle.compose_left.specs.Wiring.{Wiring}
use Rattle.compose_needs.specs.declared.leaves.Leaf.{Leaf}
use Rattle.compose_needs.specs.Leaves.{leaf_of}
use Rattle.compose_order.specs.Needs.{LeftTree, called_at, is_at, thing_of}
use Rattle.compose_check.specs.Open.{Asked, agrees, all_agree, is_named, left_alone, left_open, lefts, merged_with, with_asked}
use Rattle.compose_origins.specs.Named.{HasOwnNames, HaveOwnNames}
use Rattle.compose_origins.specs.Placed.{CallsOneType, CallsWhatStands, IsTypeOf, StandsThere, PlacedCohere, type_of}
use Rattle.comp_coherence.specs.TypeLaws.{label_is, left_of, place_stands, right_of}
use Rattle.compose_origins.proofs.Paths.{at_coheres, at_path, both, itself, map_some, some_is}
use Rattle.compose_origins.proofs.Merged.{TypeAt, open_asks, under_behind, union_coheres, union_left, union_right}
use Rattle.compose_origins.proofs.Numbers.{path_is}
use Rattle.compose_origins.proofs.Spots.{LeafOf, SpotOf, leaves_stand, root_spots, weaker}

-- ---- names that differ

abbrev Found : Type 0
Found = Option (EntityTree × Bool)

no_truth : {A : Type 0} → true ≡ false → A
no_truth h = absurd cc

found_none : (o : Found) → not (is_some o) ≡ true → o ≡ None
found_none None h = refl
found_none (Some x) h = absurd cc

absent_followed : (name : List ℕ) (es rest : Entries) → is_absent name es ≡ true → is_absent name rest ≡ true → is_absent name (followed_by es rest) ≡ true
absent_followed name es rest h k = ap (λ (o : Found). not (is_some o)) (under_behind name es rest (found_none (under name es) h)) ∙ k

-- what some exports have is not among others
abbrev Apart : Entries → Entries → Type 0
Apart es fs = (name : List ℕ) → is_some (under name es) ≡ true → is_absent name fs ≡ true

apart_behind : (n : List ℕ) (e : EntityTree) (mark : Bool) (es fs : Entries) → Apart (entry n e mark es) fs → Apart es fs
apart_behind n e mark es fs h name there = h name (by (bytes_eq name n))
  where
    by : (b : Bool) → is_some (cond b (Some (e, mark)) (under name es)) ≡ true
    by true = refl
    by false = there

followed_own : (es fs : Entries) → HaveOwnNames es → HaveOwnNames fs → Apart es fs → HaveOwnNames (followed_by es fs)
followed_own no_entry fs h k apart = k
followed_own (entry n e mark es) fs h k apart = (
  absent_followed n es fs h.0 (apart n (ap (λ b. is_some (cond b (Some (e, mark)) (under n es))) (itself n))),
  h.1,
  followed_own es fs h.2 k (apart_behind n e mark es fs apart),
)

new_apart : (es fs : Entries) → Apart es (new_in es fs)
new_apart es no_entry name there = refl
new_apart es (entry n f mark fs) name there = by (is_absent n es) refl (new_apart es fs name there)
  where
    other : is_absent n es ≡ true → is_absent name (new_in es fs) ≡ true → (b : Bool) → bytes_eq name n ≡ b → not (is_some (cond b (Some (f, mark)) (under name (new_in es fs)))) ≡ true
    other absent rest true same =
        let missing : is_absent name es ≡ true = ap (λ k. is_absent k es) (label_is name n same) ∙ absent in
        no_truth (sym missing ∙ ap not there)
    other absent rest false same = rest

    by : (b : Bool) → is_absent n es ≡ b → is_absent name (new_in es fs) ≡ true → is_absent name (cond b (entry n f mark (new_in es fs)) (new_in es fs)) ≡ true
    by true absent rest = other absent rest (bytes_eq name n) refl
    by false present rest = rest

absent_new : (name : List ℕ) (es fs : Entries) → is_absent name fs ≡ true → is_absent name (new_in es fs) ≡ true
absent_new name es no_entry h = refl
absent_new name es (entry n f mark fs) h = by (bytes_eq name n) refl h (absent_new name es fs)
  where
    first : (b : Bool) → bytes_eq name n ≡ false → is_absent name (new_in es fs) ≡ true → is_absent name (cond b (entry n f mark (new_in es fs)) (new_in es fs)) ≡ true
    first true other rest = ap (λ b. not (is_some (cond b (Some (f, mark)) (under name (new_in es fs))))) other ∙ rest
    first false other rest = rest

    by : (b : Bool) → bytes_eq name n ≡ b → not (is_some (cond b (Some (f, mark)) (under name fs))) ≡ true
        → (is_absent name fs ≡ true → is_absent name (new_in es fs) ≡ true)
        → is_absent name (cond (is_absent n es) (entry n f mark (new_in es fs)) (new_in es fs)) ≡ true
    by true same h rest = absurd cc
    by false other h rest = first (is_absent n es) other (rest h)

new_own : (es fs : Entries) → HaveOwnNames fs → HaveOwnNames (new_in es fs)
new_own es no_entry h = tt
new_own es (entry n f mark fs) h = by (is_absent n es) (new_own es fs h.2)
  where
    by : (b : Bool) → HaveOwnNames (new_in es fs) → HaveOwnNames (cond b (entry n f mark (new_in es fs)) (new_in es fs))
    by true rest = (absent_new n es fs h.0, h.1, rest)
    by false rest = rest

union_own : (e f : EntityTree) → HasOwnNames e → HasOwnNames f → HasOwnNames (union e f)
union_own (IsInstance es) (IsInstance fs) h k = followed_own es (new_in es fs) h (new_own es fs k) (new_apart es fs)
union_own _ _ h k = h

module _ (c : Change) where
  found_by : (name : List ℕ) (es : Entries) → is_some (under name (entries_by c 0 es)) ≡ is_some (under name es)
  found_by name no_entry = refl
  found_by name (entry n e mark es) = by (bytes_eq name n) (found_by name es)
    where
      by : (b : Bool) → is_some (under name (entries_by c 0 es)) ≡ is_some (under name es)
          → is_some (cond b (Some (entity_by c 0 e, c.mark mark)) (under name (entries_by c 0 es))) ≡ is_some (cond b (Some (e, mark)) (under name es))
      by true rest = refl
      by false rest = rest

  mutual
    own_by : (e : EntityTree) → HasOwnNames e → HasOwnNames (entity_by c 0 e)
    own_by (IsInstance es) h = all_own_by es h
    own_by (IsType t) h = tt
    own_by (IsFunc f) h = tt
    own_by (IsComponent is es) h = tt
    own_by (IsModule m) h = tt
    own_by IsOwnModule h = tt

    all_own_by : (es : Entries) → HaveOwnNames es → HaveOwnNames (entries_by c 0 es)
    all_own_by no_entry h = tt
    all_own_by (entry name e mark es) h = (ap not (found_by name es) ∙ h.0, own_by e h.1, all_own_by es h.2)

-- ---- what is called

place_nameless : (t : ValueTree) (n : Name) → place_of t ≡ Some n → is_value_named (bare_value t) ≡ false
place_nameless (RecordOf (Some m) fs) n h = refl
place_nameless (VariantOf (Some m) cs) n h = refl
place_nameless (FlagsOf (Some m) ls) n h = refl
place_nameless (EnumOf (Some m) ls) n h = refl
place_nameless _ n h = absurd cc

module _ (names : Names) where
  -- at the path of a spot stands a type for which the spot's thing stands
  abbrev SpotStands : EntityTree → Spot → Type 0
  SpotStands e s = s.what.is_type ≡ true → StandsThere names e s.path s.what

  record Needs (x : Asked) : Type 0 where
    own : HasOwnNames x.1
    coheres : Coheres names x.1

  record IsNeeded (l : LeftTree) : Type 0 where
    own : HasOwnNames l.entity
    coheres : Coheres names l.entity
    calls : AllByRecursion (SpotStands l.entity) l.calls

  -- an entity has the types of another, at each path
  abbrev HasTypes : EntityTree → EntityTree → Type 0
  HasTypes whole e = (path : Path) (t : ValueTree) → at_path path e ≡ Some t → TypeAt path whole t

  spots_stand : (x : Asked) → Needs x → (name : List ℕ) (whole : EntityTree) → HasTypes whole x.1 → AllByRecursion (SpotStands whole) (spots_in 0 name [] x.1)
  spots_stand x h name whole has = weaker (SpotOf 0 name x.1) (SpotStands whole) stands (spots_in 0 name [] x.1) (root_spots 0 name x.1 h.own)
    where
      stands : (s : Spot) → SpotOf 0 name x.1 s → SpotStands whole s
      stands s k is =
          let typed = k.2 is in
          let u = has s.path typed.tree typed.there in
          record {
            ty = u.0;
            there = u.1;
            is = ap (type_of names) typed.what ∙ place_stands names typed.tree typed.place (at_coheres names s.path x.1 h.coheres typed.tree typed.there) typed.named ∙ ap Some (sym u.2);
            nameless = ap is_value_named u.2 ∙ place_nameless typed.tree typed.place typed.named;
          }

  alone_needed : (x : Asked) → Needs x → IsNeeded (left_alone x)
  alone_needed x h = record { own = h.own; coheres = h.coheres; calls = spots_stand x h x.0 x.1 (λ path t is. (t, is, refl)) }

  merged_needed : (l : LeftTree) (x : Asked) → IsNeeded l → Needs x → agree l.entity x.1 ≡ true → IsNeeded (merged_with l x.1)
  merged_needed l x h k agreed = record {
    own = union_own l.entity x.1 h.own k.own;
    coheres = union_coheres names l.entity x.1 h.coheres k.coheres;
    calls =
        both (SpotStands (union l.entity x.1)) l.calls (spots_in 0 l.name [] x.1)
        (weaker (SpotStands l.entity) (SpotStands (union l.entity x.1)) (λ s stands is. (let u = stands is in record { ty = u.ty; there = union_left s.path l.entity x.1 u.ty u.there; is = u.is; nameless = u.nameless })) l.calls h.calls)
        (spots_stand x k l.name (union l.entity x.1) (union_right_at l.entity x.1 agreed));
  }
    where
      union_right_at : (e f : EntityTree) → agree e f ≡ true → HasTypes (union e f) f
      union_right_at e f agreed path t is = union_right path e f agreed t is

  asked_needed : (ls : List LeftTree) (x : Asked) → AllByRecursion IsNeeded ls → Needs x → agrees ls x ≡ true → AllByRecursion IsNeeded (with_asked ls x)
  asked_needed [] x h k agreed = (alone_needed x k, tt)
  asked_needed (l ∷ ls) x h k agreed = by (bytes_eq x.0 l.name) agreed (asked_needed ls x h.1 k)
    where
      by : (b : Bool) → option_map_or (λ (l : LeftTree). agree l.entity x.1) (cond b (Some l) (find (is_named x.0) ls)) true ≡ true
          → (agrees ls x ≡ true → AllByRecursion IsNeeded (with_asked ls x))
          → AllByRecursion IsNeeded (cond b (merged_with l x.1 ∷ ls) (l ∷ with_asked ls x))
      by true agreed rest = (merged_needed l x h.0 k agreed, h.1)
      by false agreed rest = (h.0, rest agreed)

  all_needed : (xs : List Asked) (ls : List LeftTree) → AllByRecursion IsNeeded ls → AllByRecursion Needs xs → all_agree ls xs ≡ true → AllByRecursion IsNeeded (fold with_asked ls xs)
  all_needed [] ls h k agreed = h
  all_needed (x ∷ xs) ls h k agreed =
      all_needed xs (with_asked ls x) (asked_needed ls x h k.0 (left_of (agrees ls x) (all_agree (with_asked ls x) xs) agreed)) k.1
      (right_of (agrees ls x) (all_agree (with_asked ls x) xs) agreed)

  -- ---- at each place

  type_named : (e : EntityTree) (u : ValueTree) (n : Thing) → OneTree names u → at_path [] e ≡ Some u → named_by e ≡ Some n → type_of names n ≡ Some (bare_value u)
  type_named (IsType (Value t)) u n one at named =
      let same : t ≡ u = some_is t u at in
      let m = map_some named_type (place_of t) n named in
      ap (type_of names) (sym m.2) ∙ place_stands names u m.0 one (ap place_of (sym same) ∙ m.1)
  type_named _ u n one at named = absurd cc

  module _ (l : LeftTree) (h : IsNeeded l) (path : Path) (e : EntityTree) (at : at_path path l.entity ≡ at_path [] e) where
    called_so : (s : Spot) → SpotStands l.entity s → s.path ≡ path → IsTypeOf names (named_by e) s.what
    called_so s stands same is n named =
        let u = stands is in
        let there : at_path [] e ≡ Some u.ty = sym at ∙ ap (λ path. at_path path l.entity) (sym same) ∙ u.there in
        u.is ∙ sym (type_named e u.ty n (at_coheres names s.path l.entity h.coheres u.ty u.there) there named)

    all_called_so : (ss : List Spot) → AllByRecursion (SpotStands l.entity) ss → AllByRecursion (IsTypeOf names (named_by e)) (called_at ss path)
    all_called_so [] k = tt
    all_called_so (s ∷ ss) k = by (same_path s.path path) refl (all_called_so ss k.1)
      where
        by : (b : Bool) → same_path s.path path ≡ b → AllByRecursion (IsTypeOf names (named_by e)) (called_at ss path)
            → AllByRecursion (IsTypeOf names (named_by e)) (map thing_of (cond b (s ∷ filter (is_at path) ss) (filter (is_at path) ss)))
        by true same rest = (called_so s k.0 (path_is s.path path same), rest)
        by false other rest = rest

  leaves_called : (l : LeftTree) → IsNeeded l → (xs : List (Path × EntityTree)) → AllByRecursion (LeafOf [] l.entity) xs
      → AllByRecursion (λ (leaf : Leaf). AllByRecursion (IsTypeOf names leaf.named) (called_at l.calls leaf.path)) (map leaf_of xs)
  leaves_called l h [] k = tt
  leaves_called l h (x ∷ xs) k =
      (all_called_so l h x.0 x.1 (ap (λ path. at_path path l.entity) k.0.1 ∙ k.0.2) l.calls h.calls, leaves_called l h xs k.1)

  calls_one : (l : LeftTree) → IsNeeded l → CallsOneType names l
  calls_one l h = leaves_called l h (leaves_of [] l.entity) (leaves_stand [] l.entity h.own)

  needs_placed : (w : Wiring) (i : ℕ) (es : List (List ℕ × EntityTree)) → AllByRecursion (λ (e : List ℕ × EntityTree). HasOwnNames e.1) es → PlacedCohere names w i es
      → AllByRecursion (λ (e : List ℕ × EntityTree). Needs (e.0, placed w i e.1)) es
  needs_placed w i [] h k = tt
  needs_placed w i (e ∷ es) h k = (record { own = own_by _ e.1 h.0; coheres = k.0 }, needs_placed w i es h.1 k.1)

  module _ (w : Wiring) (merges : all_agree [] (left_open w) ≡ true)
      (own : (i : ℕ) (s : ShapeTree) → slice_get w.shapes i ≡ Some s → AllByRecursion (λ (e : List ℕ × EntityTree). HasOwnNames e.1) s.imports)
      (coheres : (i : ℕ) (s : ShapeTree) → slice_get w.shapes i ≡ Some s → PlacedCohere names w i s.imports)
    where
      lefts_needed : AllByRecursion IsNeeded (lefts w)
      lefts_needed = all_needed (left_open w) [] tt (open_asks Needs w (λ i s there. needs_placed w i s.imports (own i s there) (coheres i s there))) merges

      pub lefts_call : AllByRecursion (CallsOneType names) (lefts w)
      lefts_call = weaker IsNeeded (CallsOneType names) calls_one (lefts w) lefts_needed

      pub lefts_stand : AllByRecursion (CallsWhatStands names) (lefts w)
      lefts_stand = weaker IsNeeded (CallsWhatStands names) (λ l h. h.calls) (lefts w) lefts_needed
