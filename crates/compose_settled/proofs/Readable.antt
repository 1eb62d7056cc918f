-- Left imports are readable as they are written, as soon as what remains is seen to.
use Rattle.std.proofs.Common.{◌≡◌, ℕ, zero, suc, Bool, true, false, cond, List, [], ◌∷◌, map, Some, None, refl, sym, ap, subst, ◌∙◌, arith}
use Rattle.std.specs.Prelude.{bytes_eq, option_and_then, option_map}
use Rattle.std.specs.List.{AllByRecursion, Contains}
use Rattle.comp_entity.specs.Entity.{Name, ValueTree, RecordOf, VariantOf, FlagsOf, EnumOf, Value, EntityTree, IsType, IsInstance, Entries, no_entry, entry}
use Rattle.comp_entity.specs.Fits.{place_of, under}
use Rattle.comp_entity.specs.Names.{Mention, Change, changing, outside, value_by, entity_by, entries_by}
use Rattle.comp_entity.specs.Places.{Path}
use Rattle.comp_scope.specs.Spaces.{is_named}
use Rattle.comp_coherence.specs.Coherence.{Coheres, AllCohere, Names, OneTree, bare_value}
use Rattle.compose_left.specs.declared.spots.Spot.{Spot as Call}
use Rattle.compose_left.specs.Merging.{followed_by, is_absent, new_in, union}
use Rattle.compose_left.specs.Origins.{of_resource, of_type}
use Rattle.compose_left.specs.Wiring.{Wiring}
use Rattle.compose_order.specs.Needs.{LeftTree}
use Rattle.compose_meaning.specs.Meaning.{Meaning}
use Rattle.compose_meaning.specs.Readable.{Spot}
use Rattle.compose_coherence.specs.Agreement.{Agrees}
use Rattle.compose_check.specs.Open.{lefts}
use Rattle.compose_origins.specs.Placed.{CallsWhatStands, StandsThere, value_at}
use Rattle.compose_naming.specs.Settled.{name_in, names_of, settled, written_as}
use Rattle.compose_known.specs.Placed.{HasPlace, HasPlaces, HavePlaces}
use Rattle.compose_settled.specs.ReadBack.{AllRemainToRead, AreReadable, AreReadableAsWritten, BitsMean, CallsMean, IsCalled, IsReadable, RemainsToRead, known_behind, with_call}
use Rattle.compose_settled.specs.Written.{HasImportsPlaced, OneTypeAsWritten}
use Rattle.compose_settled.proofs.Bare.{bare_changed}
use Rattle.compose_settled.proofs.Kept.{lefts_keep}
use Rattle.compose_settled.proofs.Lefts.{Means, together}
use Rattle.compose_settled.proofs.Settling.{as_is, bare_stays}
use Rattle.compose_settled.proofs.Standing.{Found, some_is}

-- ---- types that have the names of their places

module _ (f g : Name → Name) where
  abbrev c : Change
  c = changing f g

  value_placed : (t : ValueTree) → HasPlace t → HasPlace (value_by c 0 t)
  value_placed (RecordOf (Some n) fs) h = h
  value_placed (RecordOf None fs) h = h
  value_placed (VariantOf (Some n) cs) h = h
  value_placed (VariantOf None cs) h = h
  value_placed (FlagsOf (Some n) ls) h = h
  value_placed (FlagsOf None ls) h = h
  value_placed (EnumOf (Some n) ls) h = h
  value_placed (EnumOf None ls) h = h
  value_placed _ h = tt

  mutual
    places_by : (e : EntityTree) → HasPlaces e → HasPlaces (entity_by c 0 e)
    places_by (IsType (Value t)) h = value_placed t h
    places_by (IsInstance es) h = all_places_by es h
    places_by _ h = tt

    all_places_by : (es : Entries) → HavePlaces es → HavePlaces (entries_by c 0 es)
    all_places_by no_entry h = tt
    all_places_by (entry name e mark es) h = (places_by e h.0, all_places_by es h.1)

  place_by_is : (t : ValueTree) → place_of (value_by c 0 t) ≡ option_map (outside g 0) (place_of t)
  place_by_is (RecordOf None cs) = refl
  place_by_is (RecordOf (Some n) cs) = refl
  place_by_is (VariantOf None cs) = refl
  place_by_is (VariantOf (Some n) cs) = refl
  place_by_is (FlagsOf None ls) = refl
  place_by_is (FlagsOf (Some n) ls) = refl
  place_by_is (EnumOf None ls) = refl
  place_by_is (EnumOf (Some n) ls) = refl
  place_by_is _ = refl

  -- the type at a path
  mutual
    value_at_by : (path : Path) (e : EntityTree) (t : ValueTree) → value_at path e ≡ Some t → value_at path (entity_by c 0 e) ≡ Some (value_by c 0 t)
    value_at_by [] (IsType (Value u)) t is = ap (λ t. Some (value_by c 0 t)) (some_is u t is)
    value_at_by (name ∷ path) (IsInstance es) t is = value_in_by name path es t is
    value_at_by [] _ t is = absurd cc
    value_at_by (name ∷ path) _ t is = absurd cc

    value_in_by : (name : List ℕ) (path : Path) (es : Entries) (t : ValueTree) → value_at (name ∷ path) (IsInstance es) ≡ Some t → value_at (name ∷ path) (IsInstance (entries_by c 0 es)) ≡ Some (value_by c 0 t)
    value_in_by name path no_entry t is = absurd cc
    value_in_by name path (entry n e mark es) t is = by (bytes_eq name n) is (λ is. value_at_by path e t is) (λ is. value_in_by name path es t is)
      where
        by : (b : Bool) → option_and_then (λ (e : Found). value_at path e.0) (cond b (Some (e, mark)) (under name es)) ≡ Some t
            → (value_at path e ≡ Some t → value_at path (entity_by c 0 e) ≡ Some (value_by c 0 t))
            → (option_and_then (λ (e : Found). value_at path e.0) (under name es) ≡ Some t → option_and_then (λ (e : Found). value_at path e.0) (under name (entries_by c 0 es)) ≡ Some (value_by c 0 t))
            → option_and_then (λ (e : Found). value_at path e.0) (cond b (Some (entity_by c 0 e, c.mark mark)) (under name (entries_by c 0 es))) ≡ Some (value_by c 0 t)
        by true is here later = here is
        by false is here later = later is

followed_placed : (es fs : Entries) → HavePlaces es → HavePlaces fs → HavePlaces (followed_by es fs)
followed_placed no_entry fs h k = k
followed_placed (entry name e mark es) fs h k = (h.0, followed_placed es fs h.1 k)

new_placed : (es fs : Entries) → HavePlaces fs → HavePlaces (new_in es fs)
new_placed es no_entry h = tt
new_placed es (entry name f mark fs) h = by (is_absent name es) (new_placed es fs h.1)
  where
    by : (b : Bool) → HavePlaces (new_in es fs) → HavePlaces (cond b (entry name f mark (new_in es fs)) (new_in es fs))
    by true rest = (h.0, rest)
    by false rest = rest

union_placed : (e f : EntityTree) → HasPlaces e → HasPlaces f → HasPlaces (union e f)
union_placed (IsInstance es) (IsInstance fs) h k = followed_placed es (new_in es fs) h (new_placed es fs k)
union_placed _ _ h k = h

abbrev LeftPlaced : LeftTree → Type 0
LeftPlaced l = HasPlaces l.entity

lefts_placed : (w : Wiring) → AllByRecursion HasImportsPlaced w.shapes → AllByRecursion LeftPlaced (lefts w)
lefts_placed w h = lefts_keep HasPlaces w (λ i e. places_by (of_resource w i) (of_type w i) e) union_placed h

-- ---- at a path

-- what holds of an instance holds of what stands in it
mutual
  placed_at : (path : Path) (e : EntityTree) (t : ValueTree) → value_at path e ≡ Some t → HasPlaces e → HasPlace t
  placed_at [] (IsType (Value u)) t is h = subst HasPlace (some_is u t is) h
  placed_at (name ∷ path) (IsInstance es) t is h = placed_in name path es t is h
  placed_at [] _ t is h = absurd cc
  placed_at (name ∷ path) _ t is h = absurd cc

  placed_in : (name : List ℕ) (path : Path) (es : Entries) (t : ValueTree) → value_at (name ∷ path) (IsInstance es) ≡ Some t → HavePlaces es → HasPlace t
  placed_in name path no_entry t is h = absurd cc
  placed_in name path (entry n e mark es) t is h = by (bytes_eq name n) is (λ is. placed_at path e t is h.0) (λ is. placed_in name path es t is h.1)
    where
      by : (b : Bool) → option_and_then (λ (e : Found). value_at path e.0) (cond b (Some (e, mark)) (under name es)) ≡ Some t
          → (value_at path e ≡ Some t → HasPlace t) → (option_and_then (λ (e : Found). value_at path e.0) (under name es) ≡ Some t → HasPlace t) → HasPlace t
      by true is here later = here is
      by false is here later = later is

module _ (names : Names) where
  mutual
    coheres_at : (path : Path) (e : EntityTree) (t : ValueTree) → value_at path e ≡ Some t → Coheres names e → OneTree names t
    coheres_at [] (IsType (Value u)) t is h = subst (OneTree names) (some_is u t is) h
    coheres_at (name ∷ path) (IsInstance es) t is h = coheres_in name path es t is h
    coheres_at [] _ t is h = absurd cc
    coheres_at (name ∷ path) _ t is h = absurd cc

    coheres_in : (name : List ℕ) (path : Path) (es : Entries) (t : ValueTree) → value_at (name ∷ path) (IsInstance es) ≡ Some t → AllCohere names es → OneTree names t
    coheres_in name path no_entry t is h = absurd cc
    coheres_in name path (entry n e mark es) t is h = by (bytes_eq name n) is (λ is. coheres_at path e t is h.0) (λ is. coheres_in name path es t is h.1)
      where
        by : (b : Bool) → option_and_then (λ (e : Found). value_at path e.0) (cond b (Some (e, mark)) (under name es)) ≡ Some t
            → (value_at path e ≡ Some t → OneTree names t) → (option_and_then (λ (e : Found). value_at path e.0) (under name es) ≡ Some t → OneTree names t) → OneTree names t
        by true is here later = here is
        by false is here later = later is

  place_stands : (t : ValueTree) (n : Name) → OneTree names t → place_of t ≡ Some n → names.tree n ≡ Some (bare_value t)
  place_stands (RecordOf (Some m) fs) n h is = ap names.tree (sym (some_is m n is)) ∙ h.0
  place_stands (VariantOf (Some m) cs) n h is = ap names.tree (sym (some_is m n is)) ∙ h.0
  place_stands (FlagsOf (Some m) ls) n h is = ap names.tree (sym (some_is m n is)) ∙ h
  place_stands (EnumOf (Some m) ls) n h is = ap names.tree (sym (some_is m n is)) ∙ h
  place_stands _ n h is = absurd cc

no_truth : {A : Type 0} → true ≡ false → A
no_truth e = absurd cc

has_place : (t : ValueTree) → HasPlace t → is_named (bare_value t) ≡ false → (n : Name) × (place_of t ≡ Some n)
has_place (RecordOf (Some n) fs) h k = (n, refl)
has_place (RecordOf None fs) h k = absurd cc
has_place (VariantOf (Some n) cs) h k = (n, refl)
has_place (VariantOf None cs) h k = absurd cc
has_place (FlagsOf (Some n) ls) h k = (n, refl)
has_place (FlagsOf None ls) h k = absurd cc
has_place (EnumOf (Some n) ls) h k = (n, refl)
has_place (EnumOf None ls) h k = absurd cc
has_place _ h k = no_truth k

-- ---- what is called means what stands

module _ (names : Names) (mean : Meaning) (agrees : Agrees names mean) (l : LeftTree) (written : Coheres names (settled l).entity) (placed : HasPlaces l.entity) where
  abbrev g : Name → Name
  g = written_as (names_of l)

  abbrev new : ValueTree → ValueTree
  new t = value_by (changing as_is g) 0 t

  bare_new : (t : ValueTree) → bare_value (new t) ≡ bare_value t
  bare_new t = sym (bare_changed as_is g t) ∙ bare_stays g t

  is_called : (s : Call) → StandsThere names l.entity s.path s.what → ((t : ValueTree) (r : Name) → value_at s.path (settled l).entity ≡ Some t → place_of t ≡ Some r → mean.bit (name_in s.what) ≡ mean.bit r) → IsCalled mean (settled l).entity s.path (name_in s.what)
  is_called s x bit =
      let there = value_at_by as_is g s.path l.entity x.ty x.there in
      let n = has_place x.ty (placed_at s.path l.entity x.ty x.there placed) x.nameless in
      let named : place_of (new x.ty) ≡ Some (outside g 0 n.0) = place_by_is as_is g x.ty ∙ ap (option_map (outside g 0)) n.1 in
      let stands = place_stands names (new x.ty) (outside g 0 n.0) (coheres_at names s.path (settled l).entity (new x.ty) there written) named in
      record {
        ty = new x.ty;
        place = outside g 0 n.0;
        there = there;
        named = named;
        tree = sym (agrees.trees (name_in s.what) (bare_value x.ty) x.is) ∙ sym (bare_new x.ty) ∙ agrees.trees (outside g 0 n.0) (bare_value (new x.ty)) stands;
        bit = bit (new x.ty) (outside g 0 n.0) there named;
      }

  all_called : (ss : List Call) (known : Mention → Bool) → AllByRecursion (λ (s : Call). s.what.is_type ≡ true → StandsThere names l.entity s.path s.what) ss
      → BitsMean mean (settled l).entity known ss → CallsMean mean (settled l).entity known ss
  all_called [] known h k = tt
  all_called (s ∷ ss) known h k = ((λ kind new. is_called s (h.0 kind) (k.0 kind new)), all_called ss (with_call known s) h.1 k.1)

-- ---- all of them

abbrev CanBeRead : Names → LeftTree → Type 0
CanBeRead names l = (mean : Meaning) → Agrees names mean → (p : Spot) → RemainsToRead mean p l → IsReadable mean p (settled l)

module _ (means : Means) (names : Names) where
  abbrev WrittenWell : LeftTree → Type 0
  WrittenWell l = Coheres names (settled l).entity

  abbrev StandsPlaced : LeftTree → Type 0
  StandsPlaced l = CallsWhatStands names l × HasPlaces l.entity

  can_be_read : (l : LeftTree) → WrittenWell l → StandsPlaced l → CanBeRead names l
  can_be_read l written h mean agrees p r = record {
    meaning = means names mean p agrees (settled l).entity written r.meaning;
    apart = r.apart;
    called = all_called names mean agrees l written h.1 l.calls (known_behind p.known (settled l).entity) h.0 r.bits;
  }

  among : (P : LeftTree → Type 0) (ls : List LeftTree) → AllByRecursion P ls → (l : LeftTree) → Contains ls l → P l
  among P [] h l c = absurd (omega (arith, c.1))
  among P (x ∷ ls) h l (zero, lt, is) = subst P is h.0
  among P (x ∷ ls) h l (suc k, lt, is) = among P ls h.1 l (k, omega (arith, lt), is)

  all_readable : (all : List LeftTree) → AllByRecursion (CanBeRead names) all → (mean : Meaning) → Agrees names mean → (ls : List LeftTree) → AllByRecursion (Contains all) ls → (p : Spot) → AllRemainToRead mean p ls → AreReadable mean p (map settled ls)
  all_readable all h mean agrees [] among_these p r = tt
  all_readable all h mean agrees (l ∷ ls) among_these p r =
      (among (CanBeRead names) all h l among_these.0 mean agrees p r.0, all_readable all h mean agrees ls among_these.1 _ r.1)

pub are_readable : Means → (w : Wiring) → OneTypeAsWritten w → AllByRecursion HasImportsPlaced w.shapes → AreReadableAsWritten w
are_readable means w h placed =
    let names = h.one.names in
    record {
      names = names;
      readable = all_readable means names (lefts w)
          (together (WrittenWell means names) (StandsPlaced means names) (CanBeRead names) (can_be_read means names) (lefts w) h.written
          (together (CallsWhatStands names) LeftPlaced (StandsPlaced means names) (λ l stands placed. (stands, placed)) (lefts w) h.one.stands (lefts_placed w placed)));
    }
