-- What stands in an entity at a path, and in the union of two needs that agree.
use Rattle.std.proofs.Common.{◌≡◌, ◌&&◌, Bool, ℕ, true, false, List, [], ◌∷◌, Option, Some, None, refl, sym, ap, subst, ◌∙◌}
use Rattle.std.specs.Prelude.{IsSome, bytes_eq, is_some, not, option_and_then, option_map, if◌then◌else◌}
use Rattle.std.proofs.lemmas.Bool.{and_parts}
use Rattle.std.proofs.lemmas.Option.{same_Some}
use Rattle.std.proofs.lemmas.Slice.Eq.{bytes_eq-Decides}
use Rattle.comp_entity.specs.Entity.{Name, ValueTree, Primitive, TupleOf, RecordOf, VariantOf, ListOf, FlagsOf, EnumOf, OptionOf, ResultOf, Own, Borrow, TypeShapeTree, Value, Resource, Func, Instance, Component, EntityTree, IsType, IsFunc, IsInstance, IsComponent, IsModule, IsOwnModule, Entries, no_entry, entry}
use Rattle.comp_entity.specs.Fits.{entities_equal, entries_equal, place_of, same_name, types_equal, under, values_equal}
use Rattle.comp_entity.specs.Places.{Path}
use Rattle.compose_left.specs.declared.spots.Thing.{Thing}
use Rattle.compose_left.specs.Merging.{agree, equal_on_both, equal_or_absent, followed_by, is_absent, new_in, union}
use Rattle.compose_left.specs.Spots.{named_by, named_type, resource}
use Rattle.compose_known.specs.Placed.{HasPlaces, HavePlaces}
use Rattle.compose_origins.specs.Named.{HasOwnNames, HaveOwnNames}
use Rattle.compose_known.proofs.MentionLaws.{name_is}

pub text_is : (m n : List ℕ) → bytes_eq m n ≡ true → m ≡ n
text_is m n h = (bytes_eq-Decides m n).0 h

pub text_itself : (m : List ℕ) → bytes_eq m m ≡ true
text_itself m = (bytes_eq-Decides m m).1 refl

-- what stands there, by the names of exports
abbrev pub standing_at : Path → EntityTree → Option EntityTree
standing_at [] e = Some e
standing_at (n ∷ path) (IsInstance es) = option_and_then (λ (x : EntityTree × Bool). standing_at path x.0) (under n es)
standing_at (n ∷ path) _ = None

-- what is called there is of the same kind as what stands there, and a resource is called as it stands
pub record IsCalledFor (t : Thing) (o : Option Thing) : Type 0 where
  pub thing : Thing
  pub is : o ≡ Some thing
  pub kind : thing.is_type ≡ t.is_type
  pub resource_is : t.is_type ≡ false → thing ≡ t

pub record StandsAt (e : EntityTree) (path : Path) (t : Thing) : Type 0 where
  pub entity : EntityTree
  pub there : standing_at path e ≡ Some entity
  pub called : IsCalledFor t (named_by entity)

pub called_itself : (t : Thing) (o : Option Thing) → o ≡ Some t → IsCalledFor t o
called_itself t o h = record { thing = t; is = h; kind = refl; resource_is = λ e. refl }

-- ---- equal entities

types_called : (n m : Name) → IsCalledFor (named_type m) (Some (named_type n))
types_called n m = record { thing = named_type n; is = refl; kind = refl; resource_is = λ e. absurd (no e) }
  where
    no : true ≡ false → ⊥
    no e = absurd cc

-- each type at which a place can be seen has one
place_there : (t : Thing) (m n : Option Name) → IsSome m → option_map named_type n ≡ Some t
    → IsCalledFor t (option_map named_type m)
place_there t None n s h = absurd cc
place_there t (Some m) None s h = absurd cc
place_there t (Some m) (Some n) s h =
    subst (λ t. IsCalledFor t (Some (named_type m))) (same_Some (named_type n) t h) (types_called m n)

value_called : (u v : ValueTree) (t : Thing) → values_equal same_name u v ≡ true → HasPlaces (IsType (Value u))
    → option_map named_type (place_of v) ≡ Some t → IsCalledFor t (option_map named_type (place_of u))
value_called (RecordOf m cs) (RecordOf n ds) t e s h = place_there t m n s h
value_called (VariantOf m cs) (VariantOf n ds) t e s h = place_there t m n s h
value_called (FlagsOf m ls) (FlagsOf n ks) t e s h = place_there t m n s h
value_called (EnumOf m ls) (EnumOf n ks) t e s h = place_there t m n s h
value_called u (Primitive q) t e s h = absurd cc
value_called u (TupleOf ts) t e s h = absurd cc
value_called u (ListOf v) t e s h = absurd cc
value_called u (OptionOf v) t e s h = absurd cc
value_called u (ResultOf ok err) t e s h = absurd cc
value_called u (Own r) t e s h = absurd cc
value_called u (Borrow r) t e s h = absurd cc
value_called u v t e s h = absurd cc

type_called : (a b : TypeShapeTree) (t : Thing) → types_equal same_name a b ≡ true → HasPlaces (IsType a)
    → named_by (IsType b) ≡ Some t → IsCalledFor t (named_by (IsType a))
type_called (Value u) (Value v) t e s h = value_called u v t e s h
type_called (Resource r) (Resource n) t e s h =
    called_itself t (Some (resource r)) (ap (λ n. Some (resource n)) (name_is r n e) ∙ h)
type_called a (Func f) t e s h = absurd cc
type_called a (Instance es) t e s h = absurd cc
type_called a (Component is es) t e s h = absurd cc
type_called a b t e s h = absurd cc

pub equal_called : (a b : EntityTree) (t : Thing) → entities_equal same_name a b ≡ true → HasPlaces a
    → named_by b ≡ Some t → IsCalledFor t (named_by a)
equal_called (IsType a) (IsType b) t e s h = type_called a b t e s h
equal_called a (IsFunc f) t e s h = absurd cc
equal_called a (IsInstance es) t e s h = absurd cc
equal_called a (IsComponent is es) t e s h = absurd cc
equal_called a (IsModule m) t e s h = absurd cc
equal_called a IsOwnModule t e s h = absurd cc
equal_called a b t e s h = absurd cc

-- an entry of a name that is equal to an entity
record EqualUnder (name : List ℕ) (es : Entries) (f : EntityTree) : Type 0 where
  mate : EntityTree × Bool
  there : under name es ≡ Some mate
  same : entities_equal same_name mate.0 f ≡ true

three : (a b c : Bool) → a && b && c ≡ true → (a ≡ true) × (b ≡ true) × (c ≡ true)
three true true true h = (refl, refl, refl)
three true true false h = absurd cc
three true false c h = absurd cc
three false b c h = absurd cc

under_equal : (name : List ℕ) (es fs : Entries) (x : EntityTree × Bool) → entries_equal same_name es fs ≡ true
    → under name fs ≡ Some x → EqualUnder name es x.0
under_equal name es no_entry x h u = absurd cc
under_equal name no_entry (entry n f q fs) x h u = absurd cc
under_equal name (entry m e p es) (entry n f q fs) x h u =
    let parts = three (bytes_eq m n) (entities_equal same_name e f) (entries_equal same_name es fs) h in
    one parts.0 parts.1 (bytes_eq name n) refl u (under_equal name es fs x parts.2)
  where
    one : bytes_eq m n ≡ true → entities_equal same_name e f ≡ true → (b : Bool) → bytes_eq name n ≡ b
        → (if b then Some (f, q) else under name fs) ≡ Some x → (under name fs ≡ Some x → EqualUnder name es x.0)
        → EqualUnder name (entry m e p es) x.0
    one names same true is u rest = record {
      mate = (e, p);
      there = ap (λ b. if b then Some (e, p) else under name es) (ap (bytes_eq name) (text_is m n names) ∙ is);
      same = ap (λ (y : EntityTree × Bool). entities_equal same_name e y.0) (sym (same_Some (f, q) x u)) ∙ same;
    }
    one names same false is u rest =
        let r = rest u in
        record {
          mate =
              r.mate;
          there =
              ap (λ b. if b then Some (e, p) else under name es) (ap (bytes_eq name) (text_is m n names) ∙ is)
              ∙ r.there;
          same = r.same;
        }

-- ---- places in what stands somewhere

under_placed : (name : List ℕ) (es : Entries) (x : EntityTree × Bool) → HavePlaces es → under name es ≡ Some x
    → HasPlaces x.0
under_placed name no_entry x p u = absurd cc
under_placed name (entry n e mark es) x p u = one (bytes_eq name n) u (under_placed name es x p.1)
  where
    one : (b : Bool) → (if b then Some (e, mark) else under name es) ≡ Some x → (under name es ≡ Some x → HasPlaces x.0)
        → HasPlaces x.0
    one true u rest = subst (λ (y : EntityTree × Bool). HasPlaces y.0) (same_Some (e, mark) x u) p.0
    one false u rest = rest u

-- an entity that is there has the entry first
pub within : (path : Path) (u : Option (EntityTree × Bool)) (y : EntityTree)
    → option_and_then (λ (x : EntityTree × Bool). standing_at path x.0) u ≡ Some y
    → (x : EntityTree × Bool) × (u ≡ Some x) × (standing_at path x.0 ≡ Some y)
within path None y h = absurd cc
within path (Some x) y h = (x, refl, h)

-- what is called where something equal stands
equal_stands : (path : Path) (a b y : EntityTree) (t : Thing) → entities_equal same_name a b ≡ true → HasPlaces a
    → standing_at path b ≡ Some y → named_by y ≡ Some t → StandsAt a path t
equal_stands [] a b y t e s there h =
    record { entity = a; there = refl; called = equal_called a b t e s (ap named_by (same_Some b y there) ∙ h) }
equal_stands (n ∷ path) (IsInstance es) (IsInstance fs) y t e s there h =
    let x = within path (under n fs) y there in
    let m = under_equal n es fs x.0 e x.1 in
    let r = equal_stands path m.mate.0 x.0.0 y t m.same (under_placed n es m.mate s m.there) x.2 h in
    record {
      entity =
          r.entity;
      there =
          ap (option_and_then (λ (x : EntityTree × Bool). standing_at path x.0)) m.there ∙ r.there;
      called = r.called;
    }
equal_stands (n ∷ path) a (IsType t) y u e s there h = absurd cc
equal_stands (n ∷ path) a (IsFunc f) y t e s there h = absurd cc
equal_stands (n ∷ path) a (IsComponent is es) y t e s there h = absurd cc
equal_stands (n ∷ path) a (IsModule m) y t e s there h = absurd cc
equal_stands (n ∷ path) a IsOwnModule y t e s there h = absurd cc
equal_stands (n ∷ path) a b y t e s there h = absurd cc

-- ---- unions

under_first : (name : List ℕ) (es rest : Entries) (x : EntityTree × Bool) → under name es ≡ Some x
    → under name (followed_by es rest) ≡ Some x
under_first name no_entry rest x u = absurd cc
under_first name (entry n e mark es) rest x u = one (bytes_eq name n) u (under_first name es rest x)
  where
    one : (b : Bool) → (if b then Some (e, mark) else under name es) ≡ Some x
        → (under name es ≡ Some x → under name (followed_by es rest) ≡ Some x)
        → (if b then Some (e, mark) else under name (followed_by es rest)) ≡ Some x
    one true u later = u
    one false u later = later u

under_then : (name : List ℕ) (es rest : Entries) → under name es ≡ None
    → under name (followed_by es rest) ≡ under name rest
under_then name no_entry rest u = refl
under_then name (entry n e mark es) rest u = one (bytes_eq name n) u (under_then name es rest)
  where
    one : (b : Bool) → (if b then Some (e, mark) else under name es) ≡ None
        → (under name es ≡ None → under name (followed_by es rest) ≡ under name rest)
        → (if b then Some (e, mark) else under name (followed_by es rest)) ≡ under name rest
    one true u later = absurd cc
    one false u later = later u

under_new : (name : List ℕ) (es fs : Entries) → under name es ≡ None → under name (new_in es fs) ≡ under name fs
under_new name es no_entry u = refl
under_new name es (entry n f mark fs) u = one (bytes_eq name n) refl (is_absent n es) refl (under_new name es fs u)
  where
    one : (b : Bool) → bytes_eq name n ≡ b → (c : Bool) → is_absent n es ≡ c → under name (new_in es fs) ≡ under name fs
        → under name (if c then entry n f mark (new_in es fs) else new_in es fs)
        ≡ (if b then Some (f, mark) else under name fs)
    one true is true a rest = ap (λ b. if b then Some (f, mark) else under name (new_in es fs)) is
    one false is true a rest = ap (λ b. if b then Some (f, mark) else under name (new_in es fs)) is ∙ rest
    one true is false a rest =
        let absent : is_absent n es ≡ true = ap (λ m. is_absent m es) (sym (text_is name n is))
        ∙ ap (λ o. not (is_some o)) u in
        absurd (no (sym a ∙ absent))
      where
        no : false ≡ true → ⊥
        no e = absurd cc
    one false is false a rest = rest

both_equal : (name : List ℕ) (es fs : Entries) (x y : EntityTree × Bool) → equal_on_both es fs ≡ true
    → under name fs ≡ Some y → under name es ≡ Some x → entities_equal same_name x.0 y.0 ≡ true
both_equal name es no_entry x y h u there = absurd cc
both_equal name es (entry n f mark fs) x y h u there =
    let parts = and_parts (equal_or_absent f (under n es)) (equal_on_both es fs) h in
    one (bytes_eq name n) refl parts.0 u (λ u. both_equal name es fs x y parts.1 u there)
  where
    one : (b : Bool) → bytes_eq name n ≡ b → equal_or_absent f (under n es) ≡ true
        → (if b then Some (f, mark) else under name fs) ≡ Some y
        → (under name fs ≡ Some y → entities_equal same_name x.0 y.0 ≡ true) → entities_equal same_name x.0 y.0 ≡ true
    one true is e u rest =
        let there : under n es ≡ Some x = ap (λ m. under m es) (sym (text_is name n is)) ∙ there in
        ap (λ (z : EntityTree × Bool). entities_equal same_name x.0 z.0) (sym (same_Some (f, mark) y u))
        ∙ ap (equal_or_absent f) (sym there) ∙ e
    one false is e u rest = rest u

-- what stands in a need that agrees with what was asked before stands in the union as it is called
pub union_stands : (a b y : EntityTree) (path : Path) (t : Thing) → HasPlaces a → agree a b ≡ true
    → standing_at path b ≡ Some y → named_by y ≡ Some t → StandsAt (union a b) path t
union_stands (IsInstance es) (IsInstance fs) y (n ∷ path) t p e there h =
    let x = within path (under n fs) y there in
    go x.0 x.1 x.2 (under n es) refl
  where
    rest : Entries
    rest = new_in es fs

    go : (x : EntityTree × Bool) → under n fs ≡ Some x → standing_at path x.0 ≡ Some y
        → (u : Option (EntityTree × Bool)) → under n es ≡ u → StandsAt (IsInstance (followed_by es rest)) (n ∷ path) t
    go x is there (Some z) u =
        let r = equal_stands path z.0 x.0 y t (both_equal n es fs z x e is u) (under_placed n es z p u) there h in
        record {
          entity =
              r.entity;
          there =
              ap (option_and_then (λ (x : EntityTree × Bool). standing_at path x.0)) (under_first n es rest z u)
              ∙ r.there;
          called = r.called;
        }
    go x is there None u = record {
      entity = y;
      there = ap (option_and_then (λ (x : EntityTree × Bool). standing_at path x.0))
          (under_then n es rest u ∙ under_new n es fs u ∙ is) ∙ there;
      called = called_itself t (named_by y) h;
    }
union_stands (IsInstance es) (IsInstance fs) y [] t p e there h =
    absurd (nothing (ap named_by (same_Some (IsInstance fs) y there) ∙ h))
  where
    nothing : None ≡ Some t → ⊥
    nothing e = absurd cc
union_stands (IsInstance es) (IsType b) y path t p e there h =
    equal_stands path (IsInstance es) (IsType b) y t e p there h
union_stands (IsInstance es) (IsFunc b) y path t p e there h =
    equal_stands path (IsInstance es) (IsFunc b) y t e p there h
union_stands (IsInstance es) (IsComponent js gs) y path t p e there h =
    equal_stands path (IsInstance es) (IsComponent js gs) y t e p there h
union_stands (IsInstance es) (IsModule b) y path t p e there h =
    equal_stands path (IsInstance es) (IsModule b) y t e p there h
union_stands (IsInstance es) IsOwnModule y path t p e there h =
    equal_stands path (IsInstance es) IsOwnModule y t e p there h
union_stands (IsType a) b y path t p e there h = equal_stands path (IsType a) b y t e p there h
union_stands (IsFunc a) b y path t p e there h = equal_stands path (IsFunc a) b y t e p there h
union_stands (IsComponent is es) b y path t p e there h = equal_stands path (IsComponent is es) b y t e p there h
union_stands (IsModule a) b y path t p e there h = equal_stands path (IsModule a) b y t e p there h
union_stands IsOwnModule b y path t p e there h = equal_stands path IsOwnModule b y t e p there h

-- and so does what stood before
still_there : (a b x : EntityTree) (path : Path) (t : Thing) → standing_at path a ≡ Some x → named_by x ≡ Some t
    → standing_at path (union a b) ≡ Some x
still_there (IsInstance es) (IsInstance fs) x [] t there h =
    absurd (nothing (ap named_by (same_Some (IsInstance es) x there) ∙ h))
  where
    nothing : None ≡ Some t → ⊥
    nothing e = absurd cc
still_there (IsInstance es) (IsInstance fs) x (n ∷ path) t there h =
    let e = within path (under n es) x there in
    ap (option_and_then (λ (x : EntityTree × Bool). standing_at path x.0))
    (under_first n es (new_in es fs) e.0 e.1) ∙ e.2
still_there (IsInstance es) (IsType b) x path t there h = there
still_there (IsInstance es) (IsFunc b) x path t there h = there
still_there (IsInstance es) (IsComponent js gs) x path t there h = there
still_there (IsInstance es) (IsModule b) x path t there h = there
still_there (IsInstance es) IsOwnModule x path t there h = there
still_there (IsType a) b x path t there h = there
still_there (IsFunc a) b x path t there h = there
still_there (IsComponent is es) b x path t there h = there
still_there (IsModule a) b x path t there h = there
still_there IsOwnModule b x path t there h = there

pub union_still : (a b : EntityTree) (path : Path) (t : Thing) → StandsAt a path t → StandsAt (union a b) path t
union_still a b path t s =
    record {
      entity =
          s.entity;
      there = still_there a b s.entity path s.called.thing s.there s.called.is;
      called = s.called;
    }

-- ---- unions keep places and names of their own

followed_placed : (es rest : Entries) → HavePlaces es → HavePlaces rest → HavePlaces (followed_by es rest)
followed_placed no_entry rest p q = q
followed_placed (entry name e mark es) rest p q = (p.0, followed_placed es rest p.1 q)

new_placed : (es fs : Entries) → HavePlaces fs → HavePlaces (new_in es fs)
new_placed es no_entry p = tt
new_placed es (entry name f mark fs) p = one (is_absent name es) (new_placed es fs p.1)
  where
    one : (b : Bool) → HavePlaces (new_in es fs)
        → HavePlaces (if b then entry name f mark (new_in es fs) else new_in es fs)
    one true rest = (p.0, rest)
    one false rest = rest

pub union_placed : (a b : EntityTree) → HasPlaces a → HasPlaces b → HasPlaces (union a b)
union_placed (IsInstance es) (IsInstance fs) p q = followed_placed es (new_in es fs) p (new_placed es fs q)
union_placed a b p q = p

-- none of some names is among others
abbrev AreNewIn : Entries → Entries → Type 0
AreNewIn rest no_entry = Unit {0}
AreNewIn rest (entry name e mark es) = (is_absent name rest ≡ true) × AreNewIn rest es

absent_both : (name : List ℕ) (es rest : Entries) → is_absent name es ≡ true → is_absent name rest ≡ true
    → is_absent name (followed_by es rest) ≡ true
absent_both name no_entry rest a b = b
absent_both name (entry n e mark es) rest a b = one (bytes_eq name n) a (λ a. absent_both name es rest a b)
  where
    one : (c : Bool) → not (is_some (if c then Some (e, mark) else under name es)) ≡ true
        → (is_absent name es ≡ true → is_absent name (followed_by es rest) ≡ true)
        → not (is_some (if c then Some (e, mark) else under name (followed_by es rest))) ≡ true
    one true a later = absurd cc
    one false a later = later a

absent_new : (name : List ℕ) (es fs : Entries) → is_absent name fs ≡ true → is_absent name (new_in es fs) ≡ true
absent_new name es no_entry a = refl
absent_new name es (entry n f mark fs) a = one (bytes_eq name n) refl a (is_absent n es) (absent_new name es fs)
  where
    one : (b : Bool) → bytes_eq name n ≡ b → not (is_some (if b then Some (f, mark) else under name fs)) ≡ true
        → (c : Bool) → (is_absent name fs ≡ true → is_absent name (new_in es fs) ≡ true)
        → is_absent name (if c then entry n f mark (new_in es fs) else new_in es fs) ≡ true
    one true is a c later = absurd cc
    one false is a true later =
        ap (λ b. not (is_some (if b then Some (f, mark) else under name (new_in es fs)))) is ∙ later a
    one false is a false later = later a

-- a name that is there is not among what is new
there_absent : (name : List ℕ) (es fs : Entries) → is_absent name es ≡ false → is_absent name (new_in es fs) ≡ true
there_absent name es no_entry a = refl
there_absent name es (entry n f mark fs) a =
    one (bytes_eq name n) refl (is_absent n es) refl (there_absent name es fs a)
  where
    no : true ≡ false → ⊥
    no e = absurd cc

    one : (b : Bool) → bytes_eq name n ≡ b → (c : Bool) → is_absent n es ≡ c → is_absent name (new_in es fs) ≡ true
        → is_absent name (if c then entry n f mark (new_in es fs) else new_in es fs) ≡ true
    one true is true e rest = absurd (no (sym e ∙ ap (λ m. is_absent m es) (sym (text_is name n is)) ∙ a))
    one false is true e rest =
        ap (λ b. not (is_some (if b then Some (f, mark) else under name (new_in es fs)))) is ∙ rest
    one b is false e rest = rest

named_first : (name : List ℕ) (e : EntityTree) (mark : Bool) (es : Entries)
    → is_absent name (entry name e mark es) ≡ false
named_first name e mark es = ap (λ b. not (is_some (if b then Some (e, mark) else under name es))) (text_itself name)

named_later : (name n : List ℕ) (e : EntityTree) (mark : Bool) (es : Entries) → is_absent name es ≡ false
    → is_absent name (entry n e mark es) ≡ false
named_later name n e mark es a = one (bytes_eq name n)
  where
    one : (b : Bool) → not (is_some (if b then Some (e, mark) else under name es)) ≡ false
    one true = refl
    one false = a

all_new : (es fs xs : Entries) → ((name : List ℕ) → is_absent name xs ≡ false → is_absent name es ≡ false)
    → AreNewIn (new_in es fs) xs
all_new es fs no_entry among = tt
all_new es fs (entry name e mark xs) among = (
  there_absent name es fs (among name (named_first name e mark xs)),
  all_new es fs xs
      (λ n a. among n (named_later n name e mark xs a)),
)

followed_own : (es rest : Entries) → HaveOwnNames es → HaveOwnNames rest → AreNewIn rest es
    → HaveOwnNames (followed_by es rest)
followed_own no_entry rest h k new = k
followed_own (entry name e mark es) rest h k new =
    (absent_both name es rest h.0 new.0, h.1, followed_own es rest h.2 k new.1)

new_own : (es fs : Entries) → HaveOwnNames fs → HaveOwnNames (new_in es fs)
new_own es no_entry h = tt
new_own es (entry name f mark fs) h = one (is_absent name es) (new_own es fs h.2)
  where
    one : (b : Bool) → HaveOwnNames (new_in es fs)
        → HaveOwnNames (if b then entry name f mark (new_in es fs) else new_in es fs)
    one true rest = (absent_new name es fs h.0, h.1, rest)
    one false rest = rest

pub union_own : (a b : EntityTree) → HasOwnNames a → HasOwnNames b → HasOwnNames (union a b)
union_own (IsInstance es) (IsInstance fs) h k =
    followed_own es (new_in es fs) h (new_own es fs k) (all_new es fs es (λ n a. a))
union_own a b h k = h
