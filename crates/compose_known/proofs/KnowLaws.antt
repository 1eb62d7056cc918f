-- What the scopes know once an import is written: all that they knew, what the import brings, and what those that need
-- it call there.
use Rattle.std.proofs.Common.{◌≡◌, ◌||◌, ℕ, Bool, true, false, List, [], ◌∷◌, ◌++◌, map, Option, Some, None, refl, sym, ap, subst, ◌∙◌}
use Rattle.std.specs.Prelude.{flat_map, is_some, option_map, if◌then◌else◌}
use Rattle.std.specs.List.{list_any, AllByRecursion}
use Rattle.std.proofs.lemmas.Bool.{or_left}
use Rattle.std.proofs.lemmas.List.{append-nil}
use Rattle.std.proofs.lemmas.Option.{same_Some}
use Rattle.comp_format.specs.declared.types.TypeRef.{TypeRef}
use Rattle.comp_format.specs.declared.types.TypeRef.TheVariants as description
use Rattle.comp_format.specs.Definitions as tree
use Rattle.comp_entity.specs.Entity.{EntityTree, IsType, IsFunc, IsInstance, IsComponent, IsModule, IsOwnModule}
use Rattle.comp_entity.specs.Names.{Mention, OfResource, OfPlace}
use Rattle.comp_entity.specs.Places.{Path, leaves_of, leaves_in, names_itself, same_mention}
use Rattle.compose_left.specs.declared.spots.Spot.{Spot}
use Rattle.compose_order.specs.Needs.{LeftTree}
use Rattle.compose_writing.specs.Keys.{At, Index, InInstance, KnownThings, known_at, from_within}
use Rattle.compose_writing.specs.Scopes.{WrittenScope, change_top, declared, knows, with_known}
use Rattle.compose_writing.specs.WriteEntities.{at_end, counted, leaves_known, note_all, note_here, note_new, noted, with_named, write_also, write_entity, write_import}
use Rattle.compose_naming.specs.Settled.{name_in}
use Rattle.compose_image.specs.Imports.{all_called, called_too, place_in, write_left}
use Rattle.compose_known.proofs.StayLaws.{shells, written_knows, entity_stays}
use Rattle.compose_known.proofs.MentionLaws.{name_is, name_itself}

-- ---- mentions

pub mention_is : (a b : Mention) → same_mention a b ≡ true → a ≡ b
mention_is (OfResource a) (OfResource b) h = ap OfResource (name_is a b h)
mention_is (OfResource a) (OfPlace b) h = absurd cc
mention_is (OfPlace a) (OfResource b) h = absurd cc
mention_is (OfPlace a) (OfPlace b) h = ap OfPlace (name_is a b h)

pub mention_itself : (m : Mention) → same_mention m m ≡ true
mention_itself (OfResource n) = name_itself n
mention_itself (OfPlace n) = name_itself n

-- ---- one thing more

some_kept : (b : Bool) (at : At) (o p : Option At) → (is_some o ≡ true → is_some p ≡ true)
    → is_some (if b then Some at else o) ≡ true → is_some (if b then Some at else p) ≡ true
some_kept true at o p f h = refl
some_kept false at o p f h = f h

known_more : (ks more : KnownThings) (key : Mention) → is_some (known_at ks key) ≡ true
    → is_some (known_at (ks ++ more) key) ≡ true
known_more [] more key h = absurd cc
known_more (k ∷ ks) more key h =
    some_kept (same_mention k.0 key) k.1 (known_at ks key) (known_at (ks ++ more) key) (known_more ks more key) h

found : (b : Bool) (at : At) (o : Option At) → is_some o ≡ true → is_some (if b then Some at else o) ≡ true
found true at o h = refl
found false at o h = h

known_last : (ks : KnownThings) (key : Mention) (at : At) → is_some (known_at (ks ++ (key, at) ∷ []) key) ≡ true
known_last [] key at = ap (λ b. is_some (if b then Some at else None)) (mention_itself key)
known_last (k ∷ ks) key at =
    found (same_mention k.0 key) k.1 (known_at (ks ++ (key, at) ∷ []) key) (known_last ks key at)

either_first : (a b c : Bool) → (a ≡ true → b ≡ true) → a || c ≡ true → b || c ≡ true
either_first true b c f h = ap (λ b. b || c) (f refl)
either_first false true c f h = refl
either_first false false c f h = h

-- all that was known is
abbrev pub Grows : List WrittenScope → List WrittenScope → Type 0
Grows ms later = (key : Mention) → knows ms key ≡ true → knows later key ≡ true

-- there is a scope
abbrev pub IsOpen : List WrittenScope → Type 0
IsOpen [] = ⊥
IsOpen (m ∷ ms) = Unit {0}

module _ (key : Mention) (at : At) where
  more_grows : (m : WrittenScope) (ms : List WrittenScope) → Grows (m ∷ ms) (with_known key at m ∷ ms)
  unfolding knows
  more_grows m ms k h = more (is_some (known_at m.known key))
    where
      more : (b : Bool) → knows ((if b then m else record m { known = m.known ++ (key, at) ∷ [] }) ∷ ms) k ≡ true
      more true = h
      more false = either_first (is_some (known_at m.known k)) (is_some (known_at (m.known ++ (key, at) ∷ []) k))
          (from_within m.width (knows ms) k) (known_more m.known ((key, at) ∷ []) k) h

  more_here : (m : WrittenScope) (ms : List WrittenScope) → knows (with_known key at m ∷ ms) key ≡ true
  unfolding knows
  more_here m ms = here (is_some (known_at m.known key)) refl
    where
      here : (b : Bool) → is_some (known_at m.known key) ≡ b
          → knows ((if b then m else record m { known = m.known ++ (key, at) ∷ [] }) ∷ ms) key ≡ true
      here true h = or_left (is_some (known_at m.known key)) (from_within m.width (knows ms) key) h
      here false h =
          or_left (is_some (known_at (m.known ++ (key, at) ∷ []) key)) (from_within m.width (knows ms) key)
          (known_last m.known key at)

  top_grows : (ms : List WrittenScope) → Grows ms (change_top (with_known key at) ms)
  unfolding change_top
  top_grows [] k h = h
  top_grows (m ∷ ms) k h = more_grows m ms k h

  top_here : (ms : List WrittenScope) → IsOpen ms → knows (change_top (with_known key at) ms) key ≡ true
  unfolding change_top
  top_here [] o = absurd o
  top_here (m ∷ ms) o = more_here m ms

  top_open : (ms : List WrittenScope) → IsOpen ms → IsOpen (change_top (with_known key at) ms)
  unfolding change_top
  top_open [] o = absurd o
  top_open (m ∷ ms) o = tt

  pub new_grows : (ms : List WrittenScope) → Grows ms (note_new key at ms)
  new_grows ms k h = new (knows ms key)
    where
      new : (b : Bool) → knows (if b then ms else change_top (with_known key at) ms) k ≡ true
      new true = h
      new false = top_grows ms k h

  pub new_here : (ms : List WrittenScope) → IsOpen ms → knows (note_new key at ms) key ≡ true
  new_here ms o = new (knows ms key) refl
    where
      new : (b : Bool) → knows ms key ≡ b → knows (if b then ms else change_top (with_known key at) ms) key ≡ true
      new true h = h
      new false h = top_here ms o

  pub new_open : (ms : List WrittenScope) → IsOpen ms → IsOpen (note_new key at ms)
  new_open ms o = new (knows ms key)
    where
      new : (b : Bool) → IsOpen (if b then ms else change_top (with_known key at) ms)
      new true = o
      new false = top_open ms o

-- ---- what an entity brings

-- the scopes know more, and these things
pub record Notes (keys : List Mention) (ms later : List WrittenScope) : Type 0 where
  pub open_still : IsOpen later
  pub grows : Grows ms later
  pub here : AllByRecursion (λ key. knows later key ≡ true) keys

pub each_known : (ms : List WrittenScope) (keys : List Mention) (key : Mention)
    → AllByRecursion (λ key. knows ms key ≡ true) keys → list_any (same_mention key) keys ≡ true → knows ms key ≡ true
each_known ms [] key a h = absurd cc
each_known ms (k ∷ ks) key a h = go (same_mention key k) refl h (each_known ms ks key a.1)
  where
    go : (b : Bool) → same_mention key k ≡ b → b || list_any (same_mention key) ks ≡ true
        → (list_any (same_mention key) ks ≡ true → knows ms key ≡ true) → knows ms key ≡ true
    go true e h rest = ap (knows ms) (mention_is key k e) ∙ a.0
    go false e h rest = rest h

abbrev keys_of : KnownThings → List Mention
keys_of ks = map (λ (k : Mention × At). k.0) ks

all_note : (ks : KnownThings) (ms : List WrittenScope) → IsOpen ms → Notes (keys_of ks) ms (note_all ks ms)
unfolding note_all
all_note [] ms o = record { open_still = o; grows = λ key h. h; here = tt }
all_note (k ∷ ks) ms o =
    let rest = all_note ks (note_new k.0 k.1 ms) (new_open k.0 k.1 ms o) in
    record {
      open_still =
          rest.open_still;
      grows =
          λ key h. rest.grows key (new_grows k.0 k.1 ms key h);
      here =
          (rest.grows k.0 (new_here k.0 k.1 ms o), rest.here);
    }

here_note : (keys : List Mention) (index : ℕ) (ms : List WrittenScope) → IsOpen ms
    → Notes keys ms (note_here keys index ms)
unfolding note_here
here_note [] index ms o = record { open_still = o; grows = λ key h. h; here = tt }
here_note (k ∷ ks) index ms o =
    let rest = here_note ks index (change_top (with_known k (Index index)) ms) (top_open k (Index index) ms o) in
    record {
      open_still =
          rest.open_still;
      grows =
          λ key h. rest.grows key (top_grows k (Index index) ms key h);
      here =
          (rest.grows k (top_here k (Index index) ms o), rest.here);
    }

-- what an entity brings or names as types, leaf by leaf
abbrev pub leaf_keys : List (Path × EntityTree) → List Mention
leaf_keys ls = flat_map (λ (l : Path × EntityTree). names_itself l.1) ls

one_keyed : (index : ℕ) (path : Path) (keys : List Mention) (rest : KnownThings) (later : List Mention)
    → keys_of rest ≡ later → keys_of (map (λ key. (key, InInstance index path)) keys ++ rest) ≡ keys ++ later
one_keyed index path [] rest later h = h
one_keyed index path (k ∷ ks) rest later h = ap (λ xs. k ∷ xs) (one_keyed index path ks rest later h)

instance_keys : (index : ℕ) (ls : List (Path × EntityTree)) → keys_of (leaves_known index ls) ≡ leaf_keys ls
instance_keys index [] = refl
instance_keys index (l ∷ ls) =
    one_keyed index l.0 (names_itself l.1) (leaves_known index ls) (leaf_keys ls) (instance_keys index ls)

same_notes : (xs ys : List Mention) (ms later : List WrittenScope) → xs ≡ ys → Notes xs ms later → Notes ys ms later
same_notes xs ys ms later e n =
    record {
      open_still =
          n.open_still;
      grows = n.grows;
      here = subst (AllByRecursion (λ key. knows later key ≡ true)) e n.here;
    }

noted_notes : (e : EntityTree) (m : WrittenScope) (ms : List WrittenScope) → IsOpen ms
    → Notes (leaf_keys (leaves_of [] e)) ms (noted e m ms)
unfolding note_here
noted_notes (IsType t) m ms o =
    same_notes (names_itself (IsType t)) (names_itself (IsType t) ++ []) ms (noted (IsType t) m ms)
    (sym (append-nil (names_itself (IsType t)))) (here_note (names_itself (IsType t)) m.types ms o)
noted_notes (IsFunc f) m ms o = here_note [] m.types ms o
noted_notes (IsInstance es) m ms o =
    same_notes (keys_of (leaves_known m.instances (leaves_in [] es))) (leaf_keys (leaves_in [] es)) ms
    (noted (IsInstance es) m ms) (instance_keys m.instances (leaves_in [] es))
    (all_note (leaves_known m.instances (leaves_in [] es)) ms o)
noted_notes (IsComponent is es) m ms o = here_note [] m.types ms o
noted_notes (IsModule x) m ms o = here_note [] m.types ms o
noted_notes IsOwnModule m ms o = here_note [] m.types ms o

-- what is declared in a scope leaves what it knows
declared_grows : (ty : TypeRef) (d : tree.DeclTree) (m : WrittenScope) (ms : List WrittenScope)
    → Grows (m ∷ ms) (counted ty (declared d m) ∷ ms)
unfolding knows
declared_grows (description.Module i) d m ms key h = h
declared_grows (description.Func i) d m ms key h = h
declared_grows (description.TyEqual i) d m ms key h = h
declared_grows description.TyFresh d m ms key h = h
declared_grows (description.Component i) d m ms key h = h
declared_grows (description.Instance i) d m ms key h = h

pub import_notes : (name : List ℕ) (e : EntityTree) (ty : TypeRef) (ms : List WrittenScope) → IsOpen ms
    → Notes (leaf_keys (leaves_of [] e)) ms (write_import name e ty ms)
unfolding with_named
import_notes name e ty [] o = absurd o
import_notes name e ty (m ∷ ms) o =
    let n = noted_notes e m (counted ty (declared (tree.Import name ty) m) ∷ ms) tt in
    record {
      open_still =
          n.open_still;
      grows = λ key h. n.grows key (declared_grows ty (tree.Import name ty) m ms key h);
      here = n.here;
    }

-- ---- what is called there

-- a named type is known by the name by which a spot calls it
abbrev pub KnowsType : List WrittenScope → Spot → Type 0
KnowsType ms s = s.what.is_type ≡ true → knows ms (OfPlace (name_in s.what)) ≡ true

pub record Calls (spots : List Spot) (ms later : List WrittenScope) : Type 0 where
  pub open_still : IsOpen later
  pub grows : Grows ms later
  pub here : AllByRecursion (KnowsType later) spots

too_open : (index : ℕ) (s : Spot) (ms : List WrittenScope) → IsOpen ms → IsOpen (called_too index s ms)
too_open index s ms o = go s.what.is_type
  where
    go : (b : Bool) → IsOpen (if b then write_also (name_in s.what) index s.path ms else ms)
    go true = new_open (OfPlace (name_in s.what)) (at_end index s.path) ms o
    go false = o

too_grows : (index : ℕ) (s : Spot) (ms : List WrittenScope) → Grows ms (called_too index s ms)
too_grows index s ms key h = go s.what.is_type
  where
    go : (b : Bool) → knows (if b then write_also (name_in s.what) index s.path ms else ms) key ≡ true
    go true = new_grows (OfPlace (name_in s.what)) (at_end index s.path) ms key h
    go false = h

too_here : (index : ℕ) (s : Spot) (ms : List WrittenScope) → IsOpen ms → KnowsType (called_too index s ms) s
too_here index s ms o is =
    ap (λ b. knows (if b then write_also (name_in s.what) index s.path ms else ms) (OfPlace (name_in s.what))) is
    ∙ new_here (OfPlace (name_in s.what)) (at_end index s.path) ms o

pub called_notes : (index : ℕ) (spots : List Spot) (ms : List WrittenScope) → IsOpen ms
    → Calls spots ms (all_called index spots ms)
unfolding all_called
called_notes index [] ms o = record { open_still = o; grows = λ key h. h; here = tt }
called_notes index (s ∷ ss) ms o =
    let rest = called_notes index ss (called_too index s ms) (too_open index s ms o) in
    record {
      open_still = rest.open_still;
      grows = λ key h. rest.grows key (too_grows index s ms key h);
      here = (λ is. rest.grows (OfPlace (name_in s.what)) (too_here index s ms o is), rest.here);
    }

-- ---- an import

pub record Imported (l : LeftTree) (ms later : List WrittenScope) : Type 0 where
  pub open_still : IsOpen later
  pub grows : Grows ms later
  pub keys : AllByRecursion (λ key. knows later key ≡ true) (leaf_keys (leaves_of [] l.entity))
  pub types : AllByRecursion (KnowsType later) l.calls

still_open : (ms later : List WrittenScope) → shells later ≡ shells ms → IsOpen ms → IsOpen later
still_open [] later e o = absurd o
still_open (m ∷ ms) [] e o = absurd cc
still_open (m ∷ ms) (n ∷ ns) e o = tt

all_grow : (ms later : List WrittenScope) (keys : List Mention) → Grows ms later
    → AllByRecursion (λ key. knows ms key ≡ true) keys → AllByRecursion (λ key. knows later key ≡ true) keys
all_grow ms later [] g a = tt
all_grow ms later (k ∷ ks) g a = (g k a.0, all_grow ms later ks g a.1)

pub left_imported : (l : LeftTree) (ms later : List WrittenScope) → IsOpen ms → write_left l ms ≡ Some later
    → Imported l ms later
left_imported l ms later o h = go (write_entity l.entity ms) refl h
  where
    go : (w : Option (List WrittenScope × TypeRef)) → write_entity l.entity ms ≡ w
        → option_map (λ (x : List WrittenScope × TypeRef). all_called (place_in l.entity x.0) l.calls
        (write_import l.name l.entity x.1 x.0)) w ≡ Some later → Imported l ms later
    go None is h = absurd cc
    go (Some x) is h =
        let same = (entity_stays l.entity (shells ms) ms refl).names x is in
        let first = import_notes l.name l.entity x.1 x.0 (still_open ms x.0 same o) in
        let calls = called_notes (place_in l.entity x.0) l.calls
        (write_import l.name l.entity x.1 x.0) first.open_still in
        subst (Imported l ms) (same_Some _ _ h) (record {
          open_still = calls.open_still;
          grows = λ key k. calls.grows key (first.grows key (written_knows l.entity ms x is key ∙ k));
          keys = all_grow (write_import l.name l.entity x.1 x.0)
              (all_called (place_in l.entity x.0) l.calls (write_import l.name l.entity x.1 x.0))
              (leaf_keys (leaves_of [] l.entity)) calls.grows first.here;
          types = calls.here;
        })
