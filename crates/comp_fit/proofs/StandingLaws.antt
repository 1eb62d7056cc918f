-- Laws of what stands for the resources and the places of an asked entity, as far as it has been found.
use Rattle.std.specs.Prelude.{◌≡◌, ℕ, Bool, true, false, ◌&&◌, List, [], ◌∷◌, ◌++◌, ◌==◌, map, Option, Some, None, option_map, refl, cond, ◌⊎◌}
use Rattle.std.specs.BTreeMap.{BTreeMap, get, Updates, is_at}
use Rattle.std.specs.BTreeSet.{BTreeSet, contains}
use Rattle.std.specs.BTreeSet as set
use Rattle.std.specs.Cmp.{unsigned_ties}
use Rattle.std.specs.Map.{lookup}
use Rattle.std.specs.Option.{option_map_or}
use Rattle.std.specs.Ordering.{nat_cmp, ordering_then, is_eq}
use Rattle.std.specs.declared.cmp.Ordering.{Ordering}
use Rattle.std.specs.declared.cmp.Ordering.TheVariants.{Less, Equal, Greater}
use Rattle.std.proofs.Common.{sym, ◌∙◌, ap, subst, inl, inr}
use Rattle.std.proofs.lemmas.Bool.{eqb-true}
use Rattle.std.proofs.lemmas.Option.{same_Some}
use Rattle.comp_entity.specs.Entity.{Name, ValueTree, Primitive, TupleOf, RecordOf, VariantOf, ListOf, FlagsOf, EnumOf, OptionOf, ResultOf, Own, Borrow, TypeShapeTree, Value, Resource, Func, Instance, Component, EntityTree, IsType, IsFunc, IsInstance, IsComponent, IsModule, IsOwnModule, Entries, no_entry, entry}
use Rattle.comp_entity.specs.Fits.{Stands, ForResource, ForPlace, same_name, resource_for, place_for, place_of, type_stands, stands, all_stand, under}
use Rattle.comp_entity.specs.Names.{Mention, OfResource, OfPlace}
use Rattle.comp_fit.specs.declared.pair.Pair.{Pair}
use Rattle.comp_fit.specs.Known.{IsUnder, is_instance, pair_cmp}
use Rattle.comp_fit.specs.declared.standing.Called.{Called}
use Rattle.comp_fit.specs.declared.standing.StandingFor.{StandingFor}
use Rattle.comp_fit.specs.Standing.{Adds, AreCovered, IsCovered, ShowsStanding, called, called_cmp, first_of, for_resource, found_for, head_stands, place_found, place_head, place_stands, resource_found, resource_head, stands_for, value_place}
use Rattle.comp_fit.proofs.KindLaws.{both, instance_at, same_pair}
use Rattle.comp_table.specs.declared.head.Head.{Head}
use Rattle.comp_table.specs.declared.head.Head.TheVariants as head
use Rattle.comp_table.specs.Codes.{first_tree}
use Rattle.comp_table.specs.Plain.{around, plain_value, plain_type, plain_entity, plain_entries}
use Rattle.comp_table.specs.Trees.{PlainTree, PlainTrees, none, more, IsBelow, root, tree_at, trees_of}
use Rattle.comp_table.specs.Trees as table

first_twice : {X : Type 0} (a b c : Option X) → first_of (first_of a b) c ≡ first_of a (first_of b c)
first_twice None b c = refl
first_twice (Some r) b c = refl

first_none : {X : Type 0} (a : Option X) → first_of a None ≡ a
first_none None = refl
first_none (Some r) = refl

kept_first : {X : Type 0} (o p : Option X) (x : X) → o ≡ Some x → o ≡ first_of o p
kept_first None p x e = absurd cc
kept_first (Some y) p x e = refl

resource_first : (ss us : List Stands) (n : Name) → resource_for (ss ++ us) n ≡ first_of (resource_for ss n) (resource_for us n)
resource_first [] us n = refl
resource_first (ForResource asked r ∷ ss) us n = of (same_name asked n) (resource_first ss us n)
  where
    of : (b : Bool) → resource_for (ss ++ us) n ≡ first_of (resource_for ss n) (resource_for us n) → cond b (Some r) (resource_for (ss ++ us) n) ≡ first_of (cond b (Some r) (resource_for ss n)) (resource_for us n)
    of true h = refl
    of false h = h
resource_first (ForPlace asked p ∷ ss) us n = resource_first ss us n

place_first : (ss us : List Stands) (n : Name) → place_for (ss ++ us) n ≡ first_of (place_for ss n) (place_for us n)
place_first [] us n = refl
place_first (ForResource asked r ∷ ss) us n = place_first ss us n
place_first (ForPlace asked p ∷ ss) us n = of (same_name asked n) (place_first ss us n)
  where
    of : (b : Bool) → place_for (ss ++ us) n ≡ first_of (place_for ss n) (place_for us n) → cond b (Some p) (place_for (ss ++ us) n) ≡ first_of (cond b (Some p) (place_for ss n)) (place_for us n)
    of true h = refl
    of false h = h

map_first : (a b : Option Name) → option_map (λ r. Some r) (first_of a b) ≡ first_of (option_map (λ r. Some r) a) (option_map (λ r. Some r) b)
map_first None b = refl
map_first (Some r) b = refl

stands_first : (ss us : List Stands) (m : Mention) → stands_for (ss ++ us) m ≡ first_of (stands_for ss m) (stands_for us m)
stands_first ss us (OfResource n) = ap (option_map (λ r. Some r)) (resource_first ss us n) ∙ map_first (resource_for ss n) (resource_for us n)
stands_first ss us (OfPlace n) = place_first ss us n

-- nothing, and one after the other
nothing_stands : (m : Mention) → stands_for [] m ≡ None
nothing_stands (OfResource n) = refl
nothing_stands (OfPlace n) = refl

pub adds_nothing : (found : StandingFor) → Adds found found []
adds_nothing found m = sym (ap (first_of (found_for found m)) (nothing_stands m) ∙ first_none (found_for found m))

pub adds_both : (a b c : StandingFor) (ss us : List Stands) → Adds a b ss → Adds b c us → Adds a c (ss ++ us)
adds_both a b c ss us h k m =
    k m ∙ ap (λ o. first_of o (stands_for us m)) (h m) ∙ first_twice (found_for a m) (stands_for ss m) (stands_for us m)
    ∙ ap (first_of (found_for a m)) (sym (stands_first ss us m))

-- what has been found already adds nothing
pub adds_covered : (ts : List PlainTree) (found : StandingFor) (p : Pair) → IsCovered ts found p → (given asked : EntityTree) → table.Stands ts p.given (plain_entity given) → table.Stands ts p.asked (plain_entity asked) → Adds found found (stands given asked)
adds_covered ts found p covered given asked s u m = of (found_for found m) (covered given asked s u m)
  where
    of : (o : Option (Option Name)) → (o ≡ None → stands_for (stands given asked) m ≡ None) → o ≡ first_of o (stands_for (stands given asked) m)
    of None h = sym (h refl)
    of (Some r) h = refl

-- a name that is not found later was not found before
nothing_before : {X : Type 0} (old new other : Option X) → new ≡ first_of old other → new ≡ None → (old ≡ None) × (other ≡ None)
nothing_before None new other e h = (refl, sym e ∙ h)
nothing_before (Some r) new other e h = absurd (let k = sym e ∙ h in cc)

pub covered_later : (ts : List PlainTree) (old new : StandingFor) (ss : List Stands) (seen : BTreeSet Pair) → Adds old new ss → AreCovered ts old seen → AreCovered ts new seen
covered_later ts old new ss seen adds are p e given asked s u m h = are p e given asked s u m (nothing_before (found_for old m) (found_for new m) (stands_for ss m) (adds m) h).0

pub covered_here : (ts : List PlainTree) (old new : StandingFor) (p : Pair) → ((given asked : EntityTree) → table.Stands ts p.given (plain_entity given) → table.Stands ts p.asked (plain_entity asked) → Adds old new (stands given asked)) → IsCovered ts new p
covered_here ts old new p adds given asked s u m h =
    (nothing_before (found_for old m) (found_for new m) (stands_for (stands given asked) m) (adds given asked s u m) h).1

one_more : (o : Ordering) (b : Bool) → cond (is_eq o) true b ≡ true → (o ≡ Equal) ⊎ (b ≡ true)
one_more Less b e = inr e
one_more Equal b e = inl refl
one_more Greater b e = inr e

pub covered_more : (ts : List PlainTree) (found : StandingFor) (old new : BTreeSet Pair) (p : Pair) → AreCovered ts found old → IsCovered ts found p → set.Updates pair_cmp old new p true → AreCovered ts found new
covered_more ts found old new p are here updates q e = of (one_more (pair_cmp p q) (contains pair_cmp old q) (sym (updates.0 q) ∙ e))
  where
    of : (pair_cmp p q ≡ Equal) ⊎ (contains pair_cmp old q ≡ true) → IsCovered ts found q
    of (inl h) = subst (IsCovered ts found) (same_pair p q h) here
    of (inr h) = are q h

-- what a type has of itself, by its head
value_no_resource : (v : ValueTree) → resource_head (root (plain_value v)) ≡ None
value_no_resource (Primitive p) = refl
value_no_resource (TupleOf ts) = refl
value_no_resource (RecordOf place fields) = refl
value_no_resource (VariantOf place cases) = refl
value_no_resource (ListOf t) = refl
value_no_resource (FlagsOf place labels) = refl
value_no_resource (EnumOf place labels) = refl
value_no_resource (OptionOf t) = refl
value_no_resource (ResultOf ok err) = refl
value_no_resource (Own s) = refl
value_no_resource (Borrow s) = refl

value_place_is : (v : ValueTree) → value_place (root (plain_value v)) ≡ Some (place_of v)
value_place_is (Primitive p) = refl
value_place_is (TupleOf ts) = refl
value_place_is (RecordOf place fields) = refl
value_place_is (VariantOf place cases) = refl
value_place_is (ListOf t) = refl
value_place_is (FlagsOf place labels) = refl
value_place_is (EnumOf place labels) = refl
value_place_is (OptionOf t) = refl
value_place_is (ResultOf ok err) = refl
value_place_is (Own s) = refl
value_place_is (Borrow s) = refl

place_head_is : (v : ValueTree) → place_head (root (plain_value v)) ≡ place_of v
place_head_is (Primitive p) = refl
place_head_is (TupleOf ts) = refl
place_head_is (RecordOf place fields) = refl
place_head_is (VariantOf place cases) = refl
place_head_is (ListOf t) = refl
place_head_is (FlagsOf place labels) = refl
place_head_is (EnumOf place labels) = refl
place_head_is (OptionOf t) = refl
place_head_is (ResultOf ok err) = refl
place_head_is (Own s) = refl
place_head_is (Borrow s) = refl

asks_nothing : (given asked : Head) → resource_head asked ≡ None → place_head asked ≡ None → head_stands given asked ≡ []
asks_nothing given asked r p = (λ i. for_resource (resource_head given) (r i) ++ place_stands (value_place given) (p i)) ∙ of (resource_head given) (value_place given)
  where
    of : (o : Option Name) (q : Option (Option Name)) → (for_resource o None ++ place_stands q None) ≡ []
    of None None = refl
    of None (Some p) = refl
    of (Some r) None = refl
    of (Some r) (Some p) = refl

type_stands_are : (t u : TypeShapeTree) → head_stands (root (plain_type t)) (root (plain_type u)) ≡ type_stands t u
type_stands_are (Value v) (Value w) = λ i. for_resource (value_no_resource v i) (resource_head (root (plain_value w))) ++ place_stands (value_place_is v i) (place_head_is w i)
type_stands_are (Value v) (Resource q) = λ i. for_resource (value_no_resource v i) (Some q) ++ place_stands (value_place_is v i) None
type_stands_are (Value v) (Func f) = asks_nothing (root (plain_value v)) head.FuncType refl refl
type_stands_are (Value v) (Instance es) = asks_nothing (root (plain_value v)) head.InstanceType refl refl
type_stands_are (Value v) (Component is es) = asks_nothing (root (plain_value v)) head.ComponentType refl refl
type_stands_are (Resource r) (Value w) = λ i. for_resource (Some r) (value_no_resource w i) ++ []
type_stands_are (Resource r) (Resource q) = refl
type_stands_are (Resource r) (Func f) = refl
type_stands_are (Resource r) (Instance es) = refl
type_stands_are (Resource r) (Component is es) = refl
type_stands_are (Func f) u = refl
type_stands_are (Instance es) u = refl
type_stands_are (Component is es) u = refl

pub entity_stands : (x y : EntityTree) → (is_instance (root (plain_entity x)) && is_instance (root (plain_entity y))) ≡ false → head_stands (root (plain_entity x)) (root (plain_entity y)) ≡ stands x y
entity_stands (IsType t) (IsType u) i = type_stands_are t u
entity_stands (IsType t) (IsFunc f) i = asks_nothing (root (plain_type t)) head.Func refl refl
entity_stands (IsType t) (IsInstance es) i = asks_nothing (root (plain_type t)) head.Instance refl refl
entity_stands (IsType t) (IsComponent is es) i = asks_nothing (root (plain_type t)) head.Component refl refl
entity_stands (IsType t) (IsModule m) i = asks_nothing (root (plain_type t)) head.Module refl refl
entity_stands (IsType t) IsOwnModule i = asks_nothing (root (plain_type t)) head.OwnModule refl refl
entity_stands (IsFunc f) y i = refl
entity_stands (IsInstance es) (IsType u) i = refl
entity_stands (IsInstance es) (IsFunc f) i = refl
entity_stands (IsInstance es) (IsInstance fs) i = absurd cc
entity_stands (IsInstance es) (IsComponent is fs) i = refl
entity_stands (IsInstance es) (IsModule m) i = refl
entity_stands (IsInstance es) IsOwnModule i = refl
entity_stands (IsComponent is es) y i = refl
entity_stands (IsModule m) y i = refl
entity_stands IsOwnModule y i = refl

-- one resource or one place
is_eq-nat_cmp : (a b : ℕ) → is_eq (nat_cmp a b) ≡ (a == b)
is_eq-nat_cmp a b = sym (unsigned_ties a b)

called_same : (a n : Name) → is_eq (called_cmp (called a) (called n)) ≡ same_name a n
called_same a n = of (nat_cmp a.out n.out) (a.out == n.out) (is_eq-nat_cmp a.out n.out) ∙ ap (λ b. (a.out == n.out) && b) (is_eq-nat_cmp a.number n.number)
  where
    of : (o : Ordering) (b : Bool) → is_eq o ≡ b → is_eq (ordering_then o (nat_cmp a.number n.number)) ≡ (b && is_eq (nat_cmp a.number n.number))
    of Less true e = absurd cc
    of Less false e = refl
    of Equal true e = refl
    of Equal false e = absurd cc
    of Greater true e = absurd cc
    of Greater false e = refl

called_one : (a n : Name) → same_name a n ≡ true → called n ≡ called a
called_one a n e =
    let h = both (a.out == n.out) (a.number == n.number) e in
    let out = sym (eqb-true a.out n.out h.0) in
    let number = sym (eqb-true a.number n.number h.1) in λ i. record { out = out i; number = number i }

-- a look-up with one entry more, or with one that is there already
module _ {X : Type 0} (old : BTreeMap Called X) (asked : Name) (given : X) (n : Name) where
  looked_up : (new : BTreeMap Called X) → get called_cmp old (called asked) ≡ None → Updates called_cmp old new (called asked) (Some given) → get called_cmp new (called n) ≡ first_of (get called_cmp old (called n)) (cond (same_name asked n) (Some given) None)
  looked_up new e updates =
      updates.0 (called n) ∙ ap (λ b. cond b (Some given) (get called_cmp old (called n))) (called_same asked n) ∙ of (same_name asked n) (called_one asked n)
    where
      of : (b : Bool) → (b ≡ true → called n ≡ called asked) → cond b (Some given) (get called_cmp old (called n)) ≡ first_of (get called_cmp old (called n)) (cond b (Some given) None)
      of true h = sym (ap (λ o. first_of o (Some given)) (ap (get called_cmp old) (h refl) ∙ e))
      of false h = sym (first_none (get called_cmp old (called n)))

  looked_again : (there : X) → get called_cmp old (called asked) ≡ Some there → get called_cmp old (called n) ≡ first_of (get called_cmp old (called n)) (cond (same_name asked n) (Some given) None)
  looked_again there e = of (same_name asked n) (called_one asked n)
    where
      of : (b : Bool) → (b ≡ true → called n ≡ called asked) → get called_cmp old (called n) ≡ first_of (get called_cmp old (called n)) (cond b (Some given) None)
      of true h = kept_first (get called_cmp old (called n)) (Some given) there (ap (get called_cmp old) (h refl) ∙ e)
      of false h = sym (first_none (get called_cmp old (called n)))

module _ (old : StandingFor) (given asked : Name) where
  pub adds_resource : (new : BTreeMap Called Name) → get called_cmp old.resources (called asked) ≡ None → Updates called_cmp old.resources new (called asked) (Some given) → Adds old (record { resources = new; places = old.places }) (ForResource asked given ∷ [])
  adds_resource new e updates (OfResource n) = ap (option_map (λ r. Some r)) (looked_up old.resources asked given n new e updates) ∙ map_first (resource_found old n) (cond (same_name asked n) (Some given) None)
  adds_resource new e updates (OfPlace n) = sym (first_none (place_found old n))

  pub has_resource : (there : Name) → get called_cmp old.resources (called asked) ≡ Some there → Adds old old (ForResource asked given ∷ [])
  has_resource there e (OfResource n) = ap (option_map (λ r. Some r)) (looked_again old.resources asked given n there e) ∙ map_first (resource_found old n) (cond (same_name asked n) (Some given) None)
  has_resource there e (OfPlace n) = sym (first_none (place_found old n))

map_none : (o : Option Name) → option_map (λ r. Some r) o ≡ first_of (option_map (λ r. Some r) o) None
map_none o = sym (first_none (option_map (λ r. Some r) o))

module _ (old : StandingFor) (given : Option Name) (asked : Name) where
  pub adds_place : (new : BTreeMap Called (Option Name)) → get called_cmp old.places (called asked) ≡ None → Updates called_cmp old.places new (called asked) (Some given) → Adds old (record { resources = old.resources; places = new }) (ForPlace asked given ∷ [])
  adds_place new e updates (OfResource n) = map_none (resource_found old n)
  adds_place new e updates (OfPlace n) = looked_up old.places asked given n new e updates

  pub has_place : (there : Option Name) → get called_cmp old.places (called asked) ≡ Some there → Adds old old (ForPlace asked given ∷ [])
  has_place there e (OfResource n) = map_none (resource_found old n)
  has_place there e (OfPlace n) = looked_again old.places asked given n there e

-- numbers of which the first stands for an entry
other_trees : PlainTrees → PlainTrees
other_trees none = none
other_trees (more t ts) = ts

record IsNext (ts : List PlainTree) (p : ℕ) (ps : List ℕ) (es : Entries) : Type 0 where
  name : List ℕ
  mark : Bool
  item : EntityTree
  rest : Entries
  is : es ≡ entry name item mark rest
  here : tree_at ts p ≡ around (head.Entry mark name) (plain_entity item)
  later : trees_of (map (tree_at ts) ps) ≡ plain_entries rest

-- exports that are asked for, as far as a loop has come
module _ (ts : List PlainTree) where
  next : (p : ℕ) (ps : List ℕ) (es : Entries) → trees_of (map (tree_at ts) (p ∷ ps)) ≡ plain_entries es → IsNext ts p ps es
  unfolding other_trees
  next p ps no_entry e = absurd cc
  next p ps (entry name item mark rest) e = record { name = name; mark = mark; item = item; rest = rest; is = refl; here = ap first_tree e; later = ap other_trees e }

  none_left : (es : Entries) → none ≡ plain_entries es → es ≡ no_entry
  none_left no_entry e = refl
  none_left (entry name item mark rest) e = absurd cc

  -- what stands for names in all of them is what was found, and what stands for names in what is left
  pub record IsAdded (ps : List ℕ) (given asked : Entries) (old now : StandingFor) : Type 0 where
    pub rest : Entries
    pub trees : trees_of (map (tree_at ts) ps) ≡ plain_entries rest
    pub adds : (m : Mention) → first_of (found_for old m) (stands_for (all_stand given asked) m) ≡ first_of (found_for now m) (stands_for (all_stand given rest) m)

  abbrev one_stands : Entries → List ℕ → EntityTree → List Stands
  one_stands given name asked = option_map_or (λ (e : EntityTree × Bool). stands e.0 asked) (under name given) []

  module _ (p : ℕ) (ps : List ℕ) (given asked : Entries) (old now : StandingFor) (l : IsAdded (p ∷ ps) given asked old now) where
    here : IsNext ts p ps l.rest
    here = next p ps l.rest l.trees

    pub added_here : (name : List ℕ) × (mark : Bool) × (item : EntityTree) × (tree_at ts p ≡ around (head.Entry mark name) (plain_entity item))
    added_here = (here.name, here.mark, here.item, here.here)

    pub added_later : (new : StandingFor) → ((name : List ℕ) (mark : Bool) (item : EntityTree) → tree_at ts p ≡ around (head.Entry mark name) (plain_entity item) → Adds now new (one_stands given name item)) → IsAdded ps given asked old new
    added_later new f =
        let adds = f here.name here.mark here.item here.here in
        record {
          rest = here.rest;
          trees = here.later;
          adds = λ m.
              l.adds m ∙ ap (λ es. first_of (found_for now m) (stands_for (all_stand given es) m)) here.is
              ∙ ap (first_of (found_for now m)) (stands_first (one_stands given here.name here.item) (all_stand given here.rest) m)
              ∙ sym (first_twice (found_for now m) (stands_for (one_stands given here.name here.item) m) (stands_for (all_stand given here.rest) m))
              ∙ ap (λ o. first_of o (stands_for (all_stand given here.rest) m)) (sym (adds m));
        }

  pub added_all : (given asked : Entries) (old new : StandingFor) → IsAdded [] given asked old new → Adds old new (all_stand given asked)
  added_all given asked old new l m =
      sym (l.adds m ∙ ap (λ es. first_of (found_for new m) (stands_for (all_stand given es) m)) (none_left l.rest l.trees) ∙ ap (first_of (found_for new m)) (nothing_stands m) ∙ first_none (found_for new m))

  -- one entity under a name
  pub found_adds : (n : ℕ) (u : Option (EntityTree × Bool)) (item : EntityTree) (old new : StandingFor) → IsUnder ts (Some n) u → ((e : EntityTree) → table.Stands ts n (plain_entity e) → Adds old new (stands e item)) → Adds old new (option_map_or (λ (e : EntityTree × Bool). stands e.0 item) u [])
  found_adds n None item old new h f = absurd h
  found_adds n (Some e) item old new h f = f e.0 h

  pub absent_adds : (u : Option (EntityTree × Bool)) (item : EntityTree) (found : StandingFor) → IsUnder ts None u → Adds found found (option_map_or (λ (e : EntityTree × Bool). stands e.0 item) u [])
  absent_adds None item found h = adds_nothing found
  absent_adds (Some e) item found h = absurd h

-- both of a pair are instances
pub instances_at : (ts : List PlainTree) (p : Pair) (x y : EntityTree) → table.Stands ts p.given (plain_entity x) → table.Stands ts p.asked (plain_entity y) → (is_instance (root (tree_at ts p.given)) && is_instance (root (tree_at ts p.asked))) ≡ true → ((es : Entries) × (x ≡ IsInstance es)) × ((es : Entries) × (y ≡ IsInstance es))
instances_at ts p x y s u e =
    let h = both (is_instance (root (tree_at ts p.given))) (is_instance (root (tree_at ts p.asked))) e in
    (instance_at ts p.given x s h.0, instance_at ts p.asked y u h.1)

-- nothing is found at first
pub nothing_found : (found : StandingFor) → found.resources.entries ≡ [] → found.places.entries ≡ [] → (m : Mention) → found_for found m ≡ None
nothing_found found r p (OfResource n) = ap (option_map (λ r. Some r)) (ap (λ xs. lookup (is_at (called_cmp (called n))) xs) r)
nothing_found found r p (OfPlace n) = ap (λ xs. lookup (is_at (called_cmp (called n))) xs) p

pub none_covered : (ts : List PlainTree) (found : StandingFor) (seen : BTreeSet Pair) → ((p : Pair) → contains pair_cmp seen p ≡ false) → AreCovered ts found seen
none_covered ts found seen empty p e = absurd (let h = sym e ∙ empty p in cc)

same_map : (a b : Option Name) → option_map (λ r. Some r) a ≡ option_map (λ r. Some r) b → a ≡ b
same_map None None e = refl
same_map None (Some y) e = absurd cc
same_map (Some x) None e = absurd cc
same_map (Some x) (Some y) e = same_Some (Some x) (Some y) e

pub found_is_all : (old new : StandingFor) (ss : List Stands) → old.resources.entries ≡ [] → old.places.entries ≡ [] → Adds old new ss → ShowsStanding new ss
found_is_all old new ss r p adds = record {
  resources = λ n. same_map (resource_found new n) (resource_for ss n) (adds (OfResource n) ∙ ap (λ o. first_of o (stands_for ss (OfResource n))) (nothing_found old r p (OfResource n)));
  places = λ n. adds (OfPlace n) ∙ ap (λ o. first_of o (stands_for ss (OfPlace n))) (nothing_found old r p (OfPlace n));
}
