-- What is described of a type, a function and an instance, by the index of what was written for it.
use Rattle.std.proofs.Common.{◌≡◌, ℕ, ◌+◌, Bool, true, false, List, Option, Some, None, refl, sym, ap, subst, ◌∙◌, arith}
use Rattle.std.proofs.lemmas.Option.{same_Some}
use Rattle.comp_format.specs.declared.types.TypeRef.{TypeRef}
use Rattle.comp_format.specs.declared.types.TypeRef.TheVariants as description
use Rattle.comp_entity.specs.Entity.{Name, made, brought, ValueTree, Primitive, TupleOf, RecordOf, VariantOf, ListOf, FlagsOf, EnumOf, OptionOf, ResultOf, Own, Borrow, FuncTree, Value, Resource, Func, Instance, Component, EntityTree, IsType, IsFunc, IsInstance, IsComponent, Entries}
use Rattle.comp_entity.specs.Names.{outside, without_places, bare, entries_by, in_entries, beyond, counts_at, Mention, OfResource, OfPlace}
use Rattle.comp_entity.specs.Fits.{place_of}
use Rattle.comp_entity.specs.NameLaws.{value_twice}
use Rattle.comp_scope.specs.Spaces.{Spaces, Known, entity_is_named}
use Rattle.comp_scope.specs.Descriptions.{described, described_func, described_resource, named_by, names_a_place, opened, opening}
use Rattle.compose_writing.specs.Scopes.{WrittenScope, wrote_as, knows, type_index}
use Rattle.compose_writing.specs.WriteValues.{write_func, write_own}
use Rattle.compose_writing.specs.WriteEntities.{write_resource, write_place, write_named}
use Rattle.compose_meaning.specs.Meaning.{Meaning, placing, placed_value, placed_func, placed_entries, meant, own_bit, func_bit, IsNamed, OneTree, OneTreeFunc}
use Rattle.compose_meaning.specs.Stands.{Kept}
use Rattle.compose_meaning.specs.Described.{Describing, count, new_of}
use Rattle.compose_meaning.specs.Readable.{SpotKind, Importing, Exporting, new_name, Spot, within, NewPlace}
use Rattle.compose_meaning.specs.Shows.{HasBit, AllShow}
use Rattle.compose_meaning.proofs.ListLaws.{wrote_some}
use Rattle.compose_meaning.proofs.NameLaws.{here, placing_bare}
use Rattle.compose_meaning.proofs.SpaceLaws.{so, at_once, OnTop, on_top_then, TypeAt}
use Rattle.compose_meaning.proofs.KnownLaws.{index_reads}
use Rattle.compose_meaning.proofs.ValueLaws.{plain_value, means_here, type_value, type_resource, Ready, Written}
use Rattle.compose_meaning.proofs.FuncLaws.{plain_func, func_reads, own_reads}
use Rattle.compose_meaning.proofs.CountLaws.{resources, entries_alike}
use Rattle.compose_meaning.proofs.DepthLaws.{bare_at, placing_within}
use Rattle.compose_meaning.proofs.ShowsLaws.{all_bare, all_turned}
use Rattle.compose_meaning.proofs.OpenLaws.{inside_turns}

-- The description describes the entity in the innermost scope, where that has so many resources.
unfoldable pub Describes : Meaning → Spot → TypeRef → EntityTree → List Known → Type 0
Describes mean p ty e = OnTop (λ s. count p.side s ≡ p.resources → Describing mean p ty e s)

-- ---- functions

pub func_described : (mean : Meaning) (p : Spot) (f : FuncTree) (i : ℕ) (what : FuncTree) → plain_func what ≡ placed_func mean f → func_bit mean.bit f ≡ true → (ks : List Known) → TypeAt i (IsType (Func what), func_bit mean.bit f) ks
    → Describes mean p (description.Func i) (IsFunc f) ks
unfolding Describes TypeAt described
func_described mean p f i what is bit ks h = on_top_then _ _ (λ s at same. record {
  what = record { standing = (IsFunc what, true); brings = record { resources = 0; places = 0 } };
  is = rw at (ap (λ b. described_func (IsType (Func what), b)) bit);
  shows = ap IsFunc is;
  brings = refl;
  matches = (what, refl);
}) ks h

-- ---- types

named_bare : (place : Name) (t : ValueTree) → bare (IsType (named_by place (Value t))) ≡ bare (IsType (Value t))
named_bare place (Primitive p) = refl
named_bare place (TupleOf parts) = refl
named_bare place (RecordOf None fields) = refl
named_bare place (RecordOf (Some n) fields) = refl
named_bare place (VariantOf None cases) = refl
named_bare place (VariantOf (Some n) cases) = refl
named_bare place (ListOf t) = refl
named_bare place (FlagsOf None labels) = refl
named_bare place (FlagsOf (Some n) labels) = refl
named_bare place (EnumOf None labels) = refl
named_bare place (EnumOf (Some n) labels) = refl
named_bare place (OptionOf t) = refl
named_bare place (ResultOf ok err) = refl
named_bare place (Own r) = refl
named_bare place (Borrow r) = refl

always_named : (place : Name) (t : ValueTree) → entity_is_named (IsType (named_by place (Value t))) ≡ true
always_named place (Primitive p) = refl
always_named place (TupleOf parts) = refl
always_named place (RecordOf None fields) = refl
always_named place (RecordOf (Some n) fields) = refl
always_named place (VariantOf None cases) = refl
always_named place (VariantOf (Some n) cases) = refl
always_named place (ListOf t) = refl
always_named place (FlagsOf None labels) = refl
always_named place (FlagsOf (Some n) labels) = refl
always_named place (EnumOf None labels) = refl
always_named place (EnumOf (Some n) labels) = refl
always_named place (OptionOf t) = refl
always_named place (ResultOf ok err) = refl
always_named place (Own r) = refl
always_named place (Borrow r) = refl

value_described : (mean : Meaning) (p : Spot) (t : ValueTree) (i : ℕ) (what : ValueTree) (b : Bool) → plain_value what ≡ placed_value mean t → ((n : Name) → place_of t ≡ Some n → b ≡ mean.bit n) → (ks : List Known) → TypeAt i (IsType (Value what), b) ks
    → Describes mean p (description.TyEqual i) (IsType (Value t)) ks
unfolding Describes TypeAt described
value_described mean p t i what b is bit ks h = on_top_then _ _ (λ s at same. record {
  what = record { standing = (IsType (named_by ((new_of p.side s).place 0) (Value what)), b); brings = record { resources = 0; places = names_a_place (Value what) } };
  is = rw at refl;
  shows = (named_bare ((new_of p.side s).place 0) what ∙ ap (λ t. IsType (Value t)) is, one ((new_of p.side s).place 0) (place_of t) refl);
  brings = refl;
  matches = (named_by ((new_of p.side s).place 0) (Value what), refl);
}) ks h
  where
    one : (place : Name) (o : Option Name) → place_of t ≡ o → HasBit mean o (IsType (named_by place (Value what)), b)
    one place None o = tt
    one place (Some n) o = (always_named place what, bit n o)

type_func_described : (mean : Meaning) (p : Spot) (f : FuncTree) (i : ℕ) (what : FuncTree) (b : Bool) → plain_func what ≡ placed_func mean f → (ks : List Known) → TypeAt i (IsType (Func what), b) ks
    → Describes mean p (description.TyEqual i) (IsType (Func f)) ks
unfolding Describes TypeAt described
type_func_described mean p f i what b is ks h = on_top_then _ _ (λ s at same. record {
  what = record { standing = (IsType (Func what), b); brings = record { resources = 0; places = 0 } };
  is = rw at refl;
  shows = (ap (λ f. IsType (Func f)) is, tt);
  brings = refl;
  matches = (Func what, refl);
}) ks h

resource_described : (mean : Meaning) (p : Spot) (r : Name) (i : ℕ) (b : Bool) → p.known (OfResource r) ≡ true → (ks : List Known) → TypeAt i (IsType (Resource (outside mean.resource 0 r)), b) ks
    → Describes mean p (description.TyEqual i) (IsType (Resource r)) ks
unfolding Describes TypeAt described
resource_described mean p r i b known ks h = on_top_then _ _ (λ s at same. record {
  what = record { standing = (IsType (Resource (outside mean.resource 0 r)), true); brings = record { resources = 0; places = 0 } };
  is = rw at refl;
  shows = (refl, refl);
  brings = rw known refl;
  matches = (Resource (outside mean.resource 0 r), refl);
}) ks h

fresh_described : (mean : Meaning) (p : Spot) (r : Name) → p.known (OfResource r) ≡ false → mean.resource r ≡ new_name p.side p.resources → (ks : List Known) → OnTop (λ s. Unit {0}) ks → Describes mean p description.TyFresh (IsType (Resource r)) ks
unfolding Describes described
fresh_described mean p r known fresh ks h = on_top_then _ _ (λ s u same. record {
  what = described_resource (new_of p.side s);
  is = refl;
  shows = (ap (λ n. IsType (Resource n)) (one p.side s (same ∙ refl) ∙ sym fresh ∙ sym (here mean.resource r)), refl);
  brings = rw known refl;
  matches = (Resource ((new_of p.side s).resource 0), refl);
}) ks h
  where
    none_more : (m : ℕ) → m + 0 ≡ m
    none_more m = omega arith

    one : (side : SpotKind) (s : Spaces) → count side s ≡ p.resources → (new_of side s).resource 0 ≡ new_name side p.resources
    one Importing s same = ap brought (none_more s.brought.resources ∙ same)
    one Exporting s same = ap made (none_more s.made.resources ∙ same)

-- ---- instances

pub instance_described : (mean : Meaning) (p : Spot) (es fs : Entries) (i : ℕ) → AllShow (within p mean) es fs → (ks : List Known) → TypeAt i (IsType (Instance fs), true) ks → Describes mean p (description.Instance i) (IsInstance es) ks
unfolding Describes TypeAt described
instance_described mean p es fs i shows ks h = on_top_then _ _ (λ s at same. record {
  what = record { standing = (IsInstance (entries_by (opening (new_of p.side s)) 0 fs), true); brings = counts_at 0 (in_entries 0 fs) };
  is = rw at refl;
  shows = (entries_by (opening (new_of p.side s)) 0 fs, refl, all_turned (opened (new_of p.side s).resource) (opened (new_of p.side s).place) (within p mean) mean (λ n. inside_turns p s same (mean.resource n)) (λ n. refl) es fs shows);
  brings = ap beyond (sym (entries_alike 0 without_places (λ d n. refl) 0 fs) ∙ ap (λ es. resources 0 (in_entries 0 es)) (all_bare (within p mean) es fs shows));
  matches = (entries_by (opening (new_of p.side s)) 0 fs, refl);
}) ks h

-- ---- types that are scopes of names

scope_side : (mean inner : Meaning) (w : ℕ) (es fs : Entries) → inner.resource ≡ outside mean.resource w → entries_by without_places 0 fs ≡ placed_entries inner es → entries_by without_places w fs ≡ entries_by (placing mean.resource) w es
scope_side mean inner w es fs same is = sym (bare_at w fs) ∙ is ∙ ap (λ f. entries_by (placing f) 0 es) same ∙ placing_within mean.resource w es

pub type_instance_described : (mean inner : Meaning) (p : Spot) (es fs : Entries) (i : ℕ) → inner.resource ≡ outside mean.resource 1 → AllShow inner es fs → (ks : List Known) → TypeAt i (IsType (Instance fs), true) ks → Describes mean p (description.TyEqual i) (IsType (Instance es)) ks
unfolding Describes TypeAt described
type_instance_described mean inner p es fs i same shows ks h = on_top_then _ _ (λ s at counts. record {
  what = record { standing = (IsType (Instance fs), true); brings = record { resources = 0; places = 0 } };
  is = rw at refl;
  shows = (ap (λ es. IsType (Instance es)) (scope_side mean inner 1 es fs same (all_bare inner es fs shows)), tt);
  brings = refl;
  matches = (Instance fs, refl);
}) ks h

-- the two sides of a component
pub record SidesRead (mean inner : Meaning) (is es fs gs : Entries) : Type 0 where
  pub same : inner.resource ≡ outside mean.resource 2
  pub imports : entries_by without_places 0 fs ≡ placed_entries inner is
  pub exports : entries_by without_places 0 gs ≡ placed_entries inner es

pub type_component_described : (mean inner : Meaning) (p : Spot) (is es fs gs : Entries) (i : ℕ) → SidesRead mean inner is es fs gs → (ks : List Known) → TypeAt i (IsType (Component fs gs), true) ks → Describes mean p (description.TyEqual i) (IsType (Component is es)) ks
unfolding Describes TypeAt described
type_component_described mean inner p is es fs gs i sides ks h = on_top_then _ _ (λ s at counts. record {
  what = record { standing = (IsType (Component fs gs), true); brings = record { resources = 0; places = 0 } };
  is = rw at refl;
  shows = ((λ i. IsType (Component (scope_side mean inner 2 is fs sides.same sides.imports i) (scope_side mean inner 2 es gs sides.same sides.exports i))), tt);
  brings = refl;
  matches = (Component fs gs, refl);
}) ks h

pub component_described : (mean inner : Meaning) (p : Spot) (is es fs gs : Entries) (i : ℕ) → SidesRead mean inner is es fs gs → (ks : List Known) → TypeAt i (IsType (Component fs gs), true) ks → Describes mean p (description.Component i) (IsComponent is es) ks
unfolding Describes TypeAt described
component_described mean inner p is es fs gs i sides ks h = on_top_then _ _ (λ s at counts. record {
  what = record { standing = (IsComponent fs gs, true); brings = record { resources = 0; places = 0 } };
  is = rw at refl;
  shows = λ i. IsComponent (scope_side mean inner 2 is fs sides.same sides.imports i) (scope_side mean inner 2 es gs sides.same sides.exports i);
  brings = refl;
  matches = (fs, gs, refl);
}) ks h

-- ---- what is written for a type reads as that type

pub one_tree_named : (mean : Meaning) (t : ValueTree) → OneTree mean t → IsNamed mean t (place_of t)
one_tree_named mean (Primitive p) h = tt
one_tree_named mean (TupleOf parts) h = tt
one_tree_named mean (RecordOf p fields) h = h.0
one_tree_named mean (VariantOf p cases) h = h.0
one_tree_named mean (ListOf t) h = tt
one_tree_named mean (FlagsOf p labels) h = h
one_tree_named mean (EnumOf p labels) h = h
one_tree_named mean (OptionOf t) h = tt
one_tree_named mean (ResultOf ok err) h = tt
one_tree_named mean (Own r) h = tt
one_tree_named mean (Borrow r) h = tt

-- the same of a value type that is known, and of one that is not
module _ (mean : Meaning) (p : Spot) (ms : List WrittenScope) (ks : List Known) (k : Kept 0 (meant mean) ms ks) (r : Ready mean ms ks) (same : (key : Mention) → knows ms key ≡ p.known key) where
  own_described : (t : ValueTree) (i : List WrittenScope × ℕ) → OneTree mean t → ((n : Name) → place_of t ≡ Some n → own_bit mean.bit t ≡ mean.bit n) → write_own t ms ≡ Some i → Written mean ks ms i.0 (Describes mean p (description.TyEqual i.1) (IsType (Value t)))
  own_described t i one bit h =
      let w = own_reads mean t ms ks i k r one h in
      so 0 (meant mean) ks ms i.0 _ _ w.3 (value_described mean p t i.1 w.0 (own_bit mean.bit t) w.1 bit)

  known_described : (t : ValueTree) (n : Name) (i : List WrittenScope × ℕ) → place_of t ≡ Some n → IsNamed mean t (Some n) → type_index (OfPlace n) ms ≡ Some i → Written mean ks ms i.0 (Describes mean p (description.TyEqual i.1) (IsType (Value t)))
  known_described t n i place named h =
      let w = index_reads mean.may_mention (meant mean) (OfPlace n) ms ks i k r.brings named.0 h in
      let v = type_value (placed_value mean (mean.tree n)) w.0 w.1.ty w.1.is_type (means_here (meant mean (OfPlace n)) w.0 w.1) in
      let is : plain_value v.0 ≡ placed_value mean t = v.2 ∙ ap (placed_value mean) (sym named.1) ∙ value_twice (placing mean.resource) without_places (placing mean.resource) (placing_bare mean.resource) 0 t in
      let at : (ls : List Known) → TypeAt i.1 w.0 ls → TypeAt i.1 (IsType (Value v.0), w.0.1) ls = λ ls. subst (λ e. TypeAt i.1 (e, w.0.1) ls) v.1 in
      so 0 (meant mean) ks ms i.0 _ _ w.2 (λ ls h. value_described mean p t i.1 v.0 w.0.1 is (λ m other. w.1.bit ∙ ap mean.bit (same_Some _ _ (sym place ∙ other))) ls (at ls h))

  value_entity : (t : ValueTree) (o : Option Name) (x : List WrittenScope × ℕ) → place_of t ≡ o → OneTree mean t → NewPlace mean p.known t o → write_named o t ms ≡ Some x → Written mean ks ms x.0 (Describes mean p (description.TyEqual x.1) (IsType (Value t)))
  value_entity t None x place one new h = own_described t x one (λ n other. absurd (none_some (sym place ∙ other))) h
    where
      none_some : {X : Type 0} {y : X} → None ≡ Some y → ⊥
      none_some h = absurd cc
  value_entity t (Some n) x place one new h = either (knows ms (OfPlace n)) refl h
    where
      either : (b : Bool) → knows ms (OfPlace n) ≡ b → write_place n b t ms ≡ Some x → Written mean ks ms x.0 (Describes mean p (description.TyEqual x.1) (IsType (Value t)))
      either true is h = known_described t n x place (subst (λ (o : Option Name). IsNamed mean t o) place (one_tree_named mean t one)) h
      either false is h = own_described t x one (λ m other. sym (new (sym (same (OfPlace n)) ∙ is)) ∙ ap mean.bit (same_Some _ _ (sym place ∙ other))) h

  resource_entity : (n : Name) (b : Bool) (x : List WrittenScope × TypeRef) → knows ms (OfResource n) ≡ b → mean.may_mention (OfResource n) ≡ true → (p.known (OfResource n) ≡ false → mean.resource n ≡ new_name p.side p.resources) → write_resource n b ms ≡ Some x
      → Written mean ks ms x.0 (Describes mean p x.1 (IsType (Resource n)))
  resource_entity n true x known may fresh h = wrote_some description.TyEqual (type_index (OfResource n) ms) x h (λ y a b.
      let w = index_reads mean.may_mention (meant mean) (OfResource n) ms ks y k r.brings may a in
      let is = type_resource (outside mean.resource 0 n) w.0 w.1.ty w.1.is_type (means_here (meant mean (OfResource n)) w.0 w.1) in
      let at : (ls : List Known) → TypeAt y.1 w.0 ls → TypeAt y.1 (IsType (Resource (outside mean.resource 0 n)), w.0.1) ls = λ ls. subst (λ e. TypeAt y.1 (e, w.0.1) ls) is in
      subst (λ (x : List WrittenScope × TypeRef). Written mean ks ms x.0 (Describes mean p x.1 (IsType (Resource n)))) b
      (so 0 (meant mean) ks ms y.0 _ _ w.2 (λ ls h. resource_described mean p n y.1 w.0.1 (sym (same (OfResource n)) ∙ known) ls (at ls h))))
  resource_entity n false x known may fresh h = subst (λ (x : List WrittenScope × TypeRef). Written mean ks ms x.0 (Describes mean p x.1 (IsType (Resource n)))) (same_Some _ _ h)
      (at_once 0 (meant mean) ks ms _ k (fresh_described mean p n (sym (same (OfResource n)) ∙ known) (fresh (sym (same (OfResource n)) ∙ known)) ks r.is_open))

  pub value_type_reads : (t : ValueTree) (x : List WrittenScope × TypeRef) → OneTree mean t → NewPlace mean p.known t (place_of t) → wrote_as description.TyEqual (write_named (place_of t) t ms) ≡ Some x → Written mean ks ms x.0 (Describes mean p x.1 (IsType (Value t)))
  value_type_reads t x one new h = wrote_some description.TyEqual (write_named (place_of t) t ms) x h (λ y a b.
      subst (λ (x : List WrittenScope × TypeRef). Written mean ks ms x.0 (Describes mean p x.1 (IsType (Value t)))) b (value_entity t (place_of t) y refl one new a))

  pub resource_type_reads : (n : Name) (x : List WrittenScope × TypeRef) → mean.may_mention (OfResource n) ≡ true → (p.known (OfResource n) ≡ false → mean.resource n ≡ new_name p.side p.resources) → write_resource n (knows ms (OfResource n)) ms ≡ Some x
      → Written mean ks ms x.0 (Describes mean p x.1 (IsType (Resource n)))
  resource_type_reads n x may fresh h = resource_entity n (knows ms (OfResource n)) x refl may fresh h

  pub func_type_reads : (f : FuncTree) (x : List WrittenScope × TypeRef) → OneTreeFunc mean f → wrote_as description.TyEqual (write_func f ms) ≡ Some x → Written mean ks ms x.0 (Describes mean p x.1 (IsType (Func f)))
  func_type_reads f x one h = wrote_some description.TyEqual (write_func f ms) x h (λ y a b.
      let w = func_reads mean f ms ks y k r one a in
      subst (λ (x : List WrittenScope × TypeRef). Written mean ks ms x.0 (Describes mean p x.1 (IsType (Func f)))) b
      (so 0 (meant mean) ks ms y.0 _ _ w.2 (type_func_described mean p f y.1 w.0 (func_bit mean.bit f) w.1)))

  pub func_entity_reads : (f : FuncTree) (x : List WrittenScope × TypeRef) → OneTreeFunc mean f → func_bit mean.bit f ≡ true → wrote_as description.Func (write_func f ms) ≡ Some x → Written mean ks ms x.0 (Describes mean p x.1 (IsFunc f))
  func_entity_reads f x one bit h = wrote_some description.Func (write_func f ms) x h (λ y a b.
      let w = func_reads mean f ms ks y k r one a in
      subst (λ (x : List WrittenScope × TypeRef). Written mean ks ms x.0 (Describes mean p x.1 (IsFunc f))) b
      (so 0 (meant mean) ks ms y.0 _ _ w.2 (func_described mean p f y.1 w.0 w.1 bit)))
