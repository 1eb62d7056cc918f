-- What is written leaves the scopes around it as they are called, and what they know.
use Rattle.std.proofs.Common.{◌≡◌, ◌||◌, ℕ, zero, suc, Bool, true, false, List, [], ◌∷◌, map, Option, Some, None, refl, sym, ap, ◌∙◌}
use Rattle.std.specs.Prelude.{option_map, option_and_then, is_some, if◌then◌else◌}
use Rattle.std.proofs.lemmas.Option.{same_Some}
use Rattle.comp_format.specs.declared.types.TypeRef.{TypeRef}
use Rattle.comp_format.specs.declared.types.TypeRef.TheVariants as description
use Rattle.comp_format.specs.declared.types.ValType.TheVariants as value
use Rattle.comp_format.specs.declared.types.DefinedType.{DefinedType}
use Rattle.comp_format.specs.declared.types.DefinedType.TheVariants as defined
use Rattle.comp_format.specs.CoreTypes as core
use Rattle.comp_format.specs.Definitions as tree
use Rattle.comp_format.specs.Definitions.{TypeTree, DeclTree, Decls}
use Rattle.comp_entity.specs.Entity.{Name, ValueTree, Primitive, TupleOf, RecordOf, VariantOf, ListOf, FlagsOf, EnumOf, OptionOf, ResultOf, Own, Borrow, ValueTrees, none, more, Cases, no_case, labelled, Payload, absent, present, FuncTree, TypeShapeTree, Value, Resource, Func, Instance, Component, EntityTree, IsType, IsFunc, IsInstance, IsComponent, IsModule, IsOwnModule, Entries, no_entry, entry}
use Rattle.comp_entity.specs.Names.{Mention, OfResource, OfPlace}
use Rattle.comp_entity.specs.Fits.{place_of}
use Rattle.comp_entity.specs.Places.{Path, leaves_in, names_itself}
use Rattle.compose_writing.specs.Keys.{At, Index, InInstance, KnownThings, known_at, mention_outside, holds_there, from_within}
use Rattle.compose_writing.specs.Scopes.{WrittenScope, opened, Wrote, wrote_as, add_type, add_instance, add_core_type, on_top, change_top, then_type, closed, declared, knows, with_known, along, index_in, stood, standing, brought, type_index}
use Rattle.compose_writing.specs.WriteValues.{then_defined, named_part, as_part, write_defined, write_parts, write_fields, write_cases, write_payload, write_params, write_result, write_func, write_own}
use Rattle.compose_writing.specs.WriteModules.{write_module}
use Rattle.compose_writing.specs.WriteEntities.{counted, leaves_known, note_new, note_all, note_here, noted, with_named, then_decls, write_resource, write_place, write_named, write_entity, write_type, write_entries}

-- ---- scopes without what is declared in them

abbrev pub Shell : Type 0
Shell = ℕ × KnownThings

abbrev pub shell : WrittenScope → Shell
shell m = (m.width, m.known)

abbrev pub shells : List WrittenScope → List Shell
shells ms = map shell ms

abbrev pub known_in : List Shell → Mention → Bool
known_in [] key = false
known_in (n ∷ ns) key = is_some (known_at n.1 key) || from_within n.0 (known_in ns) key

there : (f g : Mention → Bool) → ((key : Mention) → f key ≡ g key) → (o : Option Mention)
    → holds_there f o ≡ holds_there g o
there f g h None = refl
there f g h (Some key) = h key

pub knows_is : (ms : List WrittenScope) (key : Mention) → knows ms key ≡ known_in (shells ms) key
unfolding knows
knows_is [] key = refl
knows_is (m ∷ ms) key =
    ap (λ b. is_some (known_at m.known key) || b)
    (there (knows ms) (known_in (shells ms)) (knows_is ms) (mention_outside m.width key))

abbrev pub around : List Shell → List Shell
around [] = []
around (n ∷ ns) = ns

-- ---- what is written, if it is, leaves these scopes

pub record Stays {X : Type 0} (ns : List Shell) (w : Wrote X) : Type 0 where
  pub names : (x : List WrittenScope × X) → w ≡ Some x → shells x.0 ≡ ns

pub stays_some : {X : Type 0} (ns : List Shell) (x : List WrittenScope × X) → shells x.0 ≡ ns → Stays ns (Some x)
stays_some {X} ns x h =
    record { names = λ y e. ap (λ (z : List WrittenScope × X). shells z.0) (sym (same_Some x y e)) ∙ h }

pub stays_none : {X : Type 0} (ns : List Shell) → Stays {X = X} ns None
stays_none ns = record { names = λ y e. absurd cc }

pub stays_as : {X Y : Type 0} (f : X → Y) (ns : List Shell) (w : Wrote X) → Stays ns w → Stays ns (wrote_as f w)
stays_as f ns None h = stays_none ns
stays_as f ns (Some x) h = stays_some ns (x.0, f x.1) (h.names x refl)

pub stays_then : {X Y : Type 0} (f : List WrittenScope × X → Wrote Y) (ns : List Shell) (w : Wrote X) → Stays ns w
    → ((x : List WrittenScope × X) → shells x.0 ≡ ns → Stays ns (f x)) → Stays ns (option_and_then f w)
stays_then f ns None h next = stays_none ns
stays_then f ns (Some x) h next = next x (h.names x refl)

pub stays_top : (f : WrittenScope → WrittenScope × ℕ) (ns : List Shell) (ms : List WrittenScope)
    → ((m : WrittenScope) → shell (f m).0 ≡ shell m) → shells ms ≡ ns → Stays ns (on_top f ms)
unfolding on_top
stays_top f ns [] keeps is = stays_none ns
stays_top f ns (m ∷ ms) keeps is = stays_some ns ((f m).0 ∷ ms, (f m).1) (ap (λ x. x ∷ shells ms) (keeps m) ∙ is)

pub stays_type : (ns : List Shell) (w : Wrote TypeTree) → Stays ns w → Stays ns (then_type w)
stays_type ns w h =
    stays_then (λ x. on_top (add_type x.1) x.0) ns w h (λ x is. stays_top (add_type x.1) ns x.0 (λ m. refl) is)

-- ---- the index of a type

along_stays : (from : ℕ) (path : Path) (m : WrittenScope) → shell (along from path m).0 ≡ shell m
unfolding along
along_stays from [] m = refl
along_stays from (name ∷ []) m = refl
along_stays from (name ∷ next ∷ names) m =
    along_stays (add_instance from name m).1 (next ∷ names) (add_instance from name m).0

index_stays : (at : At) (m : WrittenScope) → shell (index_in at m).0 ≡ shell m
index_stays (Index i) m = refl
index_stays (InInstance from path) m = along_stays from path m

further_stays : (m : WrittenScope) (ms : List WrittenScope) (w : Wrote (ℕ × ℕ)) → Stays (shells ms) w
    → Stays {X = ℕ × ℕ} (shells (m ∷ ms)) (option_map (λ x. (m ∷ x.0, (suc x.1.0, x.1.1))) w)
further_stays m ms None h = stays_none (shells (m ∷ ms))
further_stays m ms (Some x) h =
    stays_some (shells (m ∷ ms)) (m ∷ x.0, (suc x.1.0, x.1.1)) (ap (λ ns. shell m ∷ ns) (h.names x refl))

stood_stays : (m : WrittenScope) (ms : List WrittenScope) (w : Wrote (ℕ × ℕ)) (at : Option At) → Stays (shells ms) w
    → Stays (shells (m ∷ ms)) (stood m ms w at)
stood_stays m ms w (Some at) h =
    stays_some (shells (m ∷ ms)) ((index_in at m).0 ∷ ms, (0, (index_in at m).1))
    (ap (λ x. x ∷ shells ms) (index_stays at m))
stood_stays m ms w None h = further_stays m ms w h

outer_stays : (ms : List WrittenScope) (o : Option Mention) → ((key : Mention) → Stays (shells ms) (standing ms key))
    → Stays (shells ms) (option_and_then (standing ms) o)
outer_stays ms None h = stays_none (shells ms)
outer_stays ms (Some key) h = h key

standing_stays : (ms : List WrittenScope) (key : Mention) → Stays (shells ms) (standing ms key)
unfolding standing
standing_stays [] key = stays_none []
standing_stays (m ∷ ms) key =
    stood_stays m ms (option_and_then (standing ms) (mention_outside m.width key)) (known_at m.known key)
    (outer_stays ms (mention_outside m.width key) (standing_stays ms))

brought_stays : (ns : List Shell) (ms : List WrittenScope) (up i : ℕ) → shells ms ≡ ns → Stays ns (brought ms up i)
unfolding brought
brought_stays ns ms zero i is = stays_some ns (ms, i) is
brought_stays ns ms (suc up) i is = stays_top _ ns ms (λ m. refl) is

pub type_stays : (ns : List Shell) (key : Mention) (ms : List WrittenScope) → shells ms ≡ ns
    → Stays ns (type_index key ms)
unfolding type_index
type_stays ns key ms is =
    stays_then (λ x. brought x.0 x.1.0 x.1.1) ns (standing ms key)
    (record { names = λ x e. (standing_stays ms key).names x e ∙ is }) (λ x at. brought_stays ns x.0 x.1.0 x.1.1 at)

-- ---- value types

module _ (ns : List Shell) where
  defined_stays : (w : Wrote DefinedType) → Stays ns w → Stays ns (then_defined w)
  defined_stays w h = stays_type ns (wrote_as tree.Defined w) (stays_as tree.Defined ns w h)

  named_stays : (p : Option Name) (w : Wrote DefinedType) (ms : List WrittenScope) → shells ms ≡ ns → Stays ns w
      → Stays ns (named_part p w ms)
  named_stays None w ms is h = stays_as value.Index ns (then_defined w) (defined_stays w h)
  named_stays (Some n) w ms is h = stays_as value.Index ns (type_index (OfPlace n) ms) (type_stays ns (OfPlace n) ms is)

  part_stays : (t : ValueTree) (w : Wrote DefinedType) (ms : List WrittenScope) → shells ms ≡ ns → Stays ns w
      → Stays ns (as_part t w ms)
  part_stays (Primitive p) w ms is h = stays_some ns (ms, value.Primitive p) is
  part_stays (TupleOf ts) w ms is h = named_stays None w ms is h
  part_stays (RecordOf p cs) w ms is h = named_stays p w ms is h
  part_stays (VariantOf p cs) w ms is h = named_stays p w ms is h
  part_stays (ListOf t) w ms is h = named_stays None w ms is h
  part_stays (FlagsOf p ls) w ms is h = named_stays p w ms is h
  part_stays (EnumOf p ls) w ms is h = named_stays p w ms is h
  part_stays (OptionOf t) w ms is h = named_stays None w ms is h
  part_stays (ResultOf ok err) w ms is h = named_stays None w ms is h
  part_stays (Own r) w ms is h = named_stays None w ms is h
  part_stays (Borrow r) w ms is h = named_stays None w ms is h

  mutual
    unfolding write_defined

    value_stays : (t : ValueTree) (ms : List WrittenScope) → shells ms ≡ ns → Stays ns (write_defined t ms)
    value_stays (Primitive p) ms is = stays_some ns (ms, defined.Primitive p) is
    value_stays (TupleOf ts) ms is = stays_as defined.TupleOf ns (write_parts ts ms) (parts_stay ts ms is)
    value_stays (RecordOf p cs) ms is = stays_as defined.RecordOf ns (write_fields cs ms) (fields_stay cs ms is)
    value_stays (VariantOf p cs) ms is = stays_as defined.VariantOf ns (write_cases cs ms) (cases_stay cs ms is)
    value_stays (ListOf t) ms is =
        stays_as defined.ListOf ns (as_part t (write_defined t ms) ms)
        (part_stays t (write_defined t ms) ms is (value_stays t ms is))
    value_stays (FlagsOf p ls) ms is = stays_some ns (ms, defined.FlagsOf ls) is
    value_stays (EnumOf p ls) ms is = stays_some ns (ms, defined.EnumOf ls) is
    value_stays (OptionOf t) ms is =
        stays_as defined.OptionOf ns (as_part t (write_defined t ms) ms)
        (part_stays t (write_defined t ms) ms is (value_stays t ms is))
    value_stays (ResultOf ok err) ms is =
        stays_then (λ x. wrote_as (defined.ResultOf x.1) (write_payload err x.0)) ns (write_payload ok ms)
        (payload_stays ok ms is)
        (λ x at. stays_as (defined.ResultOf x.1) ns (write_payload err x.0) (payload_stays err x.0 at))
    value_stays (Own r) ms is =
        stays_as defined.Own ns (type_index (OfResource r) ms) (type_stays ns (OfResource r) ms is)
    value_stays (Borrow r) ms is =
        stays_as defined.Borrow ns (type_index (OfResource r) ms) (type_stays ns (OfResource r) ms is)

    parts_stay : (ts : ValueTrees) (ms : List WrittenScope) → shells ms ≡ ns → Stays ns (write_parts ts ms)
    parts_stay none ms is = stays_some ns (ms, []) is
    parts_stay (more t ts) ms is =
        stays_then (λ x. wrote_as (λ us. x.1 ∷ us) (write_parts ts x.0)) ns (as_part t (write_defined t ms) ms)
        (part_stays t (write_defined t ms) ms is (value_stays t ms is))
        (λ x at. stays_as (λ us. x.1 ∷ us) ns (write_parts ts x.0) (parts_stay ts x.0 at))

    fields_stay : (cs : Cases) (ms : List WrittenScope) → shells ms ≡ ns → Stays ns (write_fields cs ms)
    fields_stay no_case ms is = stays_some ns (ms, []) is
    fields_stay (labelled label absent cs) ms is = stays_none ns
    fields_stay (labelled label (present t) cs) ms is =
        stays_then (λ x. wrote_as (λ us. (label, x.1) ∷ us) (write_fields cs x.0)) ns
        (as_part t (write_defined t ms) ms) (part_stays t (write_defined t ms) ms is (value_stays t ms is))
        (λ x at. stays_as (λ us. (label, x.1) ∷ us) ns (write_fields cs x.0) (fields_stay cs x.0 at))

    cases_stay : (cs : Cases) (ms : List WrittenScope) → shells ms ≡ ns → Stays ns (write_cases cs ms)
    cases_stay no_case ms is = stays_some ns (ms, []) is
    cases_stay (labelled label payload cs) ms is =
        stays_then (λ x. wrote_as (λ us. (label, x.1) ∷ us) (write_cases cs x.0)) ns (write_payload payload ms)
        (payload_stays payload ms is)
        (λ x at. stays_as (λ us. (label, x.1) ∷ us) ns (write_cases cs x.0) (cases_stay cs x.0 at))

    payload_stays : (p : Payload) (ms : List WrittenScope) → shells ms ≡ ns → Stays ns (write_payload p ms)
    payload_stays absent ms is = stays_some ns (ms, None) is
    payload_stays (present t) ms is =
        stays_as Some ns (as_part t (write_defined t ms) ms)
        (part_stays t (write_defined t ms) ms is (value_stays t ms is))

  params_stay : (ps : List (List ℕ × ValueTree)) (ms : List WrittenScope) → shells ms ≡ ns
      → Stays ns (write_params ps ms)
  unfolding write_params
  params_stay [] ms is = stays_some ns (ms, []) is
  params_stay (p ∷ ps) ms is =
      stays_then (λ x. wrote_as (λ us. (p.0, x.1) ∷ us) (write_params ps x.0)) ns
      (as_part p.1 (write_defined p.1 ms) ms) (part_stays p.1 (write_defined p.1 ms) ms is (value_stays p.1 ms is))
      (λ x at. stays_as (λ us. (p.0, x.1) ∷ us) ns (write_params ps x.0) (params_stay ps x.0 at))

  result_stays : (r : Option ValueTree) (ms : List WrittenScope) → shells ms ≡ ns → Stays ns (write_result r ms)
  unfolding write_result
  result_stays None ms is = stays_some ns (ms, None) is
  result_stays (Some t) ms is =
      stays_as Some ns (as_part t (write_defined t ms) ms)
      (part_stays t (write_defined t ms) ms is (value_stays t ms is))

  func_stays : (f : FuncTree) (ms : List WrittenScope) → shells ms ≡ ns → Stays ns (write_func f ms)
  unfolding write_func
  func_stays f ms is =
      stays_type ns (option_and_then (λ ps. wrote_as (λ r. tree.Func (record { params = ps.1; result = r }))
      (write_result f.result ps.0)) (write_params f.params ms))
      (stays_then (λ ps. wrote_as (λ r. tree.Func (record { params = ps.1; result = r })) (write_result f.result ps.0))
      ns (write_params f.params ms) (params_stay f.params ms is)
      (λ x at. stays_as (λ r. tree.Func (record { params = x.1; result = r })) ns (write_result f.result x.0)
      (result_stays f.result x.0 at)))

  own_stays : (t : ValueTree) (ms : List WrittenScope) → shells ms ≡ ns → Stays ns (write_own t ms)
  own_stays t ms is = defined_stays (write_defined t ms) (value_stays t ms is)

  place_stays : (n : Name) (b : Bool) (t : ValueTree) (ms : List WrittenScope) → shells ms ≡ ns
      → Stays ns (write_place n b t ms)
  place_stays n true t ms is = type_stays ns (OfPlace n) ms is
  place_stays n false t ms is = own_stays t ms is

  written_named_stays : (p : Option Name) (t : ValueTree) (ms : List WrittenScope) → shells ms ≡ ns
      → Stays ns (write_named p t ms)
  written_named_stays None t ms is = own_stays t ms is
  written_named_stays (Some n) t ms is = place_stays n (knows ms (OfPlace n)) t ms is

  resource_stays : (r : Name) (b : Bool) (ms : List WrittenScope) → shells ms ≡ ns → Stays ns (write_resource r b ms)
  resource_stays r true ms is =
      stays_as description.TyEqual ns (type_index (OfResource r) ms) (type_stays ns (OfResource r) ms is)
  resource_stays r false ms is = stays_some ns (ms, description.TyFresh) is

-- ---- scopes within

-- the scopes around the innermost are these
abbrev pub StaysAround : List Shell → Option (List WrittenScope) → Type 0
StaysAround ns w = (x : List WrittenScope) → w ≡ Some x → around (shells x) ≡ ns

around_some : (ns : List Shell) (x : List WrittenScope) → around (shells x) ≡ ns → StaysAround ns (Some x)
around_some ns x h y e = ap (λ z. around (shells z)) (sym (same_Some x y e)) ∙ h

top_around : (f : WrittenScope → WrittenScope) (ms : List WrittenScope)
    → around (shells (change_top f ms)) ≡ around (shells ms)
unfolding change_top
top_around f [] = refl
top_around f (m ∷ ms) = refl

new_around : (key : Mention) (at : At) (ms : List WrittenScope)
    → around (shells (note_new key at ms)) ≡ around (shells ms)
new_around key at ms = one (knows ms key)
  where
    one : (b : Bool) → around (shells (if b then ms else change_top (with_known key at) ms)) ≡ around (shells ms)
    one true = refl
    one false = top_around (with_known key at) ms

all_around : (ks : KnownThings) (ms : List WrittenScope) → around (shells (note_all ks ms)) ≡ around (shells ms)
unfolding note_all
all_around [] ms = refl
all_around (k ∷ ks) ms = all_around ks (note_new k.0 k.1 ms) ∙ new_around k.0 k.1 ms

here_around : (keys : List Mention) (index : ℕ) (ms : List WrittenScope)
    → around (shells (note_here keys index ms)) ≡ around (shells ms)
unfolding note_here
here_around [] index ms = refl
here_around (k ∷ ks) index ms =
    here_around ks index (change_top (with_known k (Index index)) ms) ∙ top_around (with_known k (Index index)) ms

noted_around : (e : EntityTree) (m : WrittenScope) (ms : List WrittenScope)
    → around (shells (noted e m ms)) ≡ around (shells ms)
noted_around (IsType t) m ms = here_around (names_itself (IsType t)) m.types ms
noted_around (IsFunc f) m ms = here_around [] m.types ms
noted_around (IsInstance es) m ms = all_around (leaves_known m.instances (leaves_in [] es)) ms
noted_around (IsComponent is es) m ms = here_around [] m.types ms
noted_around (IsModule x) m ms = here_around [] m.types ms
noted_around IsOwnModule m ms = here_around [] m.types ms

named_around : (item : List ℕ → TypeRef → DeclTree) (name : List ℕ) (e : EntityTree) (ty : TypeRef)
    (ms : List WrittenScope) → around (shells (with_named item name e ty ms)) ≡ around (shells ms)
unfolding with_named
named_around item name e ty [] = refl
named_around item name e ty (m ∷ ms) = noted_around e m (counted ty (declared (item name ty) m) ∷ ms)

closed_stays : (ns : List Shell) (w : Option (List WrittenScope)) → StaysAround ns w
    → Stays ns (option_and_then closed w)
unfolding closed
closed_stays ns None h = stays_none ns
closed_stays ns (Some []) h = stays_none ns
closed_stays ns (Some (m ∷ ms)) h = stays_some ns (ms, m.decls) (h (m ∷ ms) refl)

then_stays : (type_of : Decls → TypeTree) (ns : List Shell) (w : Option (List WrittenScope)) → StaysAround ns w
    → Stays ns (then_decls type_of w)
then_stays type_of ns w h =
    stays_type ns (wrote_as type_of (option_and_then closed w))
    (stays_as type_of ns (option_and_then closed w) (closed_stays ns w h))

then_around : (ns : List Shell) (f : List WrittenScope → Option (List WrittenScope)) (w : Option (List WrittenScope))
    → StaysAround ns w → ((x : List WrittenScope) → around (shells x) ≡ ns → StaysAround ns (f x))
    → StaysAround ns (option_and_then f w)
then_around ns f None h next = λ x e. absurd cc
then_around ns f (Some y) h next = next y (h y refl)

entered_around : {X : Type 0} (ns : List Shell) (f : List WrittenScope × X → Option (List WrittenScope))
    (top : List Shell) (w : Wrote X) → around top ≡ ns → Stays top w
    → ((x : List WrittenScope × X) → around (shells x.0) ≡ ns → StaysAround ns (f x))
    → StaysAround ns (option_and_then f w)
entered_around ns f top None is h next = λ x e. absurd cc
entered_around ns f top (Some y) is h next = next y (ap around (h.names y refl) ∙ is)

mutual
  unfolding write_entity

  pub entity_stays : (e : EntityTree) (ns : List Shell) (ms : List WrittenScope) → shells ms ≡ ns
      → Stays ns (write_entity e ms)
  entity_stays (IsType t) ns ms is = typed_stays t ns ms is
  entity_stays (IsFunc f) ns ms is = stays_as description.Func ns (write_func f ms) (func_stays ns f ms is)
  entity_stays (IsInstance es) ns ms is =
      stays_as description.Instance ns (then_decls tree.Instance (write_entries tree.Export es (opened 0 ∷ ms)))
      (then_stays tree.Instance ns (write_entries tree.Export es (opened 0 ∷ ms))
      (entries_stay tree.Export es ns (opened 0 ∷ ms) is))
  entity_stays (IsComponent is es) ns ms at =
      stays_as description.Component ns (then_decls tree.Component
      (option_and_then (write_entries tree.Export es) (write_entries tree.Import is (opened 2 ∷ ms))))
      (then_stays tree.Component ns (option_and_then (write_entries tree.Export es)
      (write_entries tree.Import is (opened 2 ∷ ms)))
      (then_around ns (write_entries tree.Export es) (write_entries tree.Import is (opened 2 ∷ ms))
      (entries_stay tree.Import is ns (opened 2 ∷ ms) at) (λ x there. entries_stay tree.Export es ns x there)))
  entity_stays (IsModule m) ns ms is =
      stays_as description.Module ns (on_top (add_core_type (core.Module (write_module m))) ms)
      (stays_top (add_core_type (core.Module (write_module m))) ns ms (λ m. refl) is)
  entity_stays IsOwnModule ns ms is = stays_none ns

  typed_stays : (t : TypeShapeTree) (ns : List Shell) (ms : List WrittenScope) → shells ms ≡ ns
      → Stays ns (write_type t ms)
  typed_stays (Value t) ns ms is =
      stays_as description.TyEqual ns (write_named (place_of t) t ms) (written_named_stays ns (place_of t) t ms is)
  typed_stays (Resource r) ns ms is = resource_stays ns r (knows ms (OfResource r)) ms is
  typed_stays (Func f) ns ms is = stays_as description.TyEqual ns (write_func f ms) (func_stays ns f ms is)
  typed_stays (Instance es) ns ms is =
      stays_as description.TyEqual ns (then_decls tree.Instance (write_entries tree.Export es (opened 1 ∷ ms)))
      (then_stays tree.Instance ns (write_entries tree.Export es (opened 1 ∷ ms))
      (entries_stay tree.Export es ns (opened 1 ∷ ms) is))
  typed_stays (Component is es) ns ms at =
      stays_as description.TyEqual ns (then_decls tree.Component
      (option_and_then (write_entries tree.Export es) (write_entries tree.Import is (opened 2 ∷ ms))))
      (then_stays tree.Component ns (option_and_then (write_entries tree.Export es)
      (write_entries tree.Import is (opened 2 ∷ ms)))
      (then_around ns (write_entries tree.Export es) (write_entries tree.Import is (opened 2 ∷ ms))
      (entries_stay tree.Import is ns (opened 2 ∷ ms) at) (λ x there. entries_stay tree.Export es ns x there)))

  entries_stay : (item : List ℕ → TypeRef → DeclTree) (es : Entries) (ns : List Shell) (ms : List WrittenScope)
      → around (shells ms) ≡ ns → StaysAround ns (write_entries item es ms)
  entries_stay item no_entry ns ms is = around_some ns ms is
  entries_stay item (entry name e mark es) ns ms is =
      entered_around ns (λ x. write_entries item es (with_named item name e x.1 x.0)) (shells ms) (write_entity e ms) is
      (entity_stays e (shells ms) ms refl)
      (λ x at. entries_stay item es ns (with_named item name e x.1 x.0) (named_around item name e x.1 x.0 ∙ at))

-- What scopes know once something is written for an entity is what they knew.
pub written_knows : (e : EntityTree) (ms : List WrittenScope) (x : List WrittenScope × TypeRef)
    → write_entity e ms ≡ Some x → (key : Mention) → knows x.0 key ≡ knows ms key
written_knows e ms x h key =
    knows_is x.0 key ∙ ap (λ ns. known_in ns key) ((entity_stays e (shells ms) ms refl).names x h)
    ∙ sym (knows_is ms key)
