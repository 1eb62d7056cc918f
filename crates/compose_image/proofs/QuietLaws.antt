-- What is written for an entity in front of its import: types and aliases alone, in the outermost scope too.
use Rattle.std.proofs.Common.{◌≡◌, ◌∙◌, ◌⊎◌, inl, inr, ℕ, zero, suc, Bool, true, false, cond, List, [], ◌∷◌, ◌++◌, Option, Some, None, option_and_then, is_some, refl, sym, ap, subst}
use Rattle.std.specs.List.{AllByRecursion}
use Rattle.std.proofs.lemmas.List.{append-nil, append_assoc}
use Rattle.comp_format.specs.declared.types.Sort.TheVariants as sort
use Rattle.comp_format.specs.declared.types.Alias.TheVariants as alias
use Rattle.comp_format.specs.declared.types.DefinedType.{DefinedType}
use Rattle.comp_format.specs.declared.types.TypeRef.{TypeRef}
use Rattle.comp_format.specs.declared.types.TypeRef.TheVariants as description
use Rattle.comp_format.specs.CoreTypes as core
use Rattle.comp_format.specs.Definitions as tree
use Rattle.comp_format.specs.Definitions.{TypeTree, DeclTree, Decls, with_decl}
use Rattle.comp_format.specs.Items.{ItemTree, CoreTy, Ty, Aliased, Import}
use Rattle.comp_entity.specs.Entity.{Name, ValueTree, Primitive, TupleOf, RecordOf, VariantOf, ListOf, FlagsOf, EnumOf, OptionOf, ResultOf, Own, Borrow, ValueTrees, none, more, Cases, no_case, labelled, Payload, absent, present, FuncTree, TypeShapeTree, Value, Resource, Func, Instance, Component, EntityTree, IsType, IsFunc, IsInstance, IsComponent, IsModule, IsOwnModule, Entries, no_entry, entry}
use Rattle.comp_entity.specs.Fits.{place_of}
use Rattle.comp_entity.specs.Names.{Mention, OfResource, OfPlace}
use Rattle.comp_entity.specs.Places.{Path}
use Rattle.compose_writing.specs.Keys.{At, Index, InInstance, KnownThings, known_at, mention_outside}
use Rattle.compose_writing.specs.Scopes.{WrittenScope, Wrote, wrote_as, opened, add_type, add_alias, add_instance, add_core_type, along, index_in, stood, standing, brought, type_index, on_top, then_type, closed, knows, with_known, change_top, declared}
use Rattle.compose_writing.specs.WriteValues.{write_defined, write_parts, write_fields, write_cases, write_payload, write_params, write_result, write_func, then_defined, named_part, as_part}
use Rattle.compose_writing.specs.WriteEntities.{write_entity, write_type, write_entries, then_decls, write_resource, write_place, write_named, with_named, counted, note_new, note_all, note_here, noted}
use Rattle.compose_writing.specs.WriteModules.{write_module}
use Rattle.compose_meaning.specs.Items.{items_for}
use Rattle.compose_image.proofs.ListLaws.{all_append}

-- a type, or an alias of a type or of an instance
abbrev pub IsQuiet : ItemTree → Type 0
IsQuiet (CoreTy t) = Unit {0}
IsQuiet (Ty t) = Unit {0}
IsQuiet (Aliased (alias.Export kind from name)) = (kind ≡ sort.Ty) ⊎ (kind ≡ sort.Instance)
IsQuiet (Aliased (alias.Outer kind count index)) = kind ≡ sort.Ty
IsQuiet _ = ⊥

-- the item of a declaration
abbrev pub item_for : DeclTree → List ItemTree
item_for d = items_for (tree.more d tree.none)

pub one_behind : (ds : Decls) (d : DeclTree) → items_for (with_decl ds d) ≡ items_for ds ++ item_for d
one_behind tree.none d = refl
one_behind (tree.more (tree.CoreTy t) ds) d = ap (λ items. CoreTy t ∷ items) (one_behind ds d)
one_behind (tree.more (tree.Ty t) ds) d = ap (λ items. Ty t ∷ items) (one_behind ds d)
one_behind (tree.more (tree.Aliased a) ds) d = ap (λ items. Aliased a ∷ items) (one_behind ds d)
one_behind (tree.more (tree.Import name ty) ds) d =
    ap (λ items. Import (record { name = name; ty = ty }) ∷ items) (one_behind ds d)
one_behind (tree.more (tree.Export name ty) ds) d = one_behind ds d

-- a scope that holds such items more
pub record Adds (m n : WrittenScope) : Type 0 where
  pub items : List ItemTree
  pub added : items_for n.decls ≡ items_for m.decls ++ items
  pub quiet : AllByRecursion IsQuiet items

adds_none : (m : WrittenScope) → Adds m m
adds_none m = record { items = []; added = sym (append-nil (items_for m.decls)); quiet = tt }

pub adds_on : (m n k : WrittenScope) → Adds m n → Adds n k → Adds m k
adds_on m n k a b = record {
  items = a.items ++ b.items;
  added = b.added ∙ ap (λ items. items ++ b.items) a.added ∙ append_assoc (items_for m.decls) a.items b.items;
  quiet = all_append IsQuiet a.items b.items a.quiet b.quiet;
}

adds_one : (m n : WrittenScope) (d : DeclTree) → n.decls ≡ with_decl m.decls d → AllByRecursion IsQuiet (item_for d)
    → Adds m n
adds_one m n d e quiet = record { items = item_for d; added = ap items_for e ∙ one_behind m.decls d; quiet = quiet }

-- scopes that each hold such items more
abbrev pub Quietly : List WrittenScope → List WrittenScope → Type 0
Quietly [] [] = Unit {0}
Quietly [] (n ∷ ns) = ⊥
Quietly (m ∷ ms) [] = ⊥
Quietly (m ∷ ms) (n ∷ ns) = Adds m n × Quietly ms ns

quiet_here : (ms : List WrittenScope) → Quietly ms ms
quiet_here [] = tt
quiet_here (m ∷ ms) = (adds_none m, quiet_here ms)

quiet_on : (ms ns ks : List WrittenScope) → Quietly ms ns → Quietly ns ks → Quietly ms ks
quiet_on [] [] [] a b = tt
quiet_on [] [] (k ∷ ks) a b = b
quiet_on [] (n ∷ ns) ks a b = absurd a
quiet_on (m ∷ ms) [] ks a b = absurd a
quiet_on (m ∷ ms) (n ∷ ns) [] a b = b
quiet_on (m ∷ ms) (n ∷ ns) (k ∷ ks) a b = (adds_on m n k a.0 b.0, quiet_on ms ns ks a.1 b.1)

-- what is written leaves such scopes, where something is written
abbrev pub QuietTo : {X : Type 0} → List WrittenScope → Wrote X → Type 0
QuietTo ms None = Unit {0}
QuietTo ms (Some x) = Quietly ms x.0

quiet_from : {X : Type 0} (ms ns : List WrittenScope) (w : Wrote X) → Quietly ms ns → QuietTo ns w → QuietTo ms w
quiet_from ms ns None a b = tt
quiet_from ms ns (Some x) a b = quiet_on ms ns x.0 a b

quiet_as : {X Y : Type 0} (f : X → Y) (ms : List WrittenScope) (w : Wrote X) → QuietTo ms w → QuietTo ms (wrote_as f w)
quiet_as f ms None h = tt
quiet_as f ms (Some x) h = h

quiet_then : {X Y : Type 0} (g : List WrittenScope × X → Wrote Y) (ms : List WrittenScope) (w : Wrote X) → QuietTo ms w
    → ((x : List WrittenScope × X) → QuietTo x.0 (g x)) → QuietTo ms (option_and_then g w)
quiet_then g ms None h k = tt
quiet_then g ms (Some x) h k = quiet_from ms x.0 (g x) h (k x)

quiet_top : (f : WrittenScope → WrittenScope × ℕ) (ms : List WrittenScope) → ((m : WrittenScope) → Adds m (f m).0)
    → QuietTo ms (on_top f ms)
unfolding on_top
quiet_top f [] h = tt
quiet_top f (m ∷ ms) h = (h m, quiet_here ms)

quiet_type_behind : (ms : List WrittenScope) (w : Wrote TypeTree) → QuietTo ms w → QuietTo ms (then_type w)
quiet_type_behind ms w h =
    quiet_then (λ x. on_top (add_type x.1) x.0) ms w h
    (λ x. quiet_top (add_type x.1) x.0 (λ m. adds_one m (add_type x.1 m).0 (tree.Ty x.1) refl (tt, tt)))

-- ---- what is known

adds_along : (from : ℕ) (path : Path) (m : WrittenScope) → Adds m (along from path m).0
unfolding along
adds_along from [] m = adds_none m
adds_along from (name ∷ []) m = adds_one m _ (tree.Aliased (alias.Export sort.Ty from name)) refl (inl refl, tt)
adds_along from (name ∷ next ∷ names) m =
    adds_on m (add_instance from name m).0 _
    (adds_one m (add_instance from name m).0 (tree.Aliased (alias.Export sort.Instance from name)) refl (inr refl, tt))
    (adds_along (add_instance from name m).1 (next ∷ names) (add_instance from name m).0)

adds_index : (at : At) (m : WrittenScope) → Adds m (index_in at m).0
adds_index (Index i) m = adds_none m
adds_index (InInstance from path) m = adds_along from path m

quiet_stood : (m : WrittenScope) (ms : List WrittenScope) (further : Wrote (ℕ × ℕ)) (at : Option At)
    → QuietTo ms further → QuietTo (m ∷ ms) (stood m ms further at)
quiet_stood m ms further (Some at) h = (adds_index at m, quiet_here ms)
quiet_stood m ms None None h = tt
quiet_stood m ms (Some x) None h = (adds_none m, h)

quiet_standing : (ms : List WrittenScope) (key : Mention) → QuietTo ms (standing ms key)
unfolding standing
quiet_standing [] key = tt
quiet_standing (m ∷ ms) key =
    quiet_stood m ms _ (known_at m.known key) (by (mention_outside m.width key) (λ k. quiet_standing ms k))
  where
    by : (outside : Option Mention) → ((k : Mention) → QuietTo ms (standing ms k))
        → QuietTo ms (option_and_then (standing ms) outside)
    by None h = tt
    by (Some k) h = h k

quiet_brought : (ms : List WrittenScope) (up i : ℕ) → QuietTo ms (brought ms up i)
unfolding brought
quiet_brought ms zero i = quiet_here ms
quiet_brought ms (suc up) i =
    quiet_top (add_alias (alias.Outer sort.Ty (suc up) i)) ms
    (λ m. adds_one m _ (tree.Aliased (alias.Outer sort.Ty (suc up) i)) refl (refl, tt))

quiet_index : (key : Mention) (ms : List WrittenScope) → QuietTo ms (type_index key ms)
unfolding type_index
quiet_index key ms =
    quiet_then (λ x. brought x.0 x.1.0 x.1.1) ms (standing ms key) (quiet_standing ms key)
    (λ x. quiet_brought x.0 x.1.0 x.1.1)

-- ---- value types

quiet_defined_behind : (ms : List WrittenScope) (w : Wrote DefinedType) → QuietTo ms w → QuietTo ms (then_defined w)
quiet_defined_behind ms w h = quiet_type_behind ms (wrote_as tree.Defined w) (quiet_as tree.Defined ms w h)

quiet_named : (n : Option Name) (own : Wrote DefinedType) (ms : List WrittenScope) → QuietTo ms own
    → QuietTo ms (named_part n own ms)
quiet_named (Some n) own ms h = quiet_as _ ms (type_index (OfPlace n) ms) (quiet_index (OfPlace n) ms)
quiet_named None own ms h = quiet_as _ ms (then_defined own) (quiet_defined_behind ms own h)

quiet_part : (t : ValueTree) (own : Wrote DefinedType) (ms : List WrittenScope) → QuietTo ms own
    → QuietTo ms (as_part t own ms)
quiet_part (Primitive p) own ms h = quiet_here ms
quiet_part t own ms h = quiet_named (place_of t) own ms h

mutual
  unfolding write_defined write_parts write_fields write_cases write_payload

  quiet_defined : (t : ValueTree) (ms : List WrittenScope) → QuietTo ms (write_defined t ms)
  quiet_defined (Primitive p) ms = quiet_here ms
  quiet_defined (TupleOf parts) ms = quiet_as _ ms (write_parts parts ms) (quiet_parts parts ms)
  quiet_defined (RecordOf place fields) ms = quiet_as _ ms (write_fields fields ms) (quiet_fields fields ms)
  quiet_defined (VariantOf place cases) ms = quiet_as _ ms (write_cases cases ms) (quiet_cases cases ms)
  quiet_defined (ListOf t) ms =
      quiet_as _ ms (as_part t (write_defined t ms) ms) (quiet_part t (write_defined t ms) ms (quiet_defined t ms))
  quiet_defined (FlagsOf place labels) ms = quiet_here ms
  quiet_defined (EnumOf place labels) ms = quiet_here ms
  quiet_defined (OptionOf t) ms =
      quiet_as _ ms (as_part t (write_defined t ms) ms) (quiet_part t (write_defined t ms) ms (quiet_defined t ms))
  quiet_defined (ResultOf ok err) ms =
      quiet_then _ ms (write_payload ok ms) (quiet_payload ok ms)
      (λ x. quiet_as _ x.0 (write_payload err x.0) (quiet_payload err x.0))
  quiet_defined (Own r) ms = quiet_as _ ms (type_index (OfResource r) ms) (quiet_index (OfResource r) ms)
  quiet_defined (Borrow r) ms = quiet_as _ ms (type_index (OfResource r) ms) (quiet_index (OfResource r) ms)

  quiet_parts : (ts : ValueTrees) (ms : List WrittenScope) → QuietTo ms (write_parts ts ms)
  quiet_parts none ms = quiet_here ms
  quiet_parts (more t ts) ms =
      quiet_then _ ms (as_part t (write_defined t ms) ms) (quiet_part t (write_defined t ms) ms (quiet_defined t ms))
      (λ x. quiet_as _ x.0 (write_parts ts x.0) (quiet_parts ts x.0))

  quiet_fields : (fields : Cases) (ms : List WrittenScope) → QuietTo ms (write_fields fields ms)
  quiet_fields no_case ms = quiet_here ms
  quiet_fields (labelled label absent fields) ms = tt
  quiet_fields (labelled label (present t) fields) ms =
      quiet_then _ ms (as_part t (write_defined t ms) ms) (quiet_part t (write_defined t ms) ms (quiet_defined t ms))
      (λ x. quiet_as _ x.0 (write_fields fields x.0) (quiet_fields fields x.0))

  quiet_cases : (cases : Cases) (ms : List WrittenScope) → QuietTo ms (write_cases cases ms)
  quiet_cases no_case ms = quiet_here ms
  quiet_cases (labelled label payload cases) ms =
      quiet_then _ ms (write_payload payload ms) (quiet_payload payload ms)
      (λ x. quiet_as _ x.0 (write_cases cases x.0) (quiet_cases cases x.0))

  quiet_payload : (p : Payload) (ms : List WrittenScope) → QuietTo ms (write_payload p ms)
  quiet_payload absent ms = quiet_here ms
  quiet_payload (present t) ms =
      quiet_as _ ms (as_part t (write_defined t ms) ms) (quiet_part t (write_defined t ms) ms (quiet_defined t ms))

quiet_value : (t : ValueTree) (ms : List WrittenScope) → QuietTo ms (as_part t (write_defined t ms) ms)
quiet_value t ms = quiet_part t (write_defined t ms) ms (quiet_defined t ms)

quiet_own : (t : ValueTree) (ms : List WrittenScope) → QuietTo ms (then_defined (write_defined t ms))
quiet_own t ms = quiet_defined_behind ms (write_defined t ms) (quiet_defined t ms)

-- ---- functions

quiet_params : (ps : List (List ℕ × ValueTree)) (ms : List WrittenScope) → QuietTo ms (write_params ps ms)
unfolding write_params
quiet_params [] ms = quiet_here ms
quiet_params (p ∷ ps) ms =
    quiet_then _ ms (as_part p.1 (write_defined p.1 ms) ms) (quiet_value p.1 ms)
    (λ x. quiet_as _ x.0 (write_params ps x.0) (quiet_params ps x.0))

quiet_result : (t : Option ValueTree) (ms : List WrittenScope) → QuietTo ms (write_result t ms)
unfolding write_result
quiet_result None ms = quiet_here ms
quiet_result (Some t) ms = quiet_as _ ms (as_part t (write_defined t ms) ms) (quiet_value t ms)

quiet_func : (f : FuncTree) (ms : List WrittenScope) → QuietTo ms (write_func f ms)
unfolding write_func
quiet_func f ms =
    quiet_type_behind ms _
    (quiet_then _ ms (write_params f.params ms) (quiet_params f.params ms)
    (λ ps. quiet_as _ ps.0 (write_result f.result ps.0) (quiet_result f.result ps.0)))

-- ---- entities

-- Scopes behind an innermost one that is to end hold such items more.
abbrev Behind : List WrittenScope → List WrittenScope → Type 0
Behind ms [] = ⊥
Behind ms (n ∷ ns) = Quietly ms ns

abbrev BehindTo : List WrittenScope → Option (List WrittenScope) → Type 0
BehindTo ms None = Unit {0}
BehindTo ms (Some ns) = Behind ms ns

behind_on : (ms ns ks : List WrittenScope) → Behind ms ns → Quietly ns ks → Behind ms ks
behind_on ms [] ks a b = absurd a
behind_on ms (n ∷ ns) [] a b = absurd b
behind_on ms (n ∷ ns) (k ∷ ks) a b = quiet_on ms ns ks a b.1

behind_then : {X : Type 0} (g : List WrittenScope × X → Option (List WrittenScope)) (ms ns : List WrittenScope)
    (w : Wrote X)
    → Behind ms ns → QuietTo ns w → ((x : List WrittenScope × X) → Behind ms x.0 → BehindTo ms (g x))
    → BehindTo ms (option_and_then g w)
behind_then g ms ns None a h k = tt
behind_then g ms ns (Some x) a h k = k x (behind_on ms ns x.0 a h)

behind_next : (g : List WrittenScope → Option (List WrittenScope)) (ms : List WrittenScope)
    (w : Option (List WrittenScope))
    → BehindTo ms w → ((ns : List WrittenScope) → Behind ms ns → BehindTo ms (g ns)) → BehindTo ms (option_and_then g w)
behind_next g ms None h k = tt
behind_next g ms (Some ns) h k = k ns h

quiet_closed : (ms : List WrittenScope) (w : Option (List WrittenScope)) → BehindTo ms w
    → QuietTo ms (option_and_then closed w)
unfolding closed
quiet_closed ms None h = tt
quiet_closed ms (Some []) h = tt
quiet_closed ms (Some (n ∷ ns)) h = h

quiet_decls : (type_of : Decls → TypeTree) (ms : List WrittenScope) (w : Option (List WrittenScope)) → BehindTo ms w
    → QuietTo ms (then_decls type_of w)
quiet_decls type_of ms w h =
    quiet_type_behind ms (wrote_as type_of (option_and_then closed w))
    (quiet_as type_of ms (option_and_then closed w) (quiet_closed ms w h))

-- what is noted changes what is known in the innermost scope alone
abbrev pub Knowing : List WrittenScope → List WrittenScope → Type 0
Knowing [] ns = ns ≡ []
Knowing (m ∷ ms) [] = ⊥
Knowing (m ∷ ms) (n ∷ ns) = (n.decls ≡ m.decls) × (ns ≡ ms)

pub knowing_here : (ms : List WrittenScope) → Knowing ms ms
knowing_here [] = refl
knowing_here (m ∷ ms) = (refl, refl)

pub knowing_on : (ms ns ks : List WrittenScope) → Knowing ms ns → Knowing ns ks → Knowing ms ks
knowing_on [] [] ks a b = b
knowing_on [] (n ∷ ns) ks a b = absurd cc
knowing_on (m ∷ ms) [] ks a b = absurd a
knowing_on (m ∷ ms) (n ∷ ns) [] a b = b
knowing_on (m ∷ ms) (n ∷ ns) (k ∷ ks) a b = (b.0 ∙ a.0, b.1 ∙ a.1)

knowing_one : (key : Mention) (at : At) (ms : List WrittenScope) → Knowing ms (change_top (with_known key at) ms)
unfolding change_top
knowing_one key at [] = refl
knowing_one key at (m ∷ ms) = (by (is_some (known_at m.known key)), refl)
  where
    by : (b : Bool) → (cond b m (record m { known = m.known ++ (key, at) ∷ [] })).decls ≡ m.decls
    by true = refl
    by false = refl

pub knowing_new : (key : Mention) (at : At) (ms : List WrittenScope) → Knowing ms (note_new key at ms)
knowing_new key at ms = by (knows ms key)
  where
    by : (b : Bool) → Knowing ms (cond b ms (change_top (with_known key at) ms))
    by true = knowing_here ms
    by false = knowing_one key at ms

knowing_all : (ks : KnownThings) (ms : List WrittenScope) → Knowing ms (note_all ks ms)
unfolding note_all
knowing_all [] ms = knowing_here ms
knowing_all (k ∷ ks) ms =
    knowing_on ms (note_new k.0 k.1 ms) _ (knowing_new k.0 k.1 ms) (knowing_all ks (note_new k.0 k.1 ms))

knowing_keys : (keys : List Mention) (index : ℕ) (ms : List WrittenScope) → Knowing ms (note_here keys index ms)
unfolding note_here
knowing_keys [] index ms = knowing_here ms
knowing_keys (key ∷ keys) index ms =
    knowing_on ms (change_top (with_known key (Index index)) ms) _ (knowing_one key (Index index) ms)
    (knowing_keys keys index (change_top (with_known key (Index index)) ms))

pub knowing_noted : (e : EntityTree) (m : WrittenScope) (ms : List WrittenScope) → Knowing ms (noted e m ms)
knowing_noted (IsInstance es) m ms = knowing_all _ ms
knowing_noted e m ms = knowing_keys _ m.types ms

-- a description changes the numbers of a scope alone
pub counted_decls : (ty : TypeRef) (m : WrittenScope) → (counted ty m).decls ≡ m.decls
counted_decls (description.TyEqual i) m = refl
counted_decls description.TyFresh m = refl
counted_decls (description.Instance i) m = refl
counted_decls _ m = refl

behind_known : (ms ns ks : List WrittenScope) → Behind ms ns → Knowing ns ks → Behind ms ks
behind_known ms [] ks a b = absurd a
behind_known ms (n ∷ ns) [] a b = b
behind_known ms (n ∷ ns) (k ∷ ks) a b = subst (Quietly ms) (sym b.1) a

behind_named : (item : List ℕ → TypeRef → DeclTree) (name : List ℕ) (e : EntityTree) (ty : TypeRef)
    (ms ns : List WrittenScope)
    → Behind ms ns → Behind ms (with_named item name e ty ns)
unfolding with_named
behind_named item name e ty ms [] h = absurd h
behind_named item name e ty ms (n ∷ ns) h =
    behind_known ms (counted ty (declared (item name ty) n) ∷ ns) _ h
    (knowing_noted e n (counted ty (declared (item name ty) n) ∷ ns))

quiet_resource : (r : Name) (ms : List WrittenScope) (is_known : Bool) → QuietTo ms (write_resource r is_known ms)
quiet_resource r ms true = quiet_as _ ms (type_index (OfResource r) ms) (quiet_index (OfResource r) ms)
quiet_resource r ms false = quiet_here ms

quiet_place : (n : Name) (t : ValueTree) (ms : List WrittenScope) (is_known : Bool)
    → QuietTo ms (write_place n is_known t ms)
quiet_place n t ms true = quiet_index (OfPlace n) ms
quiet_place n t ms false = quiet_own t ms

quiet_value_type : (n : Option Name) (t : ValueTree) (ms : List WrittenScope) → QuietTo ms (write_named n t ms)
quiet_value_type None t ms = quiet_own t ms
quiet_value_type (Some n) t ms = quiet_place n t ms (knows ms (OfPlace n))

mutual
  unfolding write_entity write_type write_entries

  pub quiet_entity : (e : EntityTree) (ms : List WrittenScope) → QuietTo ms (write_entity e ms)
  quiet_entity (IsType t) ms = quiet_type t ms
  quiet_entity (IsFunc f) ms = quiet_as _ ms (write_func f ms) (quiet_func f ms)
  quiet_entity (IsInstance es) ms =
      quiet_as _ ms _
      (quiet_decls tree.Instance ms (write_entries tree.Export es (opened 0 ∷ ms))
      (behind_entries tree.Export es ms (opened 0 ∷ ms) (quiet_here ms)))
  quiet_entity (IsComponent is es) ms = quiet_as _ ms _ (quiet_decls tree.Component ms _
      (behind_next (write_entries tree.Export es) ms (write_entries tree.Import is (opened 2 ∷ ms))
      (behind_entries tree.Import is ms (opened 2 ∷ ms) (quiet_here ms))
      (λ ns h. behind_entries tree.Export es ms ns h)))
  quiet_entity (IsModule m) ms =
      quiet_as _ ms _
      (quiet_top (add_core_type (core.Module (write_module m))) ms
      (λ n. adds_one n _ (tree.CoreTy (core.Module (write_module m))) refl (tt, tt)))
  quiet_entity IsOwnModule ms = tt

  quiet_type : (t : TypeShapeTree) (ms : List WrittenScope) → QuietTo ms (write_type t ms)
  quiet_type (Value t) ms = quiet_as _ ms (write_named (place_of t) t ms) (quiet_value_type (place_of t) t ms)
  quiet_type (Resource r) ms = quiet_resource r ms (knows ms (OfResource r))
  quiet_type (Func f) ms = quiet_as _ ms (write_func f ms) (quiet_func f ms)
  quiet_type (Instance es) ms =
      quiet_as _ ms _
      (quiet_decls tree.Instance ms (write_entries tree.Export es (opened 1 ∷ ms))
      (behind_entries tree.Export es ms (opened 1 ∷ ms) (quiet_here ms)))
  quiet_type (Component is es) ms = quiet_as _ ms _ (quiet_decls tree.Component ms _
      (behind_next (write_entries tree.Export es) ms (write_entries tree.Import is (opened 2 ∷ ms))
      (behind_entries tree.Import is ms (opened 2 ∷ ms) (quiet_here ms))
      (λ ns h. behind_entries tree.Export es ms ns h)))

  behind_entries : (item : List ℕ → TypeRef → DeclTree) (es : Entries) (ms ns : List WrittenScope) → Behind ms ns
      → BehindTo ms (write_entries item es ns)
  behind_entries item no_entry ms ns h = h
  behind_entries item (entry name e mark es) ms ns h =
      behind_then _ ms ns (write_entity e ns) h (quiet_entity e ns)
      (λ x k. behind_entries item es ms (with_named item name e x.1 x.0) (behind_named item name e x.1 ms x.0 k))
