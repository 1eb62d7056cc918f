-- Items add what may stand in the index spaces of a component, and import and export what can lie in memory.
use Rattle.std.proofs.Common.{◌≡◌, ℕ, true, false, List, [], ◌∷◌, ◌++◌, Ok, Option, Some, None, refl, sym, subst}
use Rattle.std.specs.Prelude.{IfOk, ◌==◌, bytes_eq}
use Rattle.std.specs.List.{AllByRecursion, list_any}
use Rattle.comp_format.specs.declared.types.CoreSort.{CoreSort}
use Rattle.comp_format.specs.declared.types.CoreSort.TheVariants as core
use Rattle.comp_format.specs.declared.types.Sort.{Sort}
use Rattle.comp_format.specs.declared.types.Sort.TheVariants as sort
use Rattle.comp_format.specs.declared.types.TypeRef.{TypeRef}
use Rattle.comp_format.specs.declared.types.TypeRef.TheVariants as description
use Rattle.comp_format.specs.declared.types.Alias.{Alias}
use Rattle.comp_format.specs.declared.types.Alias.TheVariants as alias
use Rattle.comp_format.specs.declared.types.Arg.{Arg}
use Rattle.comp_format.specs.declared.types.InstanceItem.{InstanceItem}
use Rattle.comp_format.specs.declared.types.InstanceItem.TheVariants as instance
use Rattle.comp_format.specs.declared.types.CoreInstance.{CoreInstance}
use Rattle.comp_format.specs.declared.types.CoreInstance.TheVariants as core_instance
use Rattle.comp_format.specs.declared.types.Canon.{Canon}
use Rattle.comp_format.specs.declared.types.Canon.TheVariants as canon
use Rattle.comp_format.specs.declared.types.CanonOption.{CanonOption}
use Rattle.comp_format.specs.declared.types.CanonOption.TheVariants as option
use Rattle.comp_format.specs.Spaces.{space_of}
use Rattle.comp_format.specs.Items.{ExportTree}
use Rattle.comp_entity.specs.Entity as entity
use Rattle.comp_entity.specs.Entity.{Name, TypeShapeTree, EntityTree, Entries, IsType, IsFunc, IsInstance, IsComponent, IsModule, IsOwnModule}
use Rattle.comp_entity.specs.Bounds.{Index, Bounds}
use Rattle.comp_entity.specs.Names.{changing, entity_by, entries_by}
use Rattle.comp_entity.specs.Fits.{under, stands, fits_with, same_name}
use Rattle.comp_scope.specs.Spaces.{KnownCoreType, Unknown, Spaces, Known, Standing, item_or_fault, at_index, if_below, standing, with_core_type, is_taken, sort_of, entries_in}
use Rattle.comp_scope.specs.CoreScopes.{as_module}
use Rattle.comp_scope.specs.Descriptions.{NewNames, new_brought, new_made, opening, named_by, Described, described_type, described_func, described_component, described_instance, described, with_brought, with_made, with_import, with_export, imported, declared_export}
use Rattle.comp_scope.specs.Aliases.{outer_scope, from_outside, may_pass, core_scopes, outer_item, outer_alias, as_instance, export_alias, core_alias, aliased}
use Rattle.comp_scope.specs.CoreScopes.{outer_core}
use Rattle.comp_scope.specs.Instances.{given, instantiating, arguments_fit, with_names, instance_of, instantiated, members, all_have_bit, with_instance, all_below, core_member, core_members, with_core_instance}
use Rattle.comp_scope.specs.Canons.{with_option, with_options, with_one_core_func, lifted, with_canon}
use Rattle.comp_scope.specs.Exports.{is_typed, plain_export, fitted_resource, fitted_place, fitting, exported_as, exported}
use Rattle.comp_scope.specs.Values.{resource_of}
use Rattle.comp_parts.proofs.KeptLaws.{entity_kept, entity_shown}
use Rattle.comp_parts.proofs.WholeLaws.{Lies, AllLie, TypeLies, AreWhole, lying_whole, typed_lies, whole_kept, all_lie_kept, all_whole_kept, under_whole, then_ok, cond_ok, not_ok, at_ok, one_more, StandsWhole, AreWholeSpaces, NamedLies, IsWholeScope, added_whole, NamedWhole, entries_whole}
use Rattle.comp_parts.proofs.ValueLaws.{any_ok}

-- ---- descriptions

abbrev pub DescribesWhole : Described → Type 0
DescribesWhole d = Lies d.standing.0

named_lies : (place : Name) (t : TypeShapeTree) → TypeLies t → TypeLies (named_by place t)
named_lies place (entity.Value (entity.Primitive p)) h = h
named_lies place (entity.Value (entity.TupleOf ts)) h = h
named_lies place (entity.Value (entity.RecordOf None fs)) h = h
named_lies place (entity.Value (entity.RecordOf (Some n) fs)) h = h
named_lies place (entity.Value (entity.VariantOf None cs)) h = h
named_lies place (entity.Value (entity.VariantOf (Some n) cs)) h = h
named_lies place (entity.Value (entity.ListOf t)) h = h
named_lies place (entity.Value (entity.FlagsOf None ls)) h = h
named_lies place (entity.Value (entity.FlagsOf (Some n) ls)) h = h
named_lies place (entity.Value (entity.EnumOf None ls)) h = h
named_lies place (entity.Value (entity.EnumOf (Some n) ls)) h = h
named_lies place (entity.Value (entity.OptionOf t)) h = h
named_lies place (entity.Value (entity.ResultOf ok err)) h = h
named_lies place (entity.Value (entity.Own r)) h = h
named_lies place (entity.Value (entity.Borrow r)) h = h
named_lies place (entity.Resource r) h = h
named_lies place (entity.Func f) h = h
named_lies place (entity.Instance es) h = h
named_lies place (entity.Component is es) h = h

type_ok : (new : NewNames) (e : Standing) → StandsWhole e → IfOk (described_type new e) DescribesWhole
type_ok new (IsType t, named) h = named_lies (new.place 0) t h
type_ok new (IsFunc f, named) h = tt
type_ok new (IsInstance es, named) h = tt
type_ok new (IsComponent is es, named) h = tt
type_ok new (IsModule m, named) h = tt
type_ok new (IsOwnModule, named) h = tt

func_ok : (e : Standing) → StandsWhole e → IfOk (described_func e) DescribesWhole
func_ok (IsType (entity.Value t), named) h = tt
func_ok (IsType (entity.Resource r), named) h = tt
func_ok (IsType (entity.Func f), true) h = (h.0, tt)
func_ok (IsType (entity.Func f), false) h = tt
func_ok (IsType (entity.Instance es), named) h = tt
func_ok (IsType (entity.Component is es), named) h = tt
func_ok (IsFunc f, named) h = tt
func_ok (IsInstance es, named) h = tt
func_ok (IsComponent is es, named) h = tt
func_ok (IsModule m, named) h = tt
func_ok (IsOwnModule, named) h = tt

component_ok : (e : Standing) → StandsWhole e → IfOk (described_component e) DescribesWhole
component_ok (IsType (entity.Value t), named) h = tt
component_ok (IsType (entity.Resource r), named) h = tt
component_ok (IsType (entity.Func f), named) h = tt
component_ok (IsType (entity.Instance es), named) h = tt
component_ok (IsType (entity.Component is es), named) h = h
component_ok (IsFunc f, named) h = tt
component_ok (IsInstance es, named) h = tt
component_ok (IsComponent is es, named) h = tt
component_ok (IsModule m, named) h = tt
component_ok (IsOwnModule, named) h = tt

instance_ok : (new : NewNames) (e : Standing) → StandsWhole e → IfOk (described_instance new e) DescribesWhole
instance_ok new (IsType (entity.Value t), named) h = tt
instance_ok new (IsType (entity.Resource r), named) h = tt
instance_ok new (IsType (entity.Func f), named) h = tt
instance_ok new (IsType (entity.Instance es), named) h = all_lie_kept (opening new) 0 es h
instance_ok new (IsType (entity.Component is es), named) h = tt
instance_ok new (IsFunc f, named) h = tt
instance_ok new (IsInstance es, named) h = tt
instance_ok new (IsComponent is es, named) h = tt
instance_ok new (IsModule m, named) h = tt
instance_ok new (IsOwnModule, named) h = tt

pub described_ok : (s : Spaces) (new : NewNames) (ref : TypeRef) → AreWholeSpaces s → IfOk (described s new ref) DescribesWhole
unfolding described
described_ok s new (description.Module i) h =
    then_ok _ _ (at_index s.core_types i) _ (any_ok (at_index s.core_types i)) (λ t _. then_ok _ _ (as_module t) _ (any_ok (as_module t)) (λ m _. (tt, tt)))
described_ok s new (description.Func i) h = then_ok _ _ (at_index s.types i) described_func (at_ok StandsWhole s.types i h.types) func_ok
described_ok s new (description.TyEqual i) h = then_ok _ _ (at_index s.types i) (described_type new) (at_ok StandsWhole s.types i h.types) (type_ok new)
described_ok s new description.TyFresh h = (tt, tt)
described_ok s new (description.Component i) h = then_ok _ _ (at_index s.types i) described_component (at_ok StandsWhole s.types i h.types) component_ok
described_ok s new (description.Instance i) h = then_ok _ _ (at_index s.types i) (described_instance new) (at_ok StandsWhole s.types i h.types) (instance_ok new)

-- the same spaces with other counts
pub counted : (s : Spaces) → AreWholeSpaces s → (t : Spaces) → t.modules ≡ s.modules → t.funcs ≡ s.funcs → t.types ≡ s.types → t.components ≡ s.components → t.instances ≡ s.instances → AreWholeSpaces t
counted s h t m f y c i = record { modules = back m h.modules; funcs = back f h.funcs; types = back y h.types; components = back c h.components; instances = back i h.instances }
  where
    back : {xs ys : List Standing} → xs ≡ ys → AllByRecursion StandsWhole ys → AllByRecursion StandsWhole xs
    back e k = subst (λ zs. AllByRecursion StandsWhole zs) (sym e) k

brought_ok : (b : Bounds) (s : Spaces) (d : Described) → AreWholeSpaces s → DescribesWhole d → IfOk (with_brought b s d) AreWholeSpaces
brought_ok b s d h w = added_whole b _ d.standing.0 d.standing.1 (counted s h _ refl refl refl refl refl) (lying_whole d.standing.0 w)

made_ok : (b : Bounds) (s : Spaces) (d : Described) → AreWholeSpaces s → DescribesWhole d → IfOk (with_made b s d) AreWholeSpaces
made_ok b s d h w = added_whole b _ d.standing.0 d.standing.1 (counted s h _ refl refl refl refl refl) (lying_whole d.standing.0 w)

import_whole : (k : Known) (name : List ℕ) (e : Standing) (s : Spaces) → IsWholeScope k → Lies e.0 → AreWholeSpaces s → IsWholeScope (with_import k name e s)
import_whole k name e s h w spaces = record { spaces = spaces; imports = one_more NamedLies k.imports (name, e) h.imports w; exports = h.exports }

export_whole : (k : Known) (name : List ℕ) (e : Standing) (s : Spaces) → IsWholeScope k → Lies e.0 → AreWholeSpaces s → IsWholeScope (with_export k name e s)
export_whole k name e s h w spaces = record { spaces = spaces; imports = h.imports; exports = one_more NamedLies k.exports (name, e) h.exports w }

pub imported_ok : (b : Bounds) (k : Known) (name : List ℕ) (ref : TypeRef) → IsWholeScope k → IfOk (imported b k name ref) IsWholeScope
unfolding imported
imported_ok b k name ref h =
    not_ok _ (is_taken name k.imports) _ _ (then_ok _ _ (described k.spaces (new_brought k.spaces) ref) _ (described_ok k.spaces _ ref h.spaces) (λ d w.
    then_ok _ _ (with_brought b k.spaces d) _ (brought_ok b k.spaces d h.spaces w) (λ s spaces. import_whole k name d.standing s h w spaces)))

pub declared_ok : (b : Bounds) (k : Known) (name : List ℕ) (ref : TypeRef) → IsWholeScope k → IfOk (declared_export b k name ref) IsWholeScope
unfolding declared_export
declared_ok b k name ref h =
    not_ok _ (is_taken name k.exports) _ _ (then_ok _ _ (described k.spaces (new_made k.spaces) ref) _ (described_ok k.spaces _ ref h.spaces) (λ d w.
    then_ok _ _ (with_made b k.spaces d) _ (made_ok b k.spaces d h.spaces w) (λ s spaces. export_whole k name d.standing s h w spaces)))

-- ---- exports of a component

standing_ok : (s : Spaces) (kind : Sort) (i : ℕ) → AreWholeSpaces s → IfOk (standing s kind i) StandsWhole
standing_ok s (sort.Core core.Module) i h = at_ok StandsWhole s.modules i h.modules
standing_ok s (sort.Core core.Func) i h = tt
standing_ok s (sort.Core core.Table) i h = tt
standing_ok s (sort.Core core.Memory) i h = tt
standing_ok s (sort.Core core.Global) i h = tt
standing_ok s (sort.Core core.Ty) i h = tt
standing_ok s (sort.Core core.Instance) i h = tt
standing_ok s sort.Func i h = at_ok StandsWhole s.funcs i h.funcs
standing_ok s sort.Ty i h = at_ok StandsWhole s.types i h.types
standing_ok s sort.Component i h = at_ok StandsWhole s.components i h.components
standing_ok s sort.Instance i h = at_ok StandsWhole s.instances i h.instances

plain_ok : (s : Spaces) (e : Standing) → Lies e.0 → IfOk (plain_export s e) DescribesWhole
plain_ok s (IsType (entity.Value t), named) h = named_lies _ (entity.Value t) h
plain_ok s (IsType (entity.Resource r), named) h = h
plain_ok s (IsType (entity.Func f), named) h = h
plain_ok s (IsType (entity.Instance es), named) h = h
plain_ok s (IsType (entity.Component is es), named) h = h
plain_ok s (IsFunc f, named) h = cond_ok _ named _ _ (λ _. h)
plain_ok s (IsInstance es, named) h = cond_ok _ named _ _ (λ _. h)
plain_ok s (IsComponent is es, named) h = cond_ok _ named _ _ (λ _. h)
plain_ok s (IsModule m, named) h = cond_ok _ named _ _ (λ _. h)
plain_ok s (IsOwnModule, named) h = cond_ok _ named _ _ (λ _. h)

fitting_ok : (s : Spaces) (e : Standing) (d : Described) → DescribesWhole d → IfOk (fitting s e d) DescribesWhole
fitting_ok s e d h =
    let there = stands e.0 d.standing.0 in
    let c = changing (fitted_resource s there) (fitted_place s there) in
    cond_ok _ (fits_with same_name e.0 (entity_by c 0 d.standing.0)) _ _ (λ _. (entity_kept c 0 d.standing.0 h.0, entity_shown c 0 d.standing.0 h.1))

exported_as_ok : (s : Spaces) (e : Standing) (ref : Option TypeRef) → AreWholeSpaces s → Lies e.0 → IfOk (exported_as s e ref) DescribesWhole
exported_as_ok s e None h w = plain_ok s e w
exported_as_ok s e (Some ref) h w = then_ok _ _ (described s (new_made s) ref) _ (described_ok s _ ref h) (λ d v. fitting_ok s e d v)

pub exported_ok : (b : Bounds) (k : Known) (e : ExportTree) → IsWholeScope k → IfOk (exported b k e) IsWholeScope
unfolding exported
exported_ok b k e h =
    not_ok _ (is_taken e.name k.exports) _ _ (then_ok _ _ (standing k.spaces e.sort e.index) _ (standing_ok k.spaces e.sort e.index h.spaces) (λ item w.
    then_ok _ _ _ _ (cond_ok _ (is_typed item.0) (exported_as k.spaces item e.ty) Index (λ typed. exported_as_ok k.spaces item e.ty h.spaces (typed_lies item.0 typed w))) (λ d v.
    then_ok _ _ (with_made b k.spaces d) _ (made_ok b k.spaces d h.spaces v) (λ s spaces. export_whole k e.name d.standing s h v spaces))))

-- ---- aliases

outer_ok : (scopes : List Spaces) (count : ℕ) → AllByRecursion AreWholeSpaces scopes → IfOk (outer_scope scopes count) (λ o. AreWholeSpaces o.spaces)
outer_ok scopes count h = then_ok _ _ (at_index scopes count) _ (at_ok AreWholeSpaces scopes count h) (λ s w. w)

outer_item_ok : (b : Bounds) (around : List Spaces) (s : Spaces) (kind : Sort) (count index : ℕ) → AllByRecursion AreWholeSpaces around → AreWholeSpaces s → IfOk (outer_item b around s kind count index) AreWholeSpaces
unfolding outer_item
outer_item_ok b around s kind count index hs h =
    then_ok _ _ (outer_scope (s ∷ around) count) _ (outer_ok (s ∷ around) count (h, hs)) (λ outer w. then_ok _ _ (standing outer.spaces kind index) _ (standing_ok outer.spaces kind index w) (λ e v.
    cond_ok _ (may_pass outer.leaves_component e.0) _ _ (λ _. added_whole b s (from_outside outer.distance e.0) e.1 h (whole_kept _ 0 e.0 v))))

pub typed_core : (s : Spaces) (t : KnownCoreType) → AreWholeSpaces s → AreWholeSpaces (with_core_type s t)
typed_core s t h = counted s h _ refl refl refl refl refl

outer_alias_ok : (b : Bounds) (around : List Spaces) (s : Spaces) (kind : Sort) (count index : ℕ) → AllByRecursion AreWholeSpaces around → AreWholeSpaces s → IfOk (outer_alias b around s kind count index) AreWholeSpaces
unfolding outer_alias
outer_alias_ok b around s (sort.Core core.Ty) count index hs h = then_ok _ _ (outer_core (core_scopes (s ∷ around)) count index) _ (any_ok _) (λ t _. typed_core s t h)
outer_alias_ok b around s (sort.Core core.Func) count index hs h = outer_item_ok b around s (sort.Core core.Func) count index hs h
outer_alias_ok b around s (sort.Core core.Table) count index hs h = outer_item_ok b around s (sort.Core core.Table) count index hs h
outer_alias_ok b around s (sort.Core core.Memory) count index hs h = outer_item_ok b around s (sort.Core core.Memory) count index hs h
outer_alias_ok b around s (sort.Core core.Global) count index hs h = outer_item_ok b around s (sort.Core core.Global) count index hs h
outer_alias_ok b around s (sort.Core core.Module) count index hs h = outer_item_ok b around s (sort.Core core.Module) count index hs h
outer_alias_ok b around s (sort.Core core.Instance) count index hs h = outer_item_ok b around s (sort.Core core.Instance) count index hs h
outer_alias_ok b around s sort.Func count index hs h = outer_item_ok b around s sort.Func count index hs h
outer_alias_ok b around s sort.Ty count index hs h = outer_item_ok b around s sort.Ty count index hs h
outer_alias_ok b around s sort.Component count index hs h = outer_item_ok b around s sort.Component count index hs h
outer_alias_ok b around s sort.Instance count index hs h = outer_item_ok b around s sort.Instance count index hs h

as_instance_ok : (e : Standing) → StandsWhole e → IfOk (as_instance e) AreWhole
as_instance_ok (IsType t, named) h = tt
as_instance_ok (IsFunc f, named) h = tt
as_instance_ok (IsInstance es, named) h = h
as_instance_ok (IsComponent is es, named) h = tt
as_instance_ok (IsModule m, named) h = tt
as_instance_ok (IsOwnModule, named) h = tt

export_alias_ok : (b : Bounds) (s : Spaces) (kind : Sort) (from : ℕ) (name : List ℕ) → AreWholeSpaces s → IfOk (export_alias b s kind from name) AreWholeSpaces
unfolding export_alias
export_alias_ok b s kind from name h =
    then_ok _ _ (at_index s.instances from) _ (at_ok StandsWhole s.instances from h.instances) (λ i w. then_ok _ _ (as_instance i) _ (as_instance_ok i w) (λ es ws.
    then_ok _ _ (item_or_fault (under name es)) _ (under_whole name es ws) (λ e v. cond_ok _ (space_of (sort_of e.0) == space_of kind) _ _ (λ _. added_whole b s e.0 e.1 h v))))

core_alias_whole : (s : Spaces) (kind : CoreSort) → AreWholeSpaces s → AreWholeSpaces (core_alias s kind)
core_alias_whole s core.Func h = counted s h _ refl refl refl refl refl
core_alias_whole s core.Table h = counted s h _ refl refl refl refl refl
core_alias_whole s core.Memory h = counted s h _ refl refl refl refl refl
core_alias_whole s core.Global h = counted s h _ refl refl refl refl refl
core_alias_whole s core.Ty h = typed_core s Unknown h
core_alias_whole s core.Module h = record { modules = one_more StandsWhole s.modules (IsOwnModule, true) h.modules tt; funcs = h.funcs; types = h.types; components = h.components; instances = h.instances }
core_alias_whole s core.Instance h = counted s h _ refl refl refl refl refl

pub below_ok : {X : Type 0} (P : X → Type 0) (count i : ℕ) (x : X) → P x → IfOk (if_below count i x) P
below_ok P count i x p = cond_ok P _ (Ok x) Index (λ _. p)

pub aliased_ok : (b : Bounds) (around : List Spaces) (s : Spaces) (a : Alias) → AllByRecursion AreWholeSpaces around → AreWholeSpaces s → IfOk (aliased b around s a) AreWholeSpaces
unfolding aliased
aliased_ok b around s (alias.Export kind from name) hs h = export_alias_ok b s kind from name h
aliased_ok b around s (alias.CoreExport kind from name) hs h = below_ok _ s.core.instances from _ (core_alias_whole s kind h)
aliased_ok b around s (alias.Outer kind count index) hs h = outer_alias_ok b around s kind count index hs h

-- ---- instances

given_ok : (s : Spaces) (args : List Arg) → AreWholeSpaces s → IfOk (given s args) (AllByRecursion NamedWhole)
unfolding given
given_ok s [] h = tt
given_ok s (a ∷ args) h =
    then_ok _ _ (standing s a.sort a.index) _ (standing_ok s a.sort a.index h) (λ e w. then_ok _ _ (given s args) _ (given_ok s args h) (λ rest ws.
    not_ok _ (list_any (λ other. bytes_eq a.name other.0) rest) _ _ (w, ws)))

instance_of_ok : (b : Bounds) (s : Spaces) (imports exports arguments : Entries) → AreWholeSpaces s → AllLie exports → IfOk (instance_of b s imports exports arguments) AreWholeSpaces
unfolding instance_of
instance_of_ok b s imports exports arguments h w =
    let change = instantiating s imports exports arguments in
    cond_ok _ (arguments_fit change arguments imports) _ _ (λ _. added_whole b (with_names s imports exports) (IsInstance (entries_by change 0 exports)) true (counted s h _ refl refl refl refl refl) (all_whole_kept change 0 exports (lying_whole (IsInstance exports) w)))

instantiated_ok : (b : Bounds) (s : Spaces) (arguments : List (List ℕ × Standing)) (c : Standing) → AreWholeSpaces s → StandsWhole c → IfOk (instantiated b s arguments c) AreWholeSpaces
instantiated_ok b s arguments (IsType t, named) h w = tt
instantiated_ok b s arguments (IsFunc f, named) h w = tt
instantiated_ok b s arguments (IsInstance es, named) h w = tt
instantiated_ok b s arguments (IsComponent is es, named) h w = instance_of_ok b s is es (entries_in arguments) h w.1
instantiated_ok b s arguments (IsModule m, named) h w = tt
instantiated_ok b s arguments (IsOwnModule, named) h w = tt

members_ok : (s : Spaces) (so_far : List (List ℕ × Standing)) (ms : List Arg) → AreWholeSpaces s → AllByRecursion NamedWhole so_far → IfOk (members s so_far ms) (AllByRecursion NamedWhole)
unfolding members
members_ok s so_far [] h w = w
members_ok s so_far (m ∷ ms) h w =
    not_ok _ (is_taken m.name so_far) _ _ (then_ok _ _ (standing s m.sort m.index) _ (standing_ok s m.sort m.index h) (λ e v. members_ok s (so_far ++ (m.name, e) ∷ []) ms h (one_more NamedWhole so_far (m.name, e) w v)))

pub with_instance_ok : (b : Bounds) (s : Spaces) (i : InstanceItem) → AreWholeSpaces s → IfOk (with_instance b s i) AreWholeSpaces
unfolding with_instance
with_instance_ok b s (instance.Instantiate component args) h =
    then_ok _ _ (at_index s.components component) _ (at_ok StandsWhole s.components component h.components) (λ c w. then_ok _ _ (given s args) _ (any_ok (given s args)) (λ arguments _. instantiated_ok b s arguments c h w))
with_instance_ok b s (instance.Exports args) h =
    then_ok _ _ (members s [] args) _ (members_ok s [] args h tt) (λ ms w. added_whole b s (IsInstance (entries_in ms)) (all_have_bit ms) h (entries_whole ms w))

-- ---- what changes no index space but those of the core items

all_below_ok : (count : ℕ) (args : List (List ℕ × ℕ)) (s : Spaces) → AreWholeSpaces s → IfOk (all_below count args s) AreWholeSpaces
unfolding all_below
all_below_ok count [] s h = h
all_below_ok count (a ∷ args) s h = then_ok _ _ (if_below count a.1 s) _ (below_ok _ count a.1 s h) (λ t w. all_below_ok count args t w)

core_member_ok : (s : Spaces) (kind : CoreSort) (i : ℕ) → AreWholeSpaces s → IfOk (core_member s kind i) AreWholeSpaces
unfolding core_member
core_member_ok s core.Func i h = below_ok _ s.core.funcs i s h
core_member_ok s core.Table i h = below_ok _ s.core.tables i s h
core_member_ok s core.Memory i h = below_ok _ s.core.memories i s h
core_member_ok s core.Global i h = below_ok _ s.core.globals i s h
core_member_ok s core.Ty i h = then_ok _ _ (at_index s.core_types i) _ (any_ok _) (λ t _. h)
core_member_ok s core.Module i h = then_ok _ _ (at_index s.modules i) _ (any_ok _) (λ m _. h)
core_member_ok s core.Instance i h = below_ok _ s.core.instances i s h

core_members_ok : (s : Spaces) (ms : List (List ℕ × CoreSort × ℕ)) → AreWholeSpaces s → IfOk (core_members s ms) AreWholeSpaces
unfolding core_members
core_members_ok s [] h = h
core_members_ok s (m ∷ ms) h = then_ok _ _ (core_member s m.1 m.2) _ (core_member_ok s m.1 m.2 h) (λ t w. core_members_ok t ms w)

pub core_instance_ok : (s : Spaces) (i : CoreInstance) → AreWholeSpaces s → IfOk (with_core_instance s i) AreWholeSpaces
unfolding with_core_instance
core_instance_ok s (core_instance.Instantiate m args) h =
    then_ok _ _ (at_index s.modules m) _ (any_ok _) (λ of _. then_ok _ _ (all_below s.core.instances args s) _ (all_below_ok s.core.instances args s h) (λ t w. counted t w _ refl refl refl refl refl))
core_instance_ok s (core_instance.Exports ms) h = then_ok _ _ (core_members s ms) _ (core_members_ok s ms h) (λ t w. counted t w _ refl refl refl refl refl)

option_ok : (s : Spaces) (o : CanonOption) → AreWholeSpaces s → IfOk (with_option s o) AreWholeSpaces
unfolding with_option
option_ok s (option.Encoding code) h = h
option_ok s (option.Memory i) h = below_ok _ s.core.memories i s h
option_ok s (option.Realloc i) h = below_ok _ s.core.funcs i s h
option_ok s (option.PostReturn i) h = below_ok _ s.core.funcs i s h

options_ok : (s : Spaces) (os : List CanonOption) → AreWholeSpaces s → IfOk (with_options s os) AreWholeSpaces
unfolding with_options
options_ok s [] h = h
options_ok s (o ∷ os) h = then_ok _ _ (with_option s o) _ (option_ok s o h) (λ t w. options_ok t os w)

one_core_func : (s : Spaces) → AreWholeSpaces s → AreWholeSpaces (with_one_core_func s)
one_core_func s h = counted s h _ refl refl refl refl refl

lifted_ok : (b : Bounds) (s : Spaces) (e : Standing) → AreWholeSpaces s → StandsWhole e → IfOk (lifted b s e) AreWholeSpaces
lifted_ok b s (IsType (entity.Value t), named) h w = tt
lifted_ok b s (IsType (entity.Resource r), named) h w = tt
lifted_ok b s (IsType (entity.Func f), named) h w = added_whole b s (IsFunc f) named h w.0
lifted_ok b s (IsType (entity.Instance es), named) h w = tt
lifted_ok b s (IsType (entity.Component is es), named) h w = tt
lifted_ok b s (IsFunc f, named) h w = tt
lifted_ok b s (IsInstance es, named) h w = tt
lifted_ok b s (IsComponent is es, named) h w = tt
lifted_ok b s (IsModule m, named) h w = tt
lifted_ok b s (IsOwnModule, named) h w = tt

pub canon_ok : (b : Bounds) (s : Spaces) (c : Canon) → AreWholeSpaces s → IfOk (with_canon b s c) AreWholeSpaces
unfolding with_canon
canon_ok b s (canon.Lift f options t) h =
    then_ok _ _ (if_below s.core.funcs f s) _ (below_ok _ s.core.funcs f s h) (λ u w. then_ok _ _ (with_options u options) _ (options_ok u options w) (λ v x. then_ok _ _ (at_index v.types t) _ (at_ok StandsWhole v.types t x.types) (λ e y. lifted_ok b v e x y)))
canon_ok b s (canon.Lower f options) h =
    then_ok _ _ (at_index s.funcs f) _ (any_ok _) (λ of _. then_ok _ _ (with_options s options) _ (options_ok s options h) (λ t w. one_core_func t w))
canon_ok b s (canon.ResourceNew t) h = then_ok _ _ (resource_of s t) _ (any_ok _) (λ r _. one_core_func s h)
canon_ok b s (canon.ResourceDrop t) h = then_ok _ _ (resource_of s t) _ (any_ok _) (λ r _. one_core_func s h)
canon_ok b s (canon.ResourceRep t) h = then_ok _ _ (resource_of s t) _ (any_ok _) (λ r _. one_core_func s h)
