-- What is read into a scope keeps the form, and so does what the scope imports and exports.
use Rattle.std.proofs.Common.{◌≡◌, ◌<◌, ◌+◌, ℕ, suc, Bool, true, false, List, [], ◌∷◌, ◌++◌, length, Option, Some, None, Result, Ok, Err, refl, subst}
use Rattle.std.specs.Prelude.{IfOk, nat_lt, if◌then◌else◌}
use Rattle.std.specs.List.{AllByRecursion}
use Rattle.warg_values.specs.Reading.{◌>>=◌}
use Rattle.comp_format.specs.declared.types.Alias.{Alias}
use Rattle.comp_format.specs.declared.types.Alias.TheVariants as alias
use Rattle.comp_format.specs.declared.types.Arg.{Arg}
use Rattle.comp_format.specs.declared.types.Canon.{Canon}
use Rattle.comp_format.specs.declared.types.Canon.TheVariants as canon
use Rattle.comp_format.specs.declared.types.CanonOption.{CanonOption}
use Rattle.comp_format.specs.declared.types.CanonOption.TheVariants as option
use Rattle.comp_format.specs.declared.types.CoreInstance.{CoreInstance}
use Rattle.comp_format.specs.declared.types.CoreInstance.TheVariants as core_instance
use Rattle.comp_format.specs.declared.types.CoreSort.{CoreSort}
use Rattle.comp_format.specs.declared.types.CoreSort.TheVariants as core
use Rattle.comp_format.specs.declared.types.InstanceItem.{InstanceItem}
use Rattle.comp_format.specs.declared.types.InstanceItem.TheVariants as instance
use Rattle.comp_format.specs.declared.types.Sort.{Sort}
use Rattle.comp_format.specs.declared.types.Sort.TheVariants as sort
use Rattle.comp_format.specs.declared.types.TypeRef.{TypeRef}
use Rattle.comp_format.specs.declared.types.TypeRef.TheVariants as description
use Rattle.comp_format.specs.Definitions as ty
use Rattle.comp_format.specs.Items.{ItemTree, Custom, CoreModule, CoreMade, CoreTy, Component, Instance, Aliased, Ty, Canonical, Import, Export, ExportTree}
use Rattle.comp_entity.specs.Bounds.{ShapeFault, Bounds, Index, DoesNotFit, TooBig, TooDeep, entries_nodes, is_within}
use Rattle.comp_entity.specs.Entity.{Name, made, RecordOf, VariantOf, FlagsOf, EnumOf, TypeShapeTree, Value, Resource, Func, Instance as TypeOfInstances, Component as TypeOfComponents, EntityTree, IsType, IsFunc, IsInstance, IsComponent, IsModule, IsOwnModule, Entries, no_entry, entry, ShapeTree}
use Rattle.comp_entity.specs.Fits.{under, stands as standing_for, fits_with, same_name}
use Rattle.comp_entity.specs.Names.{changing, entity_by, entries_by}
use Rattle.comp_entity.specs.Views.{entries_of}
use Rattle.comp_scope.specs.Aliases.{Outer, outer_scope, may_pass, from_outside, core_scopes, outer_item, outer_alias, as_instance, export_alias, core_alias, aliased}
use Rattle.comp_scope.specs.Canons.{with_option, with_options, lifted, with_canon}
use Rattle.comp_scope.specs.Closing.{closed}
use Rattle.comp_scope.specs.CoreScopes.{core_type_of, as_module, outer_core}
use Rattle.comp_scope.specs.Descriptions.{NewNames, new_brought, new_made, opening, named_by, Described, plainly, described_type, described_func, described_component, described_instance, described, with_brought, with_made, imported, declared_export}
use Rattle.comp_scope.specs.Exports.{is_typed, plain_export, fitted_resource, fitted_place, fitting, exported_as, exported}
use Rattle.comp_scope.specs.Instances.{given, instantiating, arguments_fit, with_names, instance_of, instantiated, members, all_have_bit, with_instance, all_below, core_member, core_members, with_core_instance}
use Rattle.comp_scope.specs.Shape.{Part, Plain, Inner, Parts, nothing, then_part, spaces_after, after, after_part, after_parts, settled, listed, shape_within}
use Rattle.comp_scope.specs.Spaces.{KnownCoreType, OfItem, OfModules, Unknown, Standing, Spaces, Known, nothing_known, at_index, item_or_fault, if_below, is_taken, standing, added, entries_in}
use Rattle.comp_scope.specs.Types.{destroyed, with_spaces, with_type, with_decls, with_decl}
use Rattle.comp_scope.specs.Values.{resource_of, value_of, func_of}
use Rattle.compose_writing.specs.Conditions.{KeepsEntries, KeepsForm, KeepsFunc, KeepsModule, KeepsType, KeepsValue}
use Rattle.compose_form.proofs.ChangeLaws.{entity_kept, entries_kept}
use Rattle.compose_form.proofs.FormLaws.{ArgNamed, DeclKeeps, DeclsKeep, InstanceKeeps, ItemKeeps, PartKeeps, PartsKeep, TypeKeeps}
use Rattle.compose_form.proofs.StandLaws.{AllStand, CoreKeeps, EntryKeeps, KnownKeeps, SpacesKeep, StandingKeeps, added_keeps, all_stand, all_stand_by, core_type_keeps, each_more, entries_keep, index_ok, passed_ok, recounted, refused_ok, standing_keeps, stands, stands_by, then_ok, typed_keeps, under_keeps}
use Rattle.compose_form.proofs.TypeLaws.{core_keeps, func_keeps, outer_core_keeps, value_keeps}

abbrev Anything : {X : Type 0} → X → Type 0
Anything x = Unit {0}

anything : {X : Type 0} (r : Result X ShapeFault) → IfOk r Anything
anything (Ok x) = tt
anything (Err e) = tt

below_ok : {X : Type 0} (P : X → Type 0) (count i : ℕ) (x : X) → P x → IfOk (if_below count i x) P
below_ok P count i x h = passed_ok P (nat_lt i count) Index (Ok x) h

-- ---- descriptions

module_there : (t : KnownCoreType) → CoreKeeps t → IfOk (as_module t) KeepsModule
module_there (OfItem t) h = tt
module_there (OfModules m) h = h
module_there Unknown h = tt

abbrev DescribedKeeps : Described → Type 0
DescribedKeeps d = KeepsForm d.standing.0

func_described : (st : Standing) → StandingKeeps st → IfOk (described_func st) DescribedKeeps
func_described (IsType (Func f), true) h = h
func_described (IsType (Func f), false) h = tt
func_described (IsType (Value t), named) h = tt
func_described (IsType (Resource r), named) h = tt
func_described (IsType (TypeOfInstances es), named) h = tt
func_described (IsType (TypeOfComponents is es), named) h = tt
func_described (IsFunc f, named) h = tt
func_described (IsInstance es, named) h = tt
func_described (IsComponent is es, named) h = tt
func_described (IsModule m, named) h = tt
func_described (IsOwnModule, named) h = tt

named_keeps : (place : Name) (t : TypeShapeTree) → KeepsType t → KeepsType (named_by place t)
named_keeps place (Value (RecordOf None fields)) h = h
named_keeps place (Value (VariantOf None cases)) h = h
named_keeps place (Value (FlagsOf None labels)) h = h
named_keeps place (Value (EnumOf None labels)) h = h
named_keeps place t h = h

type_described : (new : NewNames) (st : Standing) → StandingKeeps st → IfOk (described_type new st) DescribedKeeps
type_described new (IsType t, named) h = named_keeps (new.place 0) t h
type_described new (IsFunc f, named) h = tt
type_described new (IsInstance es, named) h = tt
type_described new (IsComponent is es, named) h = tt
type_described new (IsModule m, named) h = tt
type_described new (IsOwnModule, named) h = tt

component_described : (st : Standing) → StandingKeeps st → IfOk (described_component st) DescribedKeeps
component_described (IsType (TypeOfComponents is es), named) h = h
component_described (IsType (Func f), named) h = tt
component_described (IsType (Value t), named) h = tt
component_described (IsType (Resource r), named) h = tt
component_described (IsType (TypeOfInstances es), named) h = tt
component_described (IsFunc f, named) h = tt
component_described (IsInstance es, named) h = tt
component_described (IsComponent is es, named) h = tt
component_described (IsModule m, named) h = tt
component_described (IsOwnModule, named) h = tt

instance_described : (new : NewNames) (st : Standing) → StandingKeeps st → IfOk (described_instance new st) DescribedKeeps
instance_described new (IsType (TypeOfInstances es), named) h = entries_kept (opening new) 0 es h
instance_described new (IsType (Func f), named) h = tt
instance_described new (IsType (Value t), named) h = tt
instance_described new (IsType (Resource r), named) h = tt
instance_described new (IsType (TypeOfComponents is es), named) h = tt
instance_described new (IsFunc f, named) h = tt
instance_described new (IsInstance es, named) h = tt
instance_described new (IsComponent is es, named) h = tt
instance_described new (IsModule m, named) h = tt
instance_described new (IsOwnModule, named) h = tt

described_keeps : (s : Spaces) (new : NewNames) (ref : TypeRef) → SpacesKeep s → IfOk (described s new ref) DescribedKeeps
unfolding described
described_keeps s new (description.Module i) h = then_ok CoreKeeps DescribedKeeps (at_index s.core_types i) _ (index_ok CoreKeeps s.core_types i h.core_types) (λ t k. then_ok KeepsModule DescribedKeeps (as_module t) _ (module_there t k) (λ m l. l))
described_keeps s new (description.Func i) h = then_ok StandingKeeps DescribedKeeps (at_index s.types i) _ (index_ok StandingKeeps s.types i h.types) func_described
described_keeps s new (description.TyEqual i) h = then_ok StandingKeeps DescribedKeeps (at_index s.types i) _ (index_ok StandingKeeps s.types i h.types) (type_described new)
described_keeps s new description.TyFresh h = tt
described_keeps s new (description.Component i) h = then_ok StandingKeeps DescribedKeeps (at_index s.types i) _ (index_ok StandingKeeps s.types i h.types) component_described
described_keeps s new (description.Instance i) h = then_ok StandingKeeps DescribedKeeps (at_index s.types i) _ (index_ok StandingKeeps s.types i h.types) (instance_described new)

with_spaces_keeps : (k : Known) (s : Spaces) → KnownKeeps k → SpacesKeep s → KnownKeeps (with_spaces k s)
with_spaces_keeps k s h l = record { spaces = l; imports = h.imports; exports = h.exports }

module _ (b : Bounds) where
  brought_keeps : (s : Spaces) (d : Described) → SpacesKeep s → DescribedKeeps d → IfOk (with_brought b s d) SpacesKeep
  brought_keeps s d h k = added_keeps b _ d.standing.0 d.standing.1 (recounted s _ _ _ h) (stands d.standing.0 k)

  made_keeps : (s : Spaces) (d : Described) → SpacesKeep s → DescribedKeeps d → IfOk (with_made b s d) SpacesKeep
  made_keeps s d h k = added_keeps b _ d.standing.0 d.standing.1 (recounted s _ _ _ h) (stands d.standing.0 k)

  imported_keeps : (k : Known) (name : List ℕ) (ref : TypeRef) → KnownKeeps k → 0 < length name → IfOk (imported b k name ref) KnownKeeps
  unfolding imported
  imported_keeps k name ref h n = refused_ok KnownKeeps (is_taken name k.imports) Index _
      (then_ok DescribedKeeps KnownKeeps (described k.spaces (new_brought k.spaces) ref) _ (described_keeps k.spaces (new_brought k.spaces) ref h.spaces) (λ d l.
      then_ok SpacesKeep KnownKeeps (with_brought b k.spaces d) _ (brought_keeps k.spaces d h.spaces l) (λ s m.
      record { spaces = m; imports = each_more EntryKeeps k.imports (name, d.standing) h.imports (n, l); exports = h.exports })))

  export_declared : (k : Known) (name : List ℕ) (ref : TypeRef) → KnownKeeps k → 0 < length name → IfOk (declared_export b k name ref) KnownKeeps
  unfolding declared_export
  export_declared k name ref h n = refused_ok KnownKeeps (is_taken name k.exports) Index _
      (then_ok DescribedKeeps KnownKeeps (described k.spaces (new_made k.spaces) ref) _ (described_keeps k.spaces (new_made k.spaces) ref h.spaces) (λ d l.
      then_ok SpacesKeep KnownKeeps (with_made b k.spaces d) _ (made_keeps k.spaces d h.spaces l) (λ s m.
      record { spaces = m; imports = h.imports; exports = each_more EntryKeeps k.exports (name, d.standing) h.exports (n, l) })))

  -- ---- aliases

  abbrev AroundKeep : List Spaces → Type 0
  AroundKeep around = AllByRecursion SpacesKeep around

  abbrev OuterKeeps : Outer → Type 0
  OuterKeeps o = SpacesKeep o.spaces

  outer_item_keeps : (around : List Spaces) (s : Spaces) (kind : Sort) (count index : ℕ) → AroundKeep around → SpacesKeep s → IfOk (outer_item b around s kind count index) SpacesKeep
  unfolding outer_item
  outer_item_keeps around s kind count index hs h =
      then_ok OuterKeeps SpacesKeep (outer_scope (s ∷ around) count) _ (then_ok SpacesKeep OuterKeeps (at_index (s ∷ around) count) _ (index_ok SpacesKeep (s ∷ around) count (h, hs)) (λ spaces k. k)) (λ outer k.
      then_ok StandingKeeps SpacesKeep (standing outer.spaces kind index) _ (standing_keeps outer.spaces kind index k) (λ e l.
      passed_ok SpacesKeep (may_pass outer.leaves_component e.0) Index _ (added_keeps b s (from_outside outer.distance e.0) e.1 h (stands_by _ 0 e.0 l))))

  core_scopes_keep : (around : List Spaces) → AroundKeep around → AllByRecursion (λ (types : List KnownCoreType). AllByRecursion CoreKeeps types) (core_scopes around)
  core_scopes_keep [] h = tt
  core_scopes_keep (s ∷ around) h = (h.0.core_types, core_scopes_keep around h.1)

  outer_keeps : (around : List Spaces) (s : Spaces) (kind : Sort) (count index : ℕ) → AroundKeep around → SpacesKeep s → IfOk (outer_alias b around s kind count index) SpacesKeep
  unfolding outer_alias
  outer_keeps around s (sort.Core core.Ty) count index hs h =
      then_ok CoreKeeps SpacesKeep (outer_core (core_scopes (s ∷ around)) count index) _ (outer_core_keeps (core_scopes (s ∷ around)) count index (core_scopes_keep (s ∷ around) (h, hs))) (λ t k. core_type_keeps s t h k)
  outer_keeps around s kind count index hs h = outer_item_keeps around s kind count index hs h

  instance_there : (st : Standing) → StandingKeeps st → IfOk (as_instance st) AllStand
  instance_there (IsInstance es, named) h = h
  instance_there (IsType t, named) h = tt
  instance_there (IsFunc f, named) h = tt
  instance_there (IsComponent is es, named) h = tt
  instance_there (IsModule m, named) h = tt
  instance_there (IsOwnModule, named) h = tt

  export_keeps : (s : Spaces) (kind : Sort) (from : ℕ) (name : List ℕ) → SpacesKeep s → IfOk (export_alias b s kind from name) SpacesKeep
  unfolding export_alias
  export_keeps s kind from name h =
      then_ok StandingKeeps SpacesKeep (at_index s.instances from) _ (index_ok StandingKeeps s.instances from h.instances) (λ i k.
      then_ok AllStand SpacesKeep (as_instance i) _ (instance_there i k) (λ es l.
      then_ok StandingKeeps SpacesKeep (item_or_fault (under name es)) _ (under_keeps name es l) (λ e m.
      passed_ok SpacesKeep _ Index _ (added_keeps b s e.0 e.1 h m))))

  core_alias_keeps : (s : Spaces) (kind : CoreSort) → SpacesKeep s → SpacesKeep (core_alias s kind)
  core_alias_keeps s core.Func h = recounted s _ _ _ h
  core_alias_keeps s core.Table h = recounted s _ _ _ h
  core_alias_keeps s core.Memory h = recounted s _ _ _ h
  core_alias_keeps s core.Global h = recounted s _ _ _ h
  core_alias_keeps s core.Ty h = core_type_keeps s Unknown h tt
  core_alias_keeps s core.Module h = record { core_types = h.core_types; modules = each_more StandingKeeps s.modules (IsOwnModule, true) h.modules tt; funcs = h.funcs; types = h.types; components = h.components; instances = h.instances }
  core_alias_keeps s core.Instance h = recounted s _ _ _ h

  aliased_keeps : (around : List Spaces) (s : Spaces) (a : Alias) → AroundKeep around → SpacesKeep s → IfOk (aliased b around s a) SpacesKeep
  unfolding aliased
  aliased_keeps around s (alias.Export kind from name) hs h = export_keeps s kind from name h
  aliased_keeps around s (alias.CoreExport kind from name) hs h = below_ok SpacesKeep s.core.instances from (core_alias s kind) (core_alias_keeps s kind h)
  aliased_keeps around s (alias.Outer kind count index) hs h = outer_keeps around s kind count index hs h

  -- ---- types

  destroyed_keeps : (s : Spaces) (destructor : Option ℕ) → SpacesKeep s → IfOk (destroyed s destructor) SpacesKeep
  destroyed_keeps s None h = h
  destroyed_keeps s (Some f) h = below_ok SpacesKeep s.core.funcs f s h

  pub closed_keeps : (k : Known) → KnownKeeps k → KeepsEntries (closed k).imports × KeepsEntries (closed k).exports
  closed_keeps k h = (entries_kept _ 0 _ (entries_keep k.imports h.imports), entries_kept _ 0 _ (entries_keep k.exports h.exports))

  no_spaces_keep : (is_closed : Bool) → KnownKeeps (nothing_known is_closed)
  no_spaces_keep is_closed = record { spaces = record { core_types = tt; modules = tt; funcs = tt; types = tt; components = tt; instances = tt }; imports = tt; exports = tt }

  mutual
    unfolding with_type with_decls with_decl

    type_keeps : (around : List Spaces) (s : Spaces) (t : ty.TypeTree) → AroundKeep around → SpacesKeep s → TypeKeeps t → IfOk (with_type b around s t) SpacesKeep
    type_keeps around s (ty.Defined d) hs h f = then_ok (λ x. KeepsValue x.0) SpacesKeep (value_of s d) _ (value_keeps s h d f) (λ t k. added_keeps b s (IsType (Value t.0)) t.1 h k)
    type_keeps around s (ty.Func g) hs h f = then_ok (λ x. KeepsFunc x.0) SpacesKeep (func_of s g) _ (func_keeps s h g f) (λ t k. added_keeps b s (IsType (Func t.0)) t.1 h k)
    type_keeps around s (ty.Component ds) hs h f = passed_ok SpacesKeep (is_within b.scopes (suc (length (s ∷ around)))) TooDeep _
        (then_ok KnownKeeps SpacesKeep (with_decls b (s ∷ around) (nothing_known true) ds) _ (decls_keep (s ∷ around) (nothing_known true) ds (h, hs) (no_spaces_keep true) f)
        (λ inner k. added_keeps b s (IsType (TypeOfComponents (closed inner).imports (closed inner).exports)) true h (closed_keeps inner k)))
    type_keeps around s (ty.Instance ds) hs h f = passed_ok SpacesKeep (is_within b.scopes (suc (length (s ∷ around)))) TooDeep _
        (then_ok KnownKeeps SpacesKeep (with_decls b (s ∷ around) (nothing_known false) ds) _ (decls_keep (s ∷ around) (nothing_known false) ds (h, hs) (no_spaces_keep false) f)
        (λ inner k. added_keeps b s (IsType (TypeOfInstances (entries_in inner.exports))) true h (entries_keep inner.exports k.exports)))
    type_keeps around s (ty.Resource destructor) hs h f = then_ok SpacesKeep SpacesKeep (destroyed s destructor) _ (destroyed_keeps s destructor h) (λ t k. added_keeps b _ (IsType (Resource (made t.made.resources))) false (recounted t _ _ _ k) tt)

    decls_keep : (around : List Spaces) (k : Known) (ds : ty.Decls) → AroundKeep around → KnownKeeps k → DeclsKeep ds → IfOk (with_decls b around k ds) KnownKeeps
    decls_keep around k ty.none hs h f = h
    decls_keep around k (ty.more d ds) hs h f = then_ok KnownKeeps KnownKeeps (with_decl b around k d) _ (decl_keeps around k d hs h f.0) (λ next l. decls_keep around next ds hs l f.1)

    decl_keeps : (around : List Spaces) (k : Known) (d : ty.DeclTree) → AroundKeep around → KnownKeeps k → DeclKeeps d → IfOk (with_decl b around k d) KnownKeeps
    decl_keeps around k (ty.CoreTy t) hs h f = then_ok CoreKeeps KnownKeeps (core_type_of b (core_scopes (k.spaces ∷ around)) t) _ (core_keeps b (core_scopes (k.spaces ∷ around)) t (core_scopes_keep (k.spaces ∷ around) (h.spaces, hs)) f)
        (λ t l. with_spaces_keeps k _ h (core_type_keeps k.spaces t h.spaces l))
    decl_keeps around k (ty.Ty t) hs h f = then_ok SpacesKeep KnownKeeps (with_type b around k.spaces t) _ (type_keeps around k.spaces t hs h.spaces f) (λ s l. with_spaces_keeps k s h l)
    decl_keeps around k (ty.Aliased a) hs h f = then_ok SpacesKeep KnownKeeps (aliased b around k.spaces a) _ (aliased_keeps around k.spaces a hs h.spaces) (λ s l. with_spaces_keeps k s h l)
    decl_keeps around k (ty.Import name ref) hs h f = imported_keeps k name ref h f
    decl_keeps around k (ty.Export name ref) hs h f = export_declared k name ref h f

  -- ---- instances

  instance_of_keeps : (s : Spaces) (is es arguments : Entries) → SpacesKeep s → KeepsEntries es → IfOk (instance_of b s is es arguments) SpacesKeep
  unfolding instance_of
  instance_of_keeps s is es arguments h k = passed_ok SpacesKeep (arguments_fit (instantiating s is es arguments) arguments is) DoesNotFit _
      (added_keeps b (with_names s is es) (IsInstance (entries_by (instantiating s is es arguments) 0 es)) true (recounted s _ _ _ h) (all_stand_by (instantiating s is es arguments) 0 es (all_stand es k)))

  instantiated_keeps : (s : Spaces) (arguments : List (List ℕ × Standing)) (st : Standing) → SpacesKeep s → StandingKeeps st → IfOk (instantiated b s arguments st) SpacesKeep
  instantiated_keeps s arguments (IsComponent is es, named) h k = instance_of_keeps s is es (entries_in arguments) h k.1
  instantiated_keeps s arguments (IsInstance es, named) h k = tt
  instantiated_keeps s arguments (IsType t, named) h k = tt
  instantiated_keeps s arguments (IsFunc f, named) h k = tt
  instantiated_keeps s arguments (IsModule m, named) h k = tt
  instantiated_keeps s arguments (IsOwnModule, named) h k = tt

  abbrev MemberKeeps : List ℕ × Standing → Type 0
  MemberKeeps m = (0 < length m.0) × StandingKeeps m.1

  members_keep : (s : Spaces) (so_far : List (List ℕ × Standing)) (ms : List Arg) → SpacesKeep s → AllByRecursion MemberKeeps so_far → AllByRecursion ArgNamed ms → IfOk (members s so_far ms) (λ (found : List (List ℕ × Standing)). AllByRecursion MemberKeeps found)
  unfolding members
  members_keep s so_far [] h k n = k
  members_keep s so_far (m ∷ ms) h k n = refused_ok (λ (found : List (List ℕ × Standing)). AllByRecursion MemberKeeps found) (is_taken m.name so_far) Index _
      (then_ok StandingKeeps _ (standing s m.sort m.index) _ (standing_keeps s m.sort m.index h) (λ e l.
      members_keep s (so_far ++ (m.name, e) ∷ []) ms h (each_more MemberKeeps so_far (m.name, e) k (n.0, l)) n.1))

  members_stand : (ms : List (List ℕ × Standing)) → AllByRecursion MemberKeeps ms → AllStand (entries_in ms)
  members_stand [] h = tt
  members_stand (m ∷ ms) h = (h.0.0, h.0.1, members_stand ms h.1)

  instance_keeps : (s : Spaces) (item : InstanceItem) → SpacesKeep s → InstanceKeeps item → IfOk (with_instance b s item) SpacesKeep
  unfolding with_instance
  instance_keeps s (instance.Instantiate component args) h f =
      then_ok StandingKeeps SpacesKeep (at_index s.components component) _ (index_ok StandingKeeps s.components component h.components) (λ c k.
      then_ok Anything SpacesKeep (given s args) _ (anything (given s args)) (λ arguments l. instantiated_keeps s arguments c h k))
  instance_keeps s (instance.Exports args) h f =
      then_ok (λ (found : List (List ℕ × Standing)). AllByRecursion MemberKeeps found) SpacesKeep (members s [] args) _ (members_keep s [] args h tt f) (λ ms k.
      added_keeps b s (IsInstance (entries_in ms)) (all_have_bit ms) h (members_stand ms k))

  all_below_keeps : (count : ℕ) (args : List (List ℕ × ℕ)) (s : Spaces) → SpacesKeep s → IfOk (all_below count args s) SpacesKeep
  unfolding all_below
  all_below_keeps count [] s h = h
  all_below_keeps count (a ∷ args) s h = then_ok SpacesKeep SpacesKeep (if_below count a.1 s) _ (below_ok SpacesKeep count a.1 s h) (λ t k. all_below_keeps count args t k)

  core_member_keeps : (s : Spaces) (kind : CoreSort) (i : ℕ) → SpacesKeep s → IfOk (core_member s kind i) SpacesKeep
  unfolding core_member
  core_member_keeps s core.Func i h = below_ok SpacesKeep s.core.funcs i s h
  core_member_keeps s core.Table i h = below_ok SpacesKeep s.core.tables i s h
  core_member_keeps s core.Memory i h = below_ok SpacesKeep s.core.memories i s h
  core_member_keeps s core.Global i h = below_ok SpacesKeep s.core.globals i s h
  core_member_keeps s core.Ty i h = then_ok Anything SpacesKeep (at_index s.core_types i) _ (anything (at_index s.core_types i)) (λ t k. h)
  core_member_keeps s core.Module i h = then_ok Anything SpacesKeep (at_index s.modules i) _ (anything (at_index s.modules i)) (λ t k. h)
  core_member_keeps s core.Instance i h = below_ok SpacesKeep s.core.instances i s h

  core_members_keep : (s : Spaces) (ms : List (List ℕ × CoreSort × ℕ)) → SpacesKeep s → IfOk (core_members s ms) SpacesKeep
  unfolding core_members
  core_members_keep s [] h = h
  core_members_keep s (m ∷ ms) h = then_ok SpacesKeep SpacesKeep (core_member s m.1 m.2) _ (core_member_keeps s m.1 m.2 h) (λ t k. core_members_keep t ms k)

  core_instance_keeps : (s : Spaces) (item : CoreInstance) → SpacesKeep s → IfOk (with_core_instance s item) SpacesKeep
  unfolding with_core_instance
  core_instance_keeps s (core_instance.Instantiate m args) h =
      then_ok Anything SpacesKeep (at_index s.modules m) _ (anything (at_index s.modules m)) (λ of k.
      then_ok SpacesKeep SpacesKeep (all_below s.core.instances args s) _ (all_below_keeps s.core.instances args s h) (λ t l. recounted t _ _ _ l))
  core_instance_keeps s (core_instance.Exports ms) h = then_ok SpacesKeep SpacesKeep (core_members s ms) _ (core_members_keep s ms h) (λ t l. recounted t _ _ _ l)

  -- ---- canonical definitions

  option_keeps : (s : Spaces) (o : CanonOption) → SpacesKeep s → IfOk (with_option s o) SpacesKeep
  unfolding with_option
  option_keeps s (option.Encoding code) h = h
  option_keeps s (option.Memory i) h = below_ok SpacesKeep s.core.memories i s h
  option_keeps s (option.Realloc i) h = below_ok SpacesKeep s.core.funcs i s h
  option_keeps s (option.PostReturn i) h = below_ok SpacesKeep s.core.funcs i s h

  options_keep : (s : Spaces) (os : List CanonOption) → SpacesKeep s → IfOk (with_options s os) SpacesKeep
  unfolding with_options
  options_keep s [] h = h
  options_keep s (o ∷ os) h = then_ok SpacesKeep SpacesKeep (with_option s o) _ (option_keeps s o h) (λ t k. options_keep t os k)

  lifted_keeps : (s : Spaces) (st : Standing) → SpacesKeep s → StandingKeeps st → IfOk (lifted b s st) SpacesKeep
  lifted_keeps s (IsType (Func f), named) h k = added_keeps b s (IsFunc f) named h k
  lifted_keeps s (IsType (Value t), named) h k = tt
  lifted_keeps s (IsType (Resource r), named) h k = tt
  lifted_keeps s (IsType (TypeOfInstances es), named) h k = tt
  lifted_keeps s (IsType (TypeOfComponents is es), named) h k = tt
  lifted_keeps s (IsFunc f, named) h k = tt
  lifted_keeps s (IsInstance es, named) h k = tt
  lifted_keeps s (IsComponent is es, named) h k = tt
  lifted_keeps s (IsModule m, named) h k = tt
  lifted_keeps s (IsOwnModule, named) h k = tt

  canon_keeps : (s : Spaces) (c : Canon) → SpacesKeep s → IfOk (with_canon b s c) SpacesKeep
  unfolding with_canon
  canon_keeps s (canon.Lift f options ty) h =
      then_ok SpacesKeep SpacesKeep (if_below s.core.funcs f s) _ (below_ok SpacesKeep s.core.funcs f s h) (λ t k.
      then_ok SpacesKeep SpacesKeep (with_options t options) _ (options_keep t options k) (λ u l.
      then_ok StandingKeeps SpacesKeep (at_index u.types ty) _ (index_ok StandingKeeps u.types ty l.types) (λ st m. lifted_keeps u st l m)))
  canon_keeps s (canon.Lower f options) h =
      then_ok Anything SpacesKeep (at_index s.funcs f) _ (anything (at_index s.funcs f)) (λ of k.
      then_ok SpacesKeep SpacesKeep (with_options s options) _ (options_keep s options h) (λ t l. recounted t _ _ _ l))
  canon_keeps s (canon.ResourceNew ty) h = then_ok Anything SpacesKeep (resource_of s ty) _ (anything (resource_of s ty)) (λ r k. recounted s _ _ _ h)
  canon_keeps s (canon.ResourceDrop ty) h = then_ok Anything SpacesKeep (resource_of s ty) _ (anything (resource_of s ty)) (λ r k. recounted s _ _ _ h)
  canon_keeps s (canon.ResourceRep ty) h = then_ok Anything SpacesKeep (resource_of s ty) _ (anything (resource_of s ty)) (λ r k. recounted s _ _ _ h)

  -- ---- exports

  plain_entity : (e : EntityTree) (named : Bool) → KeepsForm e → IfOk (if named then Ok (plainly e true) else Err Index) DescribedKeeps
  plain_entity e true h = h
  plain_entity e false h = tt

  plain_keeps : (s : Spaces) (st : Standing) → KeepsForm st.0 → IfOk (plain_export s st) DescribedKeeps
  plain_keeps s (IsType (Resource r), named) h = tt
  plain_keeps s (IsType (Value t), named) h = named_keeps (made s.made.places) (Value t) h
  plain_keeps s (IsType (Func f), named) h = h
  plain_keeps s (IsType (TypeOfInstances es), named) h = h
  plain_keeps s (IsType (TypeOfComponents is es), named) h = h
  plain_keeps s (IsFunc f, named) h = plain_entity (IsFunc f) named h
  plain_keeps s (IsInstance es, named) h = plain_entity (IsInstance es) named h
  plain_keeps s (IsComponent is es, named) h = plain_entity (IsComponent is es) named h
  plain_keeps s (IsModule m, named) h = plain_entity (IsModule m) named h
  plain_keeps s (IsOwnModule, named) h = plain_entity IsOwnModule named h

  fitting_keeps : (s : Spaces) (e : Standing) (d : Described) → DescribedKeeps d → IfOk (fitting s e d) DescribedKeeps
  fitting_keeps s e d h =
      let there = standing_for e.0 d.standing.0 in
      let change = changing (fitted_resource s there) (fitted_place s there) in
      passed_ok DescribedKeeps (fits_with same_name e.0 (entity_by change 0 d.standing.0)) DoesNotFit (Ok (record d { standing = (entity_by change 0 d.standing.0, d.standing.1) })) (entity_kept change 0 d.standing.0 h)

  exported_as_keeps : (s : Spaces) (e : Standing) (ref : Option TypeRef) → SpacesKeep s → KeepsForm e.0 → IfOk (exported_as s e ref) DescribedKeeps
  exported_as_keeps s e None h k = plain_keeps s e k
  exported_as_keeps s e (Some ref) h k = then_ok DescribedKeeps DescribedKeeps (described s (new_made s) ref) _ (described_keeps s (new_made s) ref h) (λ d l. fitting_keeps s e d l)

  if_typed : (s : Spaces) (e : Standing) (ref : Option TypeRef) → SpacesKeep s → StandingKeeps e → IfOk (if is_typed e.0 then exported_as s e ref else Err Index) DescribedKeeps
  if_typed s e ref h k = one (is_typed e.0) refl
    where
      one : (t : Bool) → is_typed e.0 ≡ t → IfOk (if t then exported_as s e ref else Err Index) DescribedKeeps
      one true typed = exported_as_keeps s e ref h (typed_keeps e.0 typed k)
      one false typed = tt

  exported_keeps : (k : Known) (e : ExportTree) → KnownKeeps k → 0 < length e.name → IfOk (exported b k e) KnownKeeps
  unfolding exported
  exported_keeps k e h n = refused_ok KnownKeeps (is_taken e.name k.exports) Index _
      (then_ok StandingKeeps KnownKeeps (standing k.spaces e.sort e.index) _ (standing_keeps k.spaces e.sort e.index h.spaces) (λ item l.
      then_ok DescribedKeeps KnownKeeps (if is_typed item.0 then exported_as k.spaces item e.ty else Err Index) _ (if_typed k.spaces item e.ty h.spaces l) (λ d m.
      then_ok SpacesKeep KnownKeeps (with_made b k.spaces d) _ (made_keeps k.spaces d h.spaces m) (λ s o.
      record { spaces = o; imports = h.imports; exports = each_more EntryKeeps k.exports (e.name, d.standing) h.exports (n, m) }))))

  -- ---- parts

  spaces_keep : (around : List Spaces) (s : Spaces) (item : ItemTree) → AroundKeep around → SpacesKeep s → ItemKeeps item → IfOk (spaces_after b around s item) SpacesKeep
  unfolding spaces_after
  spaces_keep around s (Custom name bytes) hs h f = h
  spaces_keep around s (CoreModule bytes) hs h f = record { core_types = h.core_types; modules = each_more StandingKeeps s.modules (IsOwnModule, true) h.modules tt; funcs = h.funcs; types = h.types; components = h.components; instances = h.instances }
  spaces_keep around s (CoreMade item) hs h f = core_instance_keeps s item h
  spaces_keep around s (CoreTy t) hs h f = then_ok CoreKeeps SpacesKeep (core_type_of b (core_scopes (s ∷ around)) t) _ (core_keeps b (core_scopes (s ∷ around)) t (core_scopes_keep (s ∷ around) (h, hs)) f) (λ t k. core_type_keeps s t h k)
  spaces_keep around s (Component bytes) hs h f = tt
  spaces_keep around s (Instance item) hs h f = instance_keeps s item h f
  spaces_keep around s (Aliased a) hs h f = aliased_keeps around s a hs h
  spaces_keep around s (Ty t) hs h f = type_keeps around s t hs h f
  spaces_keep around s (Canonical c) hs h f = canon_keeps s c h
  spaces_keep around s (Import i) hs h f = tt
  spaces_keep around s (Export e) hs h f = tt

  inner_keeps : (around : List Spaces) (k : Known) (item : ItemTree) → AroundKeep around → KnownKeeps k → ItemKeeps item → IfOk (spaces_after b around k.spaces item >>= λ s. Ok (with_spaces k s)) KnownKeeps
  inner_keeps around k item hs h f = then_ok SpacesKeep KnownKeeps (spaces_after b around k.spaces item) _ (spaces_keep around k.spaces item hs h.spaces f) (λ s l. with_spaces_keeps k s h l)

  item_keeps : (around : List Spaces) (k : Known) (item : ItemTree) → AroundKeep around → KnownKeeps k → ItemKeeps item → IfOk (after b around k item) KnownKeeps
  unfolding after
  item_keeps around k (Import i) hs h f = imported_keeps k i.name i.ty h f
  item_keeps around k (Export e) hs h f = exported_keeps k e h f
  item_keeps around k (Custom name bytes) hs h f = inner_keeps around k (Custom name bytes) hs h f
  item_keeps around k (CoreModule bytes) hs h f = inner_keeps around k (CoreModule bytes) hs h f
  item_keeps around k (CoreMade item) hs h f = inner_keeps around k (CoreMade item) hs h f
  item_keeps around k (CoreTy item) hs h f = inner_keeps around k (CoreTy item) hs h f
  item_keeps around k (Component bytes) hs h f = inner_keeps around k (Component bytes) hs h f
  item_keeps around k (Instance item) hs h f = inner_keeps around k (Instance item) hs h f
  item_keeps around k (Aliased item) hs h f = inner_keeps around k (Aliased item) hs h f
  item_keeps around k (Ty item) hs h f = inner_keeps around k (Ty item) hs h f
  item_keeps around k (Canonical item) hs h f = inner_keeps around k (Canonical item) hs h f

  mutual
    unfolding after_part after_parts

    part_keeps : (around : List Spaces) (k : Known) (p : Part) → AroundKeep around → KnownKeeps k → PartKeeps p → IfOk (after_part b around k p) KnownKeeps
    part_keeps around k (Plain item) hs h f = item_keeps around k item hs h f
    part_keeps around k (Inner bytes parts) hs h f = passed_ok KnownKeeps (is_within b.scopes (suc (length (k.spaces ∷ around)))) TooDeep _
        (then_ok KnownKeeps KnownKeeps (after_parts b (k.spaces ∷ around) (nothing_known true) parts) _ (all_keep (k.spaces ∷ around) (nothing_known true) parts (h.spaces, hs) (no_spaces_keep true) f) (λ inner l.
        then_ok SpacesKeep KnownKeeps (added b k.spaces (IsComponent (closed inner).imports (closed inner).exports) true) _ (added_keeps b k.spaces (IsComponent (closed inner).imports (closed inner).exports) true h.spaces (closed_keeps inner l)) (λ s m. with_spaces_keeps k s h m)))

    all_keep : (around : List Spaces) (k : Known) (ps : Parts) → AroundKeep around → KnownKeeps k → PartsKeep ps → IfOk (after_parts b around k ps) KnownKeeps
    all_keep around k nothing hs h f = h
    all_keep around k (then_part p ps) hs h f = then_ok KnownKeeps KnownKeeps (after_part b around k p) _ (part_keeps around k p hs h f.0) (λ next l. all_keep around next ps hs l f.1)

  -- ---- the shape

  listed_keep : (es : Entries) → KeepsEntries es → KeepsEntries (entries_of (listed es))
  listed_keep no_entry h = tt
  listed_keep (entry name e mark es) h = (h.0, entity_kept settled 0 e h.1, listed_keep es h.2)

  abbrev pub ShapeKeeps : ShapeTree → Type 0
  ShapeKeeps s = KeepsEntries (entries_of s.imports) × KeepsEntries (entries_of s.exports)

  pub shape_keeps : (parts : Parts) → PartsKeep parts → IfOk (shape_within b parts) (λ (s : ShapeTree). KeepsEntries (entries_of s.imports) × KeepsEntries (entries_of s.exports))
  unfolding shape_within
  shape_keeps parts f = then_ok KnownKeeps ShapeKeeps (after_parts b [] (nothing_known true) parts) _ (all_keep [] (nothing_known true) parts tt (no_spaces_keep true) f) (λ k h.
      let sides = closed_keeps k h in
      passed_ok ShapeKeeps (is_within b.nodes (entries_nodes (closed k).imports + entries_nodes (closed k).exports)) TooBig _ (listed_keep (closed k).imports sides.0, listed_keep (closed k).exports sides.1))

  pub read_keeps : (parts : Parts) (s : ShapeTree) → PartsKeep parts → shape_within b parts ≡ Ok s → KeepsEntries (entries_of s.imports) × KeepsEntries (entries_of s.exports)
  read_keeps parts s f e = subst (λ (r : Result ShapeTree ShapeFault). IfOk r ShapeKeeps) e (shape_keeps parts f)
