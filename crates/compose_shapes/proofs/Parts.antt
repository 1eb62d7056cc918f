-- Instances, exports and nested components that are read into a component mention what may be mentioned there.
use Rattle.std.proofs.Common.{◌+◌, ℕ, suc, Bool, true, false, List, [], ◌∷◌, ◌++◌, length, Option, Some, None, Ok, Err, subst}
use Rattle.std.specs.Prelude.{IfOk, if◌then◌else◌}
use Rattle.std.specs.List.{AllByRecursion, list_any}
use Rattle.std.specs.Str.{bytes_eq}
use Rattle.warg_values.specs.Reading.{◌>>=◌}
use Rattle.comp_format.specs.declared.types.Arg.{Arg}
use Rattle.comp_format.specs.declared.types.Canon.{Canon}
use Rattle.comp_format.specs.declared.types.Canon.TheVariants as canon
use Rattle.comp_format.specs.declared.types.CanonOption.{CanonOption}
use Rattle.comp_format.specs.declared.types.CanonOption.TheVariants as option
use Rattle.comp_format.specs.declared.types.CoreInstance.{CoreInstance}
use Rattle.comp_format.specs.declared.types.CoreInstance.TheVariants as core_instance
use Rattle.comp_format.specs.declared.types.CoreSort.{CoreSort}
use Rattle.comp_format.specs.declared.types.CoreSort.TheVariants as core
use Rattle.comp_format.specs.declared.types.InstanceItem.{InstanceItem}
use Rattle.comp_format.specs.declared.types.InstanceItem.TheVariants as instance
use Rattle.comp_format.specs.declared.types.TypeRef.{TypeRef}
use Rattle.comp_format.specs.Items.{ItemTree, Custom, CoreModule, CoreMade, CoreTy, Component, Instance, Aliased, Ty, Canonical, Import, Export, ExportTree}
use Rattle.comp_entity.specs.Bounds.{Bounds, Index, DoesNotFit, TooDeep, is_within}
use Rattle.comp_entity.specs.Entity.{made, TypeShapeTree, Value, Resource, Func, Instance as TypeOfInstances, Component as TypeOfComponents, EntityTree, IsType, IsFunc, IsInstance, IsComponent, IsModule, IsOwnModule, Entries}
use Rattle.comp_entity.specs.Fits.{Stands, all_stand as all_standing, stands as standing_for, fits_with, same_name}
use Rattle.comp_entity.specs.Names.{Counts, changing, counts_at, entity_by, entries_by, in_entity, in_entries}
use Rattle.comp_scope.specs.Aliases.{core_scopes}
use Rattle.comp_scope.specs.Canons.{with_option, with_options, lifted, with_canon}
use Rattle.comp_scope.specs.Closing.{closed}
use Rattle.comp_scope.specs.CoreScopes.{core_type_of}
use Rattle.comp_scope.specs.Descriptions.{new_made, named_by, Described, plainly, described, with_made}
use Rattle.comp_scope.specs.Exports.{is_typed, plain_export, fitted_resource, fitted_place, fitting, exported_as, exported}
use Rattle.comp_scope.specs.Instances.{given, instantiating, arguments_fit, mentions_of, resource_in, place_in, with_names, instance_of, instantiated, members, all_have_bit, with_instance, all_below, core_member, core_members, with_core_instance}
use Rattle.comp_scope.specs.Shape.{Part, Plain, Inner, Parts, nothing, then_part, spaces_after, after, after_part, after_parts}
use Rattle.comp_scope.specs.Spaces.{Standing, Spaces, Known, nothing_known, at_index, if_below, is_taken, standing, added, entries_in}
use Rattle.comp_scope.specs.Types.{with_spaces}
use Rattle.comp_scope.specs.Values.{resource_of}
use Rattle.compose_left.specs.declared.spots.Thing.{Thing}
use Rattle.compose_needs.specs.Mentioned.{outwards}
use Rattle.compose_shapes.proofs.Formed.{ItemFormed, PartFormed, PartsFormed}
use Rattle.compose_shapes.proofs.Known.{AllGood, Good, IsKnown, Scope, entity_changed, entity_there, entries_changed, entries_there, scope}
use Rattle.compose_shapes.proofs.Mentions.{Further, entries_in as seen_within, outwards-append}
use Rattle.compose_shapes.proofs.Scopes.{AroundGood, Listed, fitted_good, instance_good, made_here}
use Rattle.compose_shapes.proofs.Standing.{SpacesGood, StandingGood, added_good, described_has, entity_of, named_all, named_ordered, recounted, standing_good, with_core, with_module}
use Rattle.compose_shapes.proofs.Things.{back}
use Rattle.compose_shapes.proofs.Tied.{entity_ordered, entries_ordered}
use Rattle.compose_shapes.proofs.Values.{Anything, anything, index_ok, passed_ok, refused_ok, then_ok, together}
use Rattle.compose_shapes.proofs.Reading.{KnownGood, all_more, below_ok, imported_good, nothing_good, spaces_too}
use Rattle.compose_shapes.proofs.Types.{aliased_good, closed_good, type_good}

module _ (b : Bounds) where
  module _ (seen : List Thing) (ss : List Scope) where
    abbrev pub Inside : List Scope
    Inside = scope true seen ∷ ss

    abbrev Spaced : Spaces → Type 0
    Spaced = SpacesGood true seen ss

    abbrev Stood : Standing → Type 0
    Stood = StandingGood Inside

    abbrev Here : Thing → Type 0
    Here = IsKnown Inside

    -- ---- instances

    instance_of_good : (s : Spaces) (is es arguments : Entries) → Spaced s → Good Inside (IsComponent is es)
        → AllByRecursion Here (outwards (in_entries 0 arguments)) → IfOk (instance_of b s is es arguments) Spaced
    unfolding instance_of
    instance_of_good s is es arguments h k a =
        let makes : Counts = counts_at 0 (mentions_of is es) in
        let there : List Stands = all_standing arguments is in
        let parts = subst (AllByRecursion Here) (outwards-append (in_entries 2 is) (in_entries 2 es)) k.0 in
        let mentions = back Here (outwards (in_entries 2 is)) (outwards (in_entries 2 es)) parts in
        let inner = seen_within (Further Here) 0 es (seen_within Here 1 es mentions) in
        passed_ok Spaced (arguments_fit (instantiating s is es arguments) arguments is) DoesNotFit _
        (added_good true seen ss b (with_names s is es) (IsInstance (entries_by (instantiating s is es arguments) 0 es))
        true (recounted true seen ss s _ _ _ h) (
          entries_changed (resource_in s makes there) (place_in s makes there) (λ m. m) (Further (Further Here)) Here
              (instance_good seen ss s there (entries_there Here arguments is a) makes) es inner,
          entries_ordered (resource_in s makes there) (place_in s makes there) (λ m. m) 0 es k.1.1,
        ))

    abbrev EntryGood : List ℕ × Standing → Type 0
    EntryGood e = Stood e.1

    instantiated_good : (s : Spaces) (arguments : Listed) (st : Standing) → Spaced s → Stood st
        → AllByRecursion Here (outwards (in_entries 0 (entries_in arguments)))
        → IfOk (instantiated b s arguments st) Spaced
    instantiated_good s arguments (IsComponent is es, named) h k a =
        instance_of_good s is es (entries_in arguments) h k a
    instantiated_good s arguments (IsInstance es, named) h k a = tt
    instantiated_good s arguments (IsType t, named) h k a = tt
    instantiated_good s arguments (IsFunc f, named) h k a = tt
    instantiated_good s arguments (IsModule m, named) h k a = tt
    instantiated_good s arguments (IsOwnModule, named) h k a = tt

    abbrev Mentions : Listed → Type 0
    Mentions xs = AllByRecursion Here (outwards (in_entries 0 (entries_in xs)))

    given_good : (s : Spaces) (args : List Arg) → Spaced s → IfOk (given s args) Mentions
    unfolding given
    given_good s [] h = tt
    given_good s (a ∷ args) h =
        then_ok Stood Mentions (standing s a.sort a.index) _ (standing_good true seen ss s a.sort a.index h) (λ e k.
        then_ok Mentions Mentions (given s args) _ (given_good s args h) (λ rest l.
        refused_ok Mentions (list_any (λ (other : List ℕ × Standing). bytes_eq a.name other.0) rest) Index
        (Ok ((a.name, e) ∷ rest)) (λ free. together Here (in_entity 0 e.0) (in_entries 0 (entries_in rest)) k.0 l)))

    abbrev Members : Listed → Type 0
    Members xs = AllGood Inside (entries_in xs)

    members_good : (s : Spaces) (so_far : Listed) (ms : List Arg) → Spaced s → Members so_far
        → IfOk (members s so_far ms) Members
    unfolding members
    members_good s so_far [] h k = k
    members_good s so_far (m ∷ ms) h k = refused_ok Members (is_taken m.name so_far) Index _ (λ free.
        then_ok Stood Members (standing s m.sort m.index) _ (standing_good true seen ss s m.sort m.index h) (λ e l.
        members_good s (so_far ++ (m.name, e) ∷ []) ms h (all_more Inside so_far m.name e free k l)))

    with_instance_good : (s : Spaces) (item : InstanceItem) → Spaced s → IfOk (with_instance b s item) Spaced
    unfolding with_instance
    with_instance_good s (instance.Instantiate component args) h =
        then_ok Stood Spaced (at_index s.components component) _ (index_ok Stood s.components component h.components)
        (λ c k.
        then_ok Mentions Spaced (given s args) _ (given_good s args h)
        (λ arguments l. instantiated_good s arguments c h k l))
    with_instance_good s (instance.Exports args) h =
        then_ok Members Spaced (members s [] args) _ (members_good s [] args h (tt, tt))
        (λ ms k. added_good true seen ss b s (IsInstance (entries_in ms)) (all_have_bit ms) h k)

    all_below_good : (count : ℕ) (args : List (List ℕ × ℕ)) (s : Spaces) → Spaced s
        → IfOk (all_below count args s) Spaced
    unfolding all_below
    all_below_good count [] s h = h
    all_below_good count (a ∷ args) s h =
        then_ok Spaced Spaced (if_below count a.1 s) _ (below_ok Spaced count a.1 s h)
        (λ t k. all_below_good count args t k)

    core_member_good : (s : Spaces) (kind : CoreSort) (i : ℕ) → Spaced s → IfOk (core_member s kind i) Spaced
    unfolding core_member
    core_member_good s core.Func i h = below_ok Spaced s.core.funcs i s h
    core_member_good s core.Table i h = below_ok Spaced s.core.tables i s h
    core_member_good s core.Memory i h = below_ok Spaced s.core.memories i s h
    core_member_good s core.Global i h = below_ok Spaced s.core.globals i s h
    core_member_good s core.Ty i h =
        then_ok Anything Spaced (at_index s.core_types i) _ (anything (at_index s.core_types i)) (λ t k. h)
    core_member_good s core.Module i h =
        then_ok Anything Spaced (at_index s.modules i) _ (anything (at_index s.modules i)) (λ t k. h)
    core_member_good s core.Instance i h = below_ok Spaced s.core.instances i s h

    core_members_good : (s : Spaces) (ms : List (List ℕ × CoreSort × ℕ)) → Spaced s → IfOk (core_members s ms) Spaced
    unfolding core_members
    core_members_good s [] h = h
    core_members_good s (m ∷ ms) h =
        then_ok Spaced Spaced (core_member s m.1 m.2) _ (core_member_good s m.1 m.2 h) (λ t k. core_members_good t ms k)

    core_instance_good : (s : Spaces) (item : CoreInstance) → Spaced s → IfOk (with_core_instance s item) Spaced
    unfolding with_core_instance
    core_instance_good s (core_instance.Instantiate m args) h =
        then_ok Anything Spaced (at_index s.modules m) _ (anything (at_index s.modules m)) (λ of k.
        then_ok Spaced Spaced (all_below s.core.instances args s) _ (all_below_good s.core.instances args s h)
        (λ t l. recounted true seen ss t _ _ _ l))
    core_instance_good s (core_instance.Exports ms) h =
        then_ok Spaced Spaced (core_members s ms) _ (core_members_good s ms h) (λ t l. recounted true seen ss t _ _ _ l)

    -- ---- canonical definitions

    option_good : (s : Spaces) (o : CanonOption) → Spaced s → IfOk (with_option s o) Spaced
    unfolding with_option
    option_good s (option.Encoding code) h = h
    option_good s (option.Memory i) h = below_ok Spaced s.core.memories i s h
    option_good s (option.Realloc i) h = below_ok Spaced s.core.funcs i s h
    option_good s (option.PostReturn i) h = below_ok Spaced s.core.funcs i s h

    options_good : (s : Spaces) (os : List CanonOption) → Spaced s → IfOk (with_options s os) Spaced
    unfolding with_options
    options_good s [] h = h
    options_good s (o ∷ os) h =
        then_ok Spaced Spaced (with_option s o) _ (option_good s o h) (λ t k. options_good t os k)

    lifted_good : (s : Spaces) (st : Standing) → Spaced s → Stood st → IfOk (lifted b s st) Spaced
    lifted_good s (IsType (Func f), named) h k = added_good true seen ss b s (IsFunc f) named h (k.0, tt)
    lifted_good s (IsType (Value t), named) h k = tt
    lifted_good s (IsType (Resource r), named) h k = tt
    lifted_good s (IsType (TypeOfInstances es), named) h k = tt
    lifted_good s (IsType (TypeOfComponents is es), named) h k = tt
    lifted_good s (IsFunc f, named) h k = tt
    lifted_good s (IsInstance es, named) h k = tt
    lifted_good s (IsComponent is es, named) h k = tt
    lifted_good s (IsModule m, named) h k = tt
    lifted_good s (IsOwnModule, named) h k = tt

    canon_good : (s : Spaces) (c : Canon) → Spaced s → IfOk (with_canon b s c) Spaced
    unfolding with_canon
    canon_good s (canon.Lift f options ty) h =
        then_ok Spaced Spaced (if_below s.core.funcs f s) _ (below_ok Spaced s.core.funcs f s h) (λ t k.
        then_ok Spaced Spaced (with_options t options) _ (options_good t options k) (λ u l.
        then_ok Stood Spaced (at_index u.types ty) _ (index_ok Stood u.types ty l.types)
        (λ st m. lifted_good u st l m)))
    canon_good s (canon.Lower f options) h =
        then_ok Anything Spaced (at_index s.funcs f) _ (anything (at_index s.funcs f)) (λ of k.
        then_ok Spaced Spaced (with_options s options) _ (options_good s options h)
        (λ t l. recounted true seen ss t _ _ _ l))
    canon_good s (canon.ResourceNew ty) h =
        then_ok Anything Spaced (resource_of s ty) _ (anything (resource_of s ty))
        (λ r k. recounted true seen ss s _ _ _ h)
    canon_good s (canon.ResourceDrop ty) h =
        then_ok Anything Spaced (resource_of s ty) _ (anything (resource_of s ty))
        (λ r k. recounted true seen ss s _ _ _ h)
    canon_good s (canon.ResourceRep ty) h =
        then_ok Anything Spaced (resource_of s ty) _ (anything (resource_of s ty))
        (λ r k. recounted true seen ss s _ _ _ h)

    -- ---- exports

    abbrev DescribedGood : Described → Type 0
    DescribedGood d = Good Inside (entity_of d)

    plain_entity : (e : EntityTree) (named : Bool) → Good Inside e
        → IfOk (if named then Ok (plainly e true) else Err Index) DescribedGood
    plain_entity e true h = h
    plain_entity e false h = tt

    type_exported : (s : Spaces) (t : TypeShapeTree) → Good Inside (IsType t)
        → Good Inside (IsType (named_by (made s.made.places) t))
    type_exported s t h = (
      named_all Here (made s.made.places) t (made_here seen ss true s.made.places) h.0,
      named_ordered
          (made s.made.places) t h.1,
    )

    plain_good : (s : Spaces) (st : Standing) → Stood st → IfOk (plain_export s st) DescribedGood
    plain_good s (IsType (Resource r), named) h = h
    plain_good s (IsType (Value t), named) h = type_exported s (Value t) h
    plain_good s (IsType (Func f), named) h = h
    plain_good s (IsType (TypeOfInstances es), named) h = h
    plain_good s (IsType (TypeOfComponents is es), named) h = h
    plain_good s (IsFunc f, named) h = plain_entity (IsFunc f) named h
    plain_good s (IsInstance es, named) h = plain_entity (IsInstance es) named h
    plain_good s (IsComponent is es, named) h = plain_entity (IsComponent is es) named h
    plain_good s (IsModule m, named) h = plain_entity (IsModule m) named h
    plain_good s (IsOwnModule, named) h = plain_entity IsOwnModule named h

    fitting_good : (s : Spaces) (e : Standing) (d : Described) → Stood e → DescribedGood d
        → IfOk (fitting s e d) DescribedGood
    fitting_good s e d h k =
        let there : List Stands = standing_for e.0 (entity_of d) in
        let asked : EntityTree = entity_by (changing (fitted_resource s there) (fitted_place s there)) 0
        (entity_of d) in
        passed_ok DescribedGood (fits_with same_name e.0 asked) DoesNotFit
        (Ok (record d { standing = (asked, d.standing.1) })) (
          entity_changed (fitted_resource s there) (fitted_place s there) (λ m. m) Here Here
              (fitted_good seen ss s there (entity_there Here e.0 (entity_of d) h.0)) (entity_of d) k.0,
          entity_ordered (fitted_resource s there) (fitted_place s there) (λ m. m) 0 (entity_of d) k.1,
        )

    exported_as_good : (s : Spaces) (e : Standing) (ref : Option TypeRef) → Spaced s → Stood e
        → IfOk (exported_as s e ref) DescribedGood
    exported_as_good s e None h k = plain_good s e k
    exported_as_good s e (Some ref) h k = then_ok DescribedGood DescribedGood (described s (new_made s) ref) _
        (described_has true seen ss (new_made s) Here (λ t l. l) (λ n. made_here seen ss true (s.made.places + n))
        (λ n. made_here seen ss false (s.made.resources + n)) s ref h) (λ d l. fitting_good s e d k l)

  exported_good : (ss : List Scope) (k : Known) (e : ExportTree) → KnownGood true ss k
      → IfOk (exported b k e) (KnownGood true ss)
  unfolding exported
  exported_good ss k e h = refused_ok (KnownGood true ss) (is_taken e.name k.exports) Index _ (λ free.
      then_ok (StandingGood (Inside h.seen ss)) (KnownGood true ss) (standing k.spaces e.sort e.index) _
      (standing_good true h.seen ss k.spaces e.sort e.index h.spaces) (λ item l.
      then_ok (λ d. Good (Inside h.seen ss) (entity_of d)) (KnownGood true ss)
      (if is_typed item.0 then exported_as k.spaces item e.ty else Err Index) _
      (passed_ok (λ d. Good (Inside h.seen ss) (entity_of d)) (is_typed item.0) Index _
      (exported_as_good h.seen ss k.spaces item e.ty h.spaces l)) (λ d m.
      then_ok (SpacesGood true h.seen ss) (KnownGood true ss) (with_made b k.spaces d) _
      (added_good true h.seen ss b _ (entity_of d) d.standing.1 (recounted true h.seen ss k.spaces _ _ _ h.spaces) m)
      (λ s o. record {
        seen = h.seen;
        seen_is = h.seen_is;
        spaces = o;
        imports = h.imports;
        exports = all_more (Inside h.seen ss) k.exports e.name d.standing free h.exports m;
        tied = λ e. absurd cc;
        imports_placed = h.imports_placed;
        exports_placed = λ e. absurd cc;
      }))))

  -- ---- parts

  spaces_good : (seen : List Thing) (ss : List Scope) (around : List Spaces) (s : Spaces) (item : ItemTree)
      → AroundGood ss around → SpacesGood true seen ss s → ItemFormed item
      → IfOk (spaces_after b around s item) (SpacesGood true seen ss)
  unfolding spaces_after
  spaces_good seen ss around s (Custom name bytes) hs h f = h
  spaces_good seen ss around s (CoreModule bytes) hs h f = with_module true seen ss s (IsOwnModule, true) h (tt, tt)
  spaces_good seen ss around s (CoreMade item) hs h f = core_instance_good seen ss s item h
  spaces_good seen ss around s (CoreTy t) hs h f =
      then_ok Anything (SpacesGood true seen ss) (core_type_of b (core_scopes (s ∷ around)) t) _
      (anything (core_type_of b (core_scopes (s ∷ around)) t)) (λ t k. with_core true seen ss s t h)
  spaces_good seen ss around s (Component bytes) hs h f = tt
  spaces_good seen ss around s (Instance item) hs h f = with_instance_good seen ss s item h
  spaces_good seen ss around s (Aliased a) hs h f = aliased_good b true seen ss around s a hs h
  spaces_good seen ss around s (Ty t) hs h f = type_good b true seen ss around s t hs h (λ e. absurd cc) f
  spaces_good seen ss around s (Canonical c) hs h f = canon_good seen ss s c h
  spaces_good seen ss around s (Import i) hs h f = tt
  spaces_good seen ss around s (Export e) hs h f = tt

  inner_good : (ss : List Scope) (around : List Spaces) (k : Known) (item : ItemTree) → AroundGood ss around
      → KnownGood true ss k → ItemFormed item → IfOk (spaces_after b around k.spaces item >>= λ s. Ok (with_spaces k s))
      (KnownGood true ss)
  inner_good ss around k item hs h f =
      then_ok (SpacesGood true h.seen ss) (KnownGood true ss) (spaces_after b around k.spaces item) _
      (spaces_good h.seen ss around k.spaces item hs h.spaces f) (λ s l. spaces_too true ss k h s l)

  item_good : (ss : List Scope) (around : List Spaces) (k : Known) (item : ItemTree) → AroundGood ss around
      → KnownGood true ss k → ItemFormed item → IfOk (after b around k item) (KnownGood true ss)
  unfolding after
  item_good ss around k (Import i) hs h f = imported_good b ss k i.name i.ty h
  item_good ss around k (Export e) hs h f = exported_good ss k e h
  item_good ss around k (Custom name bytes) hs h f = inner_good ss around k (Custom name bytes) hs h f
  item_good ss around k (CoreModule bytes) hs h f = inner_good ss around k (CoreModule bytes) hs h f
  item_good ss around k (CoreMade item) hs h f = inner_good ss around k (CoreMade item) hs h f
  item_good ss around k (CoreTy item) hs h f = inner_good ss around k (CoreTy item) hs h f
  item_good ss around k (Component bytes) hs h f = inner_good ss around k (Component bytes) hs h f
  item_good ss around k (Instance item) hs h f = inner_good ss around k (Instance item) hs h f
  item_good ss around k (Aliased item) hs h f = inner_good ss around k (Aliased item) hs h f
  item_good ss around k (Ty item) hs h f = inner_good ss around k (Ty item) hs h f
  item_good ss around k (Canonical item) hs h f = inner_good ss around k (Canonical item) hs h f

  mutual
    unfolding after_part after_parts

    part_good : (ss : List Scope) (around : List Spaces) (k : Known) (p : Part) → AroundGood ss around
        → KnownGood true ss k → PartFormed p → IfOk (after_part b around k p) (KnownGood true ss)
    part_good ss around k (Plain item) hs h f = item_good ss around k item hs h f
    part_good ss around k (Inner bytes parts) hs h f =
        passed_ok (KnownGood true ss) (is_within b.scopes (suc (length (k.spaces ∷ around)))) TooDeep _
        (then_ok (KnownGood true (Inside h.seen ss)) (KnownGood true ss)
        (after_parts b (k.spaces ∷ around) (nothing_known true) parts) _
        (parts_good (Inside h.seen ss) (k.spaces ∷ around) (nothing_known true) parts (h.spaces, hs)
        (nothing_good true (Inside h.seen ss)) f) (λ inner l.
        then_ok (SpacesGood true h.seen ss) (KnownGood true ss)
        (added b k.spaces (IsComponent (closed inner).imports (closed inner).exports) true) _
        (added_good true h.seen ss b k.spaces (IsComponent (closed inner).imports (closed inner).exports) true h.spaces
        (closed_good b (Inside h.seen ss) inner l)) (λ s m. spaces_too true ss k h s m)))

    pub parts_good : (ss : List Scope) (around : List Spaces) (k : Known) (ps : Parts) → AroundGood ss around
        → KnownGood true ss k → PartsFormed ps → IfOk (after_parts b around k ps) (KnownGood true ss)
    parts_good ss around k nothing hs h f = h
    parts_good ss around k (then_part p ps) hs h f =
        then_ok (KnownGood true ss) (KnownGood true ss) (after_part b around k p) _ (part_good ss around k p hs h f.0)
        (λ next l. parts_good ss around next ps hs l f.1)
