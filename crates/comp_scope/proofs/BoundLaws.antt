-- What is read within bounds is what is read without them, but where a bound is passed.
use Rattle.std.proofs.Common.{◌≡◌, ℕ, Bool, true, false, cond, List, [], ◌∷◌, Result, Ok, Err, refl, ap, subst, inl, inr}
use Rattle.std.specs.Prelude.{◌⊎◌, ◌==◌}
use Rattle.warg_values.specs.Reading.{◌>>=◌}
use Rattle.comp_format.specs.declared.types.CoreSort.TheVariants as core
use Rattle.comp_format.specs.declared.types.Sort.{Sort}
use Rattle.comp_format.specs.declared.types.Sort.TheVariants as sort
use Rattle.comp_format.specs.declared.types.TypeRef.{TypeRef}
use Rattle.comp_format.specs.declared.types.Alias.{Alias}
use Rattle.comp_format.specs.declared.types.Alias.TheVariants as alias
use Rattle.comp_format.specs.declared.types.InstanceItem.{InstanceItem}
use Rattle.comp_format.specs.declared.types.InstanceItem.TheVariants as instance
use Rattle.comp_format.specs.declared.types.Canon.{Canon}
use Rattle.comp_format.specs.declared.types.Canon.TheVariants as canon
use Rattle.comp_format.specs.CoreTypes as core_type
use Rattle.comp_format.specs.Spaces.{space_of}
use Rattle.comp_format.specs.Definitions as ty
use Rattle.comp_format.specs.Items.{ItemTree, ExportTree, Custom, CoreModule, CoreMade, CoreTy, Component, Instance, Aliased, Ty, Canonical, Import, Export}
use Rattle.comp_entity.specs.Entity as entity
use Rattle.comp_entity.specs.Entity.{EntityTree, Entries, Value, IsType, IsFunc, IsInstance, IsComponent, IsModule, IsOwnModule}
use Rattle.comp_entity.specs.Bounds.{ShapeFault, Index, DoesNotFit, TooDeep, TooBig, Bounds, unbounded, is_within, depth_of, entity_nodes, kept}
use Rattle.comp_entity.specs.Names.{entries_by}
use Rattle.comp_entity.specs.Fits.{under}
use Rattle.comp_entity.specs.Views.{Sides}
use Rattle.comp_scope.specs.Spaces.{KnownCoreType, Spaces, Known, Standing, nothing_known, is_taken, added, item_or_fault, at_index, if_below, standing, sort_of}
use Rattle.comp_scope.specs.CoreScopes.{ModuleScope, core_type_of, module_of, with_module_decl, no_module_scope, module_in}
use Rattle.comp_scope.specs.Descriptions.{Described, imported, declared_export, with_brought, with_made}
use Rattle.comp_scope.specs.Aliases.{outer_scope, may_pass, from_outside, outer_item, outer_alias, as_instance, export_alias, aliased}
use Rattle.comp_scope.specs.Types.{with_type, with_decls, with_decl}
use Rattle.comp_scope.specs.Instances.{given, arguments_fit, instantiating, with_names, instance_of, instantiated, with_instance}
use Rattle.comp_scope.specs.Exports.{is_typed, exported_as, exported}
use Rattle.comp_scope.specs.Canons.{with_options, lifted, with_canon}
use Rattle.comp_scope.specs.Shape.{Part, Plain, Inner, Parts, nothing, then_part, spaces_after, after, after_part, after_parts, as_shape, shape_within}

module _ {X : Type 0} where
  -- where the first passes no bound, the second is the same
  abbrev pub Below : Result X ShapeFault → Result X ShapeFault → Type 0
  Below r s = (r ≡ Err TooDeep) ⊎ ((r ≡ Err TooBig) ⊎ (r ≡ s))

  alike : (r : Result X ShapeFault) → Below r r
  alike r = inr (inr refl)

  cond_below : (b : Bool) (x y z w : Result X ShapeFault) → Below x z → Below y w → Below (cond b x y) (cond b z w)
  cond_below true x y z w h k = h
  cond_below false x y z w h k = k

  -- a test of a bound
  deep_below : (b : Bool) (r s : Result X ShapeFault) → Below r s → Below (cond b r (Err TooDeep)) s
  deep_below true r s h = h
  deep_below false r s h = inl refl

  big_below : (b : Bool) (r s : Result X ShapeFault) → Below r s → Below (cond b r (Err TooBig)) s
  big_below true r s h = h
  big_below false r s h = inr (inl refl)

  kept_below : (b : Bounds) (e : EntityTree) (x : X) → Below (kept b e x) (kept unbounded e x)
  kept_below b e x = deep_below (is_within b.depth (depth_of e)) _ _ (big_below (is_within b.nodes (entity_nodes e)) _ _ (alike (Ok x)))

bind_below : {X Y : Type 0} (r s : Result X ShapeFault) (f g : X → Result Y ShapeFault) → Below r s → ((x : X) → Below (f x) (g x)) → Below (r >>= f) (s >>= g)
bind_below (Ok x) s f g (inl deep) next = absurd cc
bind_below (Ok x) s f g (inr (inl big)) next = absurd cc
bind_below (Ok x) s f g (inr (inr same)) next = subst (λ (q : Result _ ShapeFault). Below (f x) (q >>= g)) same (next x)
bind_below (Err fault) s f g (inl deep) next = inl (ap (λ (q : Result _ ShapeFault). q >>= f) deep)
bind_below (Err fault) s f g (inr (inl big)) next = inr (inl (ap (λ (q : Result _ ShapeFault). q >>= f) big))
bind_below (Err fault) s f g (inr (inr same)) next = inr (inr (ap (λ (q : Result _ ShapeFault). q >>= g) same))

-- what follows is bounded
then_below : {X Y : Type 0} (r : Result X ShapeFault) (f g : X → Result Y ShapeFault) → ((x : X) → Below (f x) (g x)) → Below (r >>= f) (r >>= g)
then_below r f g next = bind_below r r f g (alike r) next

-- what stands first is bounded
first_below : {X Y : Type 0} (r s : Result X ShapeFault) (f : X → Result Y ShapeFault) → Below r s → Below (r >>= f) (s >>= f)
first_below r s f h = bind_below r s f f h (λ x. alike (f x))

module _ (b : Bounds) where
  added_below : (s : Spaces) (e : EntityTree) (named : Bool) → Below (added b s e named) (added unbounded s e named)
  unfolding added
  added_below s e named = kept_below b e _

  mutual
    unfolding core_type_of module_of with_module_decl

    core_below : (scopes : List (List KnownCoreType)) (t : core_type.CoreTree) → Below (core_type_of b scopes t) (core_type_of unbounded scopes t)
    core_below scopes (core_type.Func ps rs) = alike _
    core_below scopes (core_type.Module ds) = bind_below _ _ _ _ (module_below scopes no_module_scope ds) (λ m. kept_below b (IsModule (module_in m)) _)

    module_below : (scopes : List (List KnownCoreType)) (m : ModuleScope) (ds : core_type.ModuleDecls) → Below (module_of b scopes m ds) (module_of unbounded scopes m ds)
    module_below scopes m core_type.none = alike _
    module_below scopes m (core_type.more d ds) = bind_below _ _ _ _ (module_decl_below scopes m d) (λ next. module_below scopes next ds)

    module_decl_below : (scopes : List (List KnownCoreType)) (m : ModuleScope) (d : core_type.ModuleDeclTree) → Below (with_module_decl b scopes m d) (with_module_decl unbounded scopes m d)
    module_decl_below scopes m (core_type.Import from name item) = alike _
    module_decl_below scopes m (core_type.CoreTy t) = first_below _ _ _ (core_below (m.types ∷ scopes) t)
    module_decl_below scopes m (core_type.OuterAlias count index) = alike _
    module_decl_below scopes m (core_type.Export name item) = alike _

  brought_below : (s : Spaces) (d : Described) → Below (with_brought b s d) (with_brought unbounded s d)
  brought_below s d = added_below _ d.standing.0 d.standing.1

  made_below : (s : Spaces) (d : Described) → Below (with_made b s d) (with_made unbounded s d)
  made_below s d = added_below _ d.standing.0 d.standing.1

  imported_below : (k : Known) (name : List ℕ) (ref : TypeRef) → Below (imported b k name ref) (imported unbounded k name ref)
  unfolding imported
  imported_below k name ref = cond_below (is_taken name k.imports) _ _ _ _ (alike _) (then_below _ _ _ (λ d. first_below _ _ _ (brought_below k.spaces d)))

  declared_below : (k : Known) (name : List ℕ) (ref : TypeRef) → Below (declared_export b k name ref) (declared_export unbounded k name ref)
  unfolding declared_export
  declared_below k name ref = cond_below (is_taken name k.exports) _ _ _ _ (alike _) (then_below _ _ _ (λ d. first_below _ _ _ (made_below k.spaces d)))

  exported_below : (k : Known) (e : ExportTree) → Below (exported b k e) (exported unbounded k e)
  unfolding exported
  exported_below k e = cond_below (is_taken e.name k.exports) _ _ _ _ (alike _) (then_below (standing k.spaces e.sort e.index) _ _ (λ item. then_below (cond (is_typed item.0) (exported_as k.spaces item e.ty) (Err Index)) _ _ (λ d. first_below _ _ _ (made_below k.spaces d))))

  outer_item_below : (around : List Spaces) (s : Spaces) (kind : Sort) (count index : ℕ) → Below (outer_item b around s kind count index) (outer_item unbounded around s kind count index)
  unfolding outer_item
  outer_item_below around s kind count index =
      then_below (outer_scope (s ∷ around) count) _ _ (λ outer. then_below (standing outer.spaces kind index) _ _ (λ e. cond_below (may_pass outer.leaves_component e.0) _ _ _ _ (added_below s (from_outside outer.distance e.0) e.1) (alike (Err Index))))

  outer_below : (around : List Spaces) (s : Spaces) (kind : Sort) (count index : ℕ) → Below (outer_alias b around s kind count index) (outer_alias unbounded around s kind count index)
  unfolding outer_alias
  outer_below around s (sort.Core core.Ty) count index = alike _
  outer_below around s (sort.Core core.Func) count index = outer_item_below around s (sort.Core core.Func) count index
  outer_below around s (sort.Core core.Table) count index = outer_item_below around s (sort.Core core.Table) count index
  outer_below around s (sort.Core core.Memory) count index = outer_item_below around s (sort.Core core.Memory) count index
  outer_below around s (sort.Core core.Global) count index = outer_item_below around s (sort.Core core.Global) count index
  outer_below around s (sort.Core core.Module) count index = outer_item_below around s (sort.Core core.Module) count index
  outer_below around s (sort.Core core.Instance) count index = outer_item_below around s (sort.Core core.Instance) count index
  outer_below around s sort.Func count index = outer_item_below around s sort.Func count index
  outer_below around s sort.Ty count index = outer_item_below around s sort.Ty count index
  outer_below around s sort.Component count index = outer_item_below around s sort.Component count index
  outer_below around s sort.Instance count index = outer_item_below around s sort.Instance count index

  export_alias_below : (s : Spaces) (kind : Sort) (from : ℕ) (name : List ℕ) → Below (export_alias b s kind from name) (export_alias unbounded s kind from name)
  unfolding export_alias
  export_alias_below s kind from name =
      then_below (at_index s.instances from) _ _ (λ i. then_below (as_instance i) _ _ (λ es. then_below (item_or_fault (under name es)) _ _ (λ e. cond_below (space_of (sort_of e.0) == space_of kind) _ _ _ _ (added_below s e.0 e.1) (alike (Err Index)))))

  aliased_below : (around : List Spaces) (s : Spaces) (a : Alias) → Below (aliased b around s a) (aliased unbounded around s a)
  unfolding aliased
  aliased_below around s (alias.Export kind from name) = export_alias_below s kind from name
  aliased_below around s (alias.CoreExport kind from name) = alike _
  aliased_below around s (alias.Outer kind count index) = outer_below around s kind count index

  mutual
    unfolding with_type with_decls with_decl

    type_below : (around : List Spaces) (s : Spaces) (t : ty.TypeTree) → Below (with_type b around s t) (with_type unbounded around s t)
    type_below around s (ty.Defined d) = then_below _ _ _ (λ t. added_below s (IsType (Value t.0)) t.1)
    type_below around s (ty.Func f) = then_below _ _ _ (λ t. added_below s (IsType (entity.Func t.0)) t.1)
    type_below around s (ty.Component ds) = deep_below _ _ _ (bind_below _ _ _ _ (decls_below (s ∷ around) (nothing_known true) ds) (λ inner. added_below s _ true))
    type_below around s (ty.Instance ds) = deep_below _ _ _ (bind_below _ _ _ _ (decls_below (s ∷ around) (nothing_known false) ds) (λ inner. added_below s _ true))
    type_below around s (ty.Resource destructor) = then_below _ _ _ (λ t. added_below _ _ false)

    decls_below : (around : List Spaces) (k : Known) (ds : ty.Decls) → Below (with_decls b around k ds) (with_decls unbounded around k ds)
    decls_below around k ty.none = alike _
    decls_below around k (ty.more d ds) = bind_below _ _ _ _ (decl_below around k d) (λ next. decls_below around next ds)

    decl_below : (around : List Spaces) (k : Known) (d : ty.DeclTree) → Below (with_decl b around k d) (with_decl unbounded around k d)
    decl_below around k (ty.CoreTy t) = first_below _ _ _ (core_below _ t)
    decl_below around k (ty.Ty t) = first_below _ _ _ (type_below around k.spaces t)
    decl_below around k (ty.Aliased a) = first_below _ _ _ (aliased_below around k.spaces a)
    decl_below around k (ty.Import name ref) = imported_below k name ref
    decl_below around k (ty.Export name ref) = declared_below k name ref

  instance_of_below : (s : Spaces) (imports exports arguments : Entries) → Below (instance_of b s imports exports arguments) (instance_of unbounded s imports exports arguments)
  unfolding instance_of
  instance_of_below s imports exports arguments =
      let change = instantiating s imports exports arguments in
      cond_below (arguments_fit change arguments imports) _ _ _ _ (added_below (with_names s imports exports) (IsInstance (entries_by change 0 exports)) true) (alike (Err DoesNotFit))

  instantiated_below : (s : Spaces) (arguments : List (List ℕ × Standing)) (c : Standing) → Below (instantiated b s arguments c) (instantiated unbounded s arguments c)
  instantiated_below s arguments (IsType t, named) = alike _
  instantiated_below s arguments (IsFunc f, named) = alike _
  instantiated_below s arguments (IsInstance es, named) = alike _
  instantiated_below s arguments (IsComponent is es, named) = instance_of_below s is es _
  instantiated_below s arguments (IsModule m, named) = alike _
  instantiated_below s arguments (IsOwnModule, named) = alike _

  instance_below : (s : Spaces) (i : InstanceItem) → Below (with_instance b s i) (with_instance unbounded s i)
  unfolding with_instance
  instance_below s (instance.Instantiate component args) =
      then_below (at_index s.components component) _ _ (λ c. then_below (given s args) _ _ (λ arguments. instantiated_below s arguments c))
  instance_below s (instance.Exports args) = then_below _ _ _ (λ ms. added_below s _ _)

  lifted_below : (s : Spaces) (e : Standing) → Below (lifted b s e) (lifted unbounded s e)
  lifted_below s (IsType (Value t), named) = alike _
  lifted_below s (IsType (entity.Resource r), named) = alike _
  lifted_below s (IsType (entity.Func f), named) = added_below s (IsFunc f) named
  lifted_below s (IsType (entity.Instance es), named) = alike _
  lifted_below s (IsType (entity.Component is es), named) = alike _
  lifted_below s (IsFunc f, named) = alike _
  lifted_below s (IsInstance es, named) = alike _
  lifted_below s (IsComponent is es, named) = alike _
  lifted_below s (IsModule m, named) = alike _
  lifted_below s (IsOwnModule, named) = alike _

  canon_below : (s : Spaces) (c : Canon) → Below (with_canon b s c) (with_canon unbounded s c)
  unfolding with_canon
  canon_below s (canon.Lift f options t) =
      then_below (if_below s.core.funcs f s) _ _ (λ u. then_below (with_options u options) _ _ (λ w. then_below (at_index w.types t) _ _ (λ e. lifted_below w e)))
  canon_below s (canon.Lower f options) = alike _
  canon_below s (canon.ResourceNew t) = alike _
  canon_below s (canon.ResourceDrop t) = alike _
  canon_below s (canon.ResourceRep t) = alike _

  spaces_below : (around : List Spaces) (s : Spaces) (item : ItemTree) → Below (spaces_after b around s item) (spaces_after unbounded around s item)
  unfolding spaces_after
  spaces_below around s (Custom name bytes) = alike _
  spaces_below around s (CoreModule bytes) = alike _
  spaces_below around s (CoreMade item) = alike _
  spaces_below around s (CoreTy t) = first_below _ _ _ (core_below _ t)
  spaces_below around s (Component bytes) = alike _
  spaces_below around s (Instance item) = instance_below s item
  spaces_below around s (Aliased a) = aliased_below around s a
  spaces_below around s (Ty t) = type_below around s t
  spaces_below around s (Canonical c) = canon_below s c
  spaces_below around s (Import i) = alike _
  spaces_below around s (Export e) = alike _

  after_below : (around : List Spaces) (k : Known) (item : ItemTree) → Below (after b around k item) (after unbounded around k item)
  unfolding after
  after_below around k (Import i) = imported_below k i.name i.ty
  after_below around k (Export e) = exported_below k e
  after_below around k (Custom name bytes) = first_below _ _ _ (spaces_below around k.spaces (Custom name bytes))
  after_below around k (CoreModule bytes) = first_below _ _ _ (spaces_below around k.spaces (CoreModule bytes))
  after_below around k (CoreMade item) = first_below _ _ _ (spaces_below around k.spaces (CoreMade item))
  after_below around k (CoreTy t) = first_below _ _ _ (spaces_below around k.spaces (CoreTy t))
  after_below around k (Component bytes) = first_below _ _ _ (spaces_below around k.spaces (Component bytes))
  after_below around k (Instance item) = first_below _ _ _ (spaces_below around k.spaces (Instance item))
  after_below around k (Aliased a) = first_below _ _ _ (spaces_below around k.spaces (Aliased a))
  after_below around k (Ty t) = first_below _ _ _ (spaces_below around k.spaces (Ty t))
  after_below around k (Canonical c) = first_below _ _ _ (spaces_below around k.spaces (Canonical c))

  mutual
    unfolding after_part after_parts

    part_below : (around : List Spaces) (k : Known) (p : Part) → Below (after_part b around k p) (after_part unbounded around k p)
    part_below around k (Plain item) = after_below around k item
    part_below around k (Inner bytes parts) = deep_below _ _ _ (bind_below _ _ _ _ (parts_below (k.spaces ∷ around) (nothing_known true) parts) (λ inner. first_below _ _ _ (added_below k.spaces _ true)))

    parts_below : (around : List Spaces) (k : Known) (ps : Parts) → Below (after_parts b around k ps) (after_parts unbounded around k ps)
    parts_below around k nothing = alike _
    parts_below around k (then_part p ps) = bind_below _ _ _ _ (part_below around k p) (λ next. parts_below around next ps)

  as_shape_below : (c : Sides) → Below (as_shape b c) (as_shape unbounded c)
  as_shape_below c = big_below _ _ _ (alike _)

  pub shape_below : (parts : Parts) → Below (shape_within b parts) (shape_within unbounded parts)
  unfolding shape_within
  shape_below parts = bind_below _ _ _ _ (parts_below [] (nothing_known true) parts) (λ k. as_shape_below _)
