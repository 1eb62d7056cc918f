-- Laws of index spaces by number.
use Rattle.std.specs.Prelude.{◌≡◌, ℕ, List, [], ◌∷◌, ◌++◌, Vec, refl}
use Rattle.std.specs.Global.{Global}
use Rattle.std.proofs.Common.{◌∙◌, ap}
use Rattle.comp_format.specs.declared.types.CoreSort.{CoreSort}
use Rattle.comp_format.specs.declared.types.Sort.TheVariants as sort
use Rattle.comp_entity.specs.Entity.{ValueTree, Primitive, TupleOf, RecordOf, VariantOf, ListOf, FlagsOf, EnumOf, OptionOf, ResultOf, Own, Borrow, Value, Resource, Func, Instance, Component, EntityTree, IsType, IsFunc, IsInstance, IsComponent, IsModule, IsOwnModule}
use Rattle.comp_scope.specs.Spaces.{Spaces, placed, sort_of}
use Rattle.comp_space.specs.declared.space.Space.{Space}
use Rattle.comp_space.specs.declared.standing.Standing.{Standing}
use Rattle.comp_space.specs.Heads.{sort_of_head}
use Rattle.comp_space.specs.SpaceViews.{ShowsSpaces, SpaceIsThere}
use Rattle.comp_space.specs.Standings.{Shows}
use Rattle.comp_space.specs.CoreLaws.{cores_kept, cores_are_there}
use Rattle.comp_space.specs.StandingLaws.{all_show_kept, all_are_there, pairwise_push}
use Rattle.comp_table.specs.declared.head.Head.{Head}
use Rattle.comp_table.specs.Plain.{plain_value, plain_entity}
use Rattle.comp_table.specs.Trees.{PlainTree, Extends, Stands, tree_at, root}

-- the head tells the sort
value_sort : (t : ValueTree) → sort_of_head (root (plain_value t)) ≡ sort.Ty
value_sort (Primitive p) = refl
value_sort (TupleOf parts) = refl
value_sort (RecordOf place fields) = refl
value_sort (VariantOf place cases) = refl
value_sort (ListOf t) = refl
value_sort (FlagsOf place labels) = refl
value_sort (EnumOf place labels) = refl
value_sort (OptionOf t) = refl
value_sort (ResultOf ok err) = refl
value_sort (Own r) = refl
value_sort (Borrow r) = refl

sort_at_root : (e : EntityTree) → sort_of_head (root (plain_entity e)) ≡ sort_of e
sort_at_root (IsType (Value t)) = value_sort t
sort_at_root (IsType (Resource r)) = refl
sort_at_root (IsType (Func f)) = refl
sort_at_root (IsType (Instance es)) = refl
sort_at_root (IsType (Component is es)) = refl
sort_at_root (IsFunc f) = refl
sort_at_root (IsInstance es) = refl
sort_at_root (IsComponent is es) = refl
sort_at_root (IsModule m) = refl
sort_at_root IsOwnModule = refl

pub sort_is : (ts : List PlainTree) (n : ℕ) (h : Head) (e : EntityTree) → h ≡ root (tree_at ts n) → Stands ts n (plain_entity e) → sort_of_head h ≡ sort_of e
sort_is ts n h e is s = ap sort_of_head (is ∙ ap root s.tree_is) ∙ sort_at_root e

-- one entity more, by its sort
module _ (ts : List PlainTree) (space : Space) (s : Spaces) (x : Standing) (v : Vec Standing Global) (shows : ShowsSpaces ts space s) where
  pub put_type : (e : EntityTree) → Stands ts x.number (plain_entity e) → sort.Ty ≡ sort_of e → v.items ≡ space.types.items ++ x ∷ [] → ShowsSpaces ts (record space { types = v }) (placed s e x.named)
  put_type (IsType t) stands is e = record {
    is_closed = shows.is_closed;
    core = shows.core;
    core_types = shows.core_types;
    modules = shows.modules;
    funcs = shows.funcs;
    types = rw e (pairwise_push (Shows plain_entity ts) space.types.items s.types x (IsType t, x.named) shows.types (record { stands = stands; named_is = refl }));
    components = shows.components;
    instances = shows.instances;
    brought = shows.brought;
    made = shows.made;
  }
  put_type (IsFunc f) stands is e = absurd cc
  put_type (IsInstance es) stands is e = absurd cc
  put_type (IsComponent is' es) stands is e = absurd cc
  put_type (IsModule m) stands is e = absurd cc
  put_type IsOwnModule stands is e = absurd cc

  pub put_func : (e : EntityTree) → Stands ts x.number (plain_entity e) → sort.Func ≡ sort_of e → v.items ≡ space.funcs.items ++ x ∷ [] → ShowsSpaces ts (record space { funcs = v }) (placed s e x.named)
  put_func (IsFunc f) stands is e = record {
    is_closed = shows.is_closed;
    core = shows.core;
    core_types = shows.core_types;
    modules = shows.modules;
    funcs = rw e (pairwise_push (Shows plain_entity ts) space.funcs.items s.funcs x (IsFunc f, x.named) shows.funcs (record { stands = stands; named_is = refl }));
    types = shows.types;
    components = shows.components;
    instances = shows.instances;
    brought = shows.brought;
    made = shows.made;
  }
  put_func (IsType t) stands is e = absurd cc
  put_func (IsInstance es) stands is e = absurd cc
  put_func (IsComponent is' es) stands is e = absurd cc
  put_func (IsModule m) stands is e = absurd cc
  put_func IsOwnModule stands is e = absurd cc

  pub put_instance : (e : EntityTree) → Stands ts x.number (plain_entity e) → sort.Instance ≡ sort_of e → v.items ≡ space.instances.items ++ x ∷ [] → ShowsSpaces ts (record space { instances = v }) (placed s e x.named)
  put_instance (IsInstance es) stands is e = record {
    is_closed = shows.is_closed;
    core = shows.core;
    core_types = shows.core_types;
    modules = shows.modules;
    funcs = shows.funcs;
    types = shows.types;
    components = shows.components;
    instances = rw e (pairwise_push (Shows plain_entity ts) space.instances.items s.instances x (IsInstance es, x.named) shows.instances (record { stands = stands; named_is = refl }));
    brought = shows.brought;
    made = shows.made;
  }
  put_instance (IsType t) stands is e = absurd cc
  put_instance (IsFunc f) stands is e = absurd cc
  put_instance (IsComponent is' es) stands is e = absurd cc
  put_instance (IsModule m) stands is e = absurd cc
  put_instance IsOwnModule stands is e = absurd cc

  pub put_component : (e : EntityTree) → Stands ts x.number (plain_entity e) → sort.Component ≡ sort_of e → v.items ≡ space.components.items ++ x ∷ [] → ShowsSpaces ts (record space { components = v }) (placed s e x.named)
  put_component (IsComponent is' es) stands is e = record {
    is_closed = shows.is_closed;
    core = shows.core;
    core_types = shows.core_types;
    modules = shows.modules;
    funcs = shows.funcs;
    types = shows.types;
    components = rw e (pairwise_push (Shows plain_entity ts) space.components.items s.components x (IsComponent is' es, x.named) shows.components (record { stands = stands; named_is = refl }));
    instances = shows.instances;
    brought = shows.brought;
    made = shows.made;
  }
  put_component (IsType t) stands is e = absurd cc
  put_component (IsFunc f) stands is e = absurd cc
  put_component (IsInstance es) stands is e = absurd cc
  put_component (IsModule m) stands is e = absurd cc
  put_component IsOwnModule stands is e = absurd cc

  pub put_module : (c : CoreSort) (e : EntityTree) → Stands ts x.number (plain_entity e) → sort.Core c ≡ sort_of e → v.items ≡ space.modules.items ++ x ∷ [] → ShowsSpaces ts (record space { modules = v }) (placed s e x.named)
  put_module c (IsModule m) stands is e = record {
    is_closed = shows.is_closed;
    core = shows.core;
    core_types = shows.core_types;
    modules = rw e (pairwise_push (Shows plain_entity ts) space.modules.items s.modules x (IsModule m, x.named) shows.modules (record { stands = stands; named_is = refl }));
    funcs = shows.funcs;
    types = shows.types;
    components = shows.components;
    instances = shows.instances;
    brought = shows.brought;
    made = shows.made;
  }
  put_module c IsOwnModule stands is e = record {
    is_closed = shows.is_closed;
    core = shows.core;
    core_types = shows.core_types;
    modules = rw e (pairwise_push (Shows plain_entity ts) space.modules.items s.modules x (IsOwnModule, x.named) shows.modules (record { stands = stands; named_is = refl }));
    funcs = shows.funcs;
    types = shows.types;
    components = shows.components;
    instances = shows.instances;
    brought = shows.brought;
    made = shows.made;
  }
  put_module c (IsType t) stands is e = absurd cc
  put_module c (IsFunc f) stands is e = absurd cc
  put_module c (IsInstance es) stands is e = absurd cc
  put_module c (IsComponent is' es) stands is e = absurd cc

-- a table that grows shows the same
pub space_kept : (ts us : List PlainTree) → Extends ts us → (space : Space) (s : Spaces) → ShowsSpaces ts space s → ShowsSpaces us space s
space_kept ts us grown space s shows = record {
  is_closed = shows.is_closed;
  core = shows.core;
  core_types = cores_kept ts us grown space.core_types.items s.core_types shows.core_types;
  modules = all_show_kept ts us grown space.modules.items s.modules shows.modules;
  funcs = all_show_kept ts us grown space.funcs.items s.funcs shows.funcs;
  types = all_show_kept ts us grown space.types.items s.types shows.types;
  components = all_show_kept ts us grown space.components.items s.components shows.components;
  instances = all_show_kept ts us grown space.instances.items s.instances shows.instances;
  brought = shows.brought;
  made = shows.made;
}

pub space_is_there : (ts : List PlainTree) (space : Space) (s : Spaces) → ShowsSpaces ts space s → SpaceIsThere ts space
space_is_there ts space s shows = record {
  core_types = cores_are_there ts space.core_types.items s.core_types shows.core_types;
  modules = all_are_there ts space.modules.items s.modules shows.modules;
  funcs = all_are_there ts space.funcs.items s.funcs shows.funcs;
  types = all_are_there ts space.types.items s.types shows.types;
  components = all_are_there ts space.components.items s.components shows.components;
  instances = all_are_there ts space.instances.items s.instances shows.instances;
}
