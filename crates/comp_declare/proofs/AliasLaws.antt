-- Laws of aliases of what instances and core instances export.
use Rattle.std.specs.Prelude.{◌≡◌, ℕ, ◌<◌, ◌≤◌, nat_lt, Bool, true, false, cond, List, [], ◌∷◌, ◌++◌, Option, Some, None, Ok, Err, Vec, ◌==◌, refl}
use Rattle.std.specs.Global.{Global}
use Rattle.std.proofs.Common.{sym, ◌∙◌, ap}
use Rattle.std.proofs.lemmas.Bool.{lt-ltb, le-ltb}
use Rattle.warg_values.specs.Reading.{◌>>=◌}
use Rattle.comp_entity.specs.Bounds.{Index, bounded}
use Rattle.comp_entity.specs.Entity.{ValueTree, Primitive, TupleOf, RecordOf, VariantOf, ListOf, FlagsOf, EnumOf, OptionOf, ResultOf, Own, Borrow, Value, Resource, Func, Instance, Component, Entries, EntityTree, IsType, IsFunc, IsInstance, IsComponent, IsModule, IsOwnModule}
use Rattle.comp_entity.specs.Fits.{under}
use Rattle.comp_format.specs.declared.types.Sort.{Sort}
use Rattle.comp_format.specs.declared.types.CoreSort.{CoreSort}
use Rattle.comp_format.specs.declared.types.CoreSort.TheVariants as core
use Rattle.comp_format.specs.Spaces.{space_of}
use Rattle.comp_scope.specs.Aliases.{as_instance, core_alias, export_alias}
use Rattle.comp_scope.specs.Spaces as scope
use Rattle.comp_scope.specs.Spaces.{Spaces, Unknown, at_index, item_or_fault, sort_of, added, if_below}
use Rattle.comp_declare.specs.Exported.{ShowsExport, exported_at, exported_of, is_instance, one_more}
use Rattle.comp_space.specs.declared.core_types.CoreStanding.{CoreStanding}
use Rattle.comp_space.specs.declared.core_types.CoreStanding.TheVariants as by_number
use Rattle.comp_space.specs.declared.space.CoreCounts.{CoreCounts}
use Rattle.comp_space.specs.declared.space.Space.{Space}
use Rattle.comp_space.specs.declared.standing.Standing.{Standing}
use Rattle.comp_space.specs.CoreStandings.{ShowsCore}
use Rattle.comp_space.specs.Faults.{Found}
use Rattle.comp_space.specs.SpaceViews.{ShowsSpaces, core_counts}
use Rattle.comp_space.specs.Standings.{Shows}
use Rattle.comp_space.specs.StandingLaws.{pairwise_push, then_first}
use Rattle.comp_table.specs.declared.head.Head.TheVariants as head
use Rattle.comp_table.specs.Plain.{leaf, plain_value, plain_entity, plain_entries}
use Rattle.comp_table.specs.Trees.{PlainTree, Stands, tree_at, root, below_root}

value_is_none : (v : ValueTree) → is_instance (root (plain_value v)) ≡ false
value_is_none (Primitive p) = refl
value_is_none (TupleOf parts) = refl
value_is_none (RecordOf place fields) = refl
value_is_none (VariantOf place cases) = refl
value_is_none (ListOf t) = refl
value_is_none (FlagsOf place labels) = refl
value_is_none (EnumOf place labels) = refl
value_is_none (OptionOf t) = refl
value_is_none (ResultOf ok err) = refl
value_is_none (Own r) = refl
value_is_none (Borrow r) = refl

no_truth : {A : Type 0} → true ≡ false → A
no_truth h = absurd cc

-- the instance that is there, by its head
pub record IsThere (ts : List PlainTree) (n : ℕ) (e : EntityTree) : Type 0 where
  pub exports : Entries
  pub entity_is : e ≡ IsInstance exports
  pub below_is : below_root (tree_at ts n) ≡ plain_entries exports

pub instance_there : (ts : List PlainTree) (n : ℕ) (e : EntityTree) → Stands ts n (plain_entity e) → is_instance (root (tree_at ts n)) ≡ true → IsThere ts n e
instance_there ts n (IsInstance es) s is = record { exports = es; entity_is = refl; below_is = ap below_root s.tree_is }
instance_there ts n (IsType (Value v)) s is = no_truth (sym is ∙ ap (λ x. is_instance (root x)) s.tree_is ∙ value_is_none v)
instance_there ts n (IsType (Resource r)) s is = no_truth (sym is ∙ ap (λ x. is_instance (root x)) s.tree_is)
instance_there ts n (IsType (Func f)) s is = no_truth (sym is ∙ ap (λ x. is_instance (root x)) s.tree_is)
instance_there ts n (IsType (Instance es)) s is = no_truth (sym is ∙ ap (λ x. is_instance (root x)) s.tree_is)
instance_there ts n (IsType (Component is' es)) s is = no_truth (sym is ∙ ap (λ x. is_instance (root x)) s.tree_is)
instance_there ts n (IsFunc f) s is = no_truth (sym is ∙ ap (λ x. is_instance (root x)) s.tree_is)
instance_there ts n (IsComponent is' es) s is = no_truth (sym is ∙ ap (λ x. is_instance (root x)) s.tree_is)
instance_there ts n (IsModule m) s is = no_truth (sym is ∙ ap (λ x. is_instance (root x)) s.tree_is)
instance_there ts n IsOwnModule s is = no_truth (sym is ∙ ap (λ x. is_instance (root x)) s.tree_is)

pub no_instance_there : (ts : List PlainTree) (n : ℕ) (e : EntityTree) (b : Bool) (kind : Sort) (name : List ℕ) → Stands ts n (plain_entity e) → is_instance (root (tree_at ts n)) ≡ false → exported_of kind name (e, b) ≡ Err Index
no_instance_there ts n (IsInstance es) b kind name s wrong = no_truth (ap (λ x. is_instance (root x)) (sym s.tree_is) ∙ wrong)
no_instance_there ts n (IsType t) b kind name s wrong = refl
no_instance_there ts n (IsFunc f) b kind name s wrong = refl
no_instance_there ts n (IsComponent is' es) b kind name s wrong = refl
no_instance_there ts n (IsModule m) b kind name s wrong = refl
no_instance_there ts n IsOwnModule b kind name s wrong = refl

-- what is exported under a name
absent_name : (ts : List PlainTree) (x : Option (EntityTree × Bool)) → ShowsExport ts None x → None ≡ x
absent_name ts None h = refl
absent_name ts (Some e) h = absurd h

pub record IsExport (ts : List PlainTree) (found : Standing) (x : Option (EntityTree × Bool)) : Type 0 where
  pub e : EntityTree × Bool
  pub x_is : x ≡ Some e
  pub shown : Shows plain_entity ts found e

pub export_there : (ts : List PlainTree) (found : Standing) (x : Option (EntityTree × Bool)) → ShowsExport ts (Some found) x → IsExport ts found x
export_there ts found None h = absurd h
export_there ts found (Some e) h = record { e = e; x_is = refl; shown = h }

module _ (ts : List PlainTree) (n : ℕ) (e : EntityTree) (b : Bool) (kind : Sort) (name : List ℕ) (there : IsThere ts n e) where
  pub no_name_there : ShowsExport ts None (under name there.exports) → exported_of kind name (e, b) ≡ Err Index
  no_name_there h = ap (λ e. exported_of kind name (e, b)) there.entity_is ∙ ap (λ x. item_or_fault x >>= λ e. cond (space_of (sort_of e.0) == space_of kind) (Ok e) (Err Index)) (sym (absent_name ts (under name there.exports) h))

  by_sort : (found : Standing) (h : IsExport ts found (under name there.exports)) → exported_of kind name (e, b) ≡ cond (space_of (sort_of h.e.0) == space_of kind) (Ok h.e) (Err Index)
  by_sort found h = ap (λ e. exported_of kind name (e, b)) there.entity_is ∙ ap (λ x. item_or_fault x >>= λ e. cond (space_of (sort_of e.0) == space_of kind) (Ok e) (Err Index)) h.x_is

  pub other_sort_there : (found : Standing) (sort : Sort) (h : IsExport ts found (under name there.exports)) → sort ≡ sort_of h.e.0 → (space_of sort == space_of kind) ≡ false → exported_of kind name (e, b) ≡ Err Index
  other_sort_there found sort h is other = by_sort found h ∙ ap (λ c. cond c (Ok h.e) (Err Index)) (ap (λ s. space_of s == space_of kind) (sym is) ∙ other)

  pub sort_there : (found : Standing) (sort : Sort) (h : IsExport ts found (under name there.exports)) → sort ≡ sort_of h.e.0 → (space_of sort == space_of kind) ≡ true → Found (Shows plain_entity ts) found (exported_of kind name (e, b))
  sort_there found sort h is same = record {
    value = h.e;
    given_is = by_sort found h ∙ ap (λ c. cond c (Ok h.e) (Err Index)) (ap (λ s. space_of s == space_of kind) (sym is) ∙ same);
    shown = h.shown;
  }

-- the alias is of the entity
pub alias_is : (s : Spaces) (kind : Sort) (from : ℕ) (name : List ℕ) → export_alias bounded s kind from name ≡ (exported_at s kind from name >>= λ e. added bounded s e.0 e.1)
unfolding export_alias
alias_is s kind from name =
    then_first (at_index s.instances from) _ (exported_of kind name) (λ e. added bounded s e.0 e.1) (λ i.
    then_first (as_instance i) _ (λ es. item_or_fault (under name es) >>= λ e. cond (space_of (sort_of e.0) == space_of kind) (Ok e) (Err Index)) (λ e. added bounded s e.0 e.1) (λ es.
    then_first (item_or_fault (under name es)) _ (λ e. cond (space_of (sort_of e.0) == space_of kind) (Ok e) (Err Index)) (λ e. added bounded s e.0 e.1) (λ e.
    last (space_of (sort_of e.0) == space_of kind) e)))
  where
    last : (c : Bool) (e : scope.Standing) → cond c (added bounded s e.0 e.1) (Err Index) ≡ (cond c (Ok e) (Err Index) >>= λ e. added bounded s e.0 e.1)
    last true e = refl
    last false e = refl

-- core items more
module _ (ts : List PlainTree) (space : Space) (s : Spaces) (shows : ShowsSpaces ts space s) where
  pub shows_core_type : (v : Vec CoreStanding Global) → v.items ≡ space.core_types.items ++ by_number.Unknown ∷ [] → ShowsSpaces ts (record space { core_types = v }) (core_alias s core.Ty)
  shows_core_type v is = record {
    is_closed = shows.is_closed;
    core = shows.core;
    core_types = rw is (pairwise_push (ShowsCore ts) space.core_types.items s.core_types by_number.Unknown Unknown shows.core_types tt);
    modules = shows.modules;
    funcs = shows.funcs;
    types = shows.types;
    components = shows.components;
    instances = shows.instances;
    brought = shows.brought;
    made = shows.made;
  }

  pub shows_own_module : (v : Vec Standing Global) (n : ℕ) → Stands ts n (leaf head.OwnModule) → v.items ≡ space.modules.items ++ record { number = n; named = true } ∷ [] → ShowsSpaces ts (record space { modules = v }) (core_alias s core.Module)
  shows_own_module v n stands is = record {
    is_closed = shows.is_closed;
    core = shows.core;
    core_types = shows.core_types;
    modules = rw is (pairwise_push (Shows plain_entity ts) space.modules.items s.modules (record { number = n; named = true }) (IsOwnModule, true) shows.modules (record { stands = stands; named_is = refl }));
    funcs = shows.funcs;
    types = shows.types;
    components = shows.components;
    instances = shows.instances;
    brought = shows.brought;
    made = shows.made;
  }

  shows_counts : (c : CoreCounts) (sort : CoreSort) → core_counts c ≡ one_more sort (core_counts space.core) → ShowsSpaces ts (record space { core = c }) (record s { core = one_more sort s.core })
  shows_counts c sort is = record {
    is_closed = shows.is_closed;
    core = is ∙ ap (one_more sort) shows.core;
    core_types = shows.core_types;
    modules = shows.modules;
    funcs = shows.funcs;
    types = shows.types;
    components = shows.components;
    instances = shows.instances;
    brought = shows.brought;
    made = shows.made;
  }

  pub shows_one_more : (c : CoreCounts) (sort : CoreSort) → core_counts c ≡ one_more sort (core_counts space.core) → (sort ≡ core.Ty → ⊥) → (sort ≡ core.Module → ⊥) → ShowsSpaces ts (record space { core = c }) (core_alias s sort)
  shows_one_more c core.Func is a b = shows_counts c core.Func is
  shows_one_more c core.Table is a b = shows_counts c core.Table is
  shows_one_more c core.Memory is a b = shows_counts c core.Memory is
  shows_one_more c core.Global is a b = shows_counts c core.Global is
  shows_one_more c core.Instance is a b = shows_counts c core.Instance is
  shows_one_more c core.Ty is a b = absurd (a refl)
  shows_one_more c core.Module is a b = absurd (b refl)

-- where nothing but a count is known
module _ (ts : List PlainTree) (space : Space) (s : Spaces) (i : ℕ) (shows : ShowsSpaces ts space s) where
  pub instance_below : {X : Type 0} (x : X) → i < space.core.instances → if_below s.core.instances i x ≡ Ok x
  instance_below x lt = ap (λ c. cond (nat_lt i c) (Ok x) (Err Index)) (sym (ap (λ c. c.instances) shows.core)) ∙ ap (λ b. cond b (Ok x) (Err Index)) (lt-ltb i space.core.instances lt)

  pub instance_past : {X : Type 0} (x : X) → space.core.instances ≤ i → if_below s.core.instances i x ≡ Err Index
  instance_past x le = ap (λ c. cond (nat_lt i c) (Ok x) (Err Index)) (sym (ap (λ c. c.instances) shows.core)) ∙ ap (λ b. cond b (Ok x) (Err Index)) (le-ltb i space.core.instances le)
