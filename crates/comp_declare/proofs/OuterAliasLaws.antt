-- Laws of aliases of what stands in scopes further out.
use Rattle.std.specs.Prelude.{◌≡◌, ℕ, zero, suc, Bool, true, false, cond, List, [], ◌∷◌, ◌++◌, map, take, Result, Ok, Err, Vec, refl, sum}
use Rattle.std.specs.Global.{Global}
use Rattle.std.specs.List.{list_any}
use Rattle.std.proofs.Common.{◌∙◌, ap}
use Rattle.warg_values.specs.Reading.{◌>>=◌}
use Rattle.warg_values.specs.ReadingLaws.{bind_ok, ok_is}
use Rattle.comp_entity.specs.Bounds.{ShapeFault, Index, bounded}
use Rattle.comp_format.specs.declared.types.CoreSort.TheVariants as core
use Rattle.comp_format.specs.declared.types.Sort.{Sort}
use Rattle.comp_format.specs.declared.types.Sort.TheVariants as sort
use Rattle.comp_scope.specs.Aliases as scope
use Rattle.comp_scope.specs.Aliases.{outer_scope, may_pass, from_outside, width, core_scopes, outer_item, outer_alias}
use Rattle.comp_scope.specs.CoreScopes.{outer_core}
use Rattle.comp_scope.specs.Spaces as spaces
use Rattle.comp_scope.specs.Spaces.{Spaces, KnownCoreType, at_index, standing, added, with_core_type}
use Rattle.comp_declare.specs.Outer.{is_core_type, standing_outside}
use Rattle.comp_space.specs.declared.core_types.CoreStanding.{CoreStanding}
use Rattle.comp_space.specs.declared.space.Space.{Space}
use Rattle.comp_space.specs.CoreStandings.{ShowsCore}
use Rattle.comp_space.specs.SpaceViews.{ShowsSpaces}
use Rattle.comp_space.specs.StandingLaws.{pairwise_push, same_fault, then_first}
use Rattle.comp_table.specs.Trees.{PlainTree}

-- an item is put behind the others where it may be named
pub outer_item_is : (ss : List Spaces) (s : Spaces) (kind : Sort) (count index : ℕ) → outer_item bounded ss s kind count index ≡ (standing_outside (s ∷ ss) kind count index >>= λ e. added bounded s e.0 e.1)
unfolding outer_item
outer_item_is ss s kind count index =
    then_first (outer_scope (s ∷ ss) count) _ (λ outer. standing outer.spaces kind index >>= λ e. cond (may_pass outer.leaves_component e.0) (Ok (from_outside outer.distance e.0, e.1)) (Err Index)) (λ e. added bounded s e.0 e.1) (λ outer.
    then_first (standing outer.spaces kind index) _ (λ e. cond (may_pass outer.leaves_component e.0) (Ok (from_outside outer.distance e.0, e.1)) (Err Index)) (λ e. added bounded s e.0 e.1) (λ e.
    last (may_pass outer.leaves_component e.0) (from_outside outer.distance e.0, e.1)))
  where
    last : (c : Bool) (e : spaces.Standing) → cond c (added bounded s e.0 e.1) (Err Index) ≡ (cond c (Ok e) (Err Index) >>= λ e. added bounded s e.0 e.1)
    last true e = refl
    last false e = refl

-- core types of scopes further out
at_map : {X Y : Type 0} (f : X → Y) (xs : List X) (i : ℕ) → at_index (map f xs) i ≡ (at_index xs i >>= λ x. Ok (f x))
at_map f [] i = refl
at_map f (x ∷ xs) zero = refl
at_map f (x ∷ xs) (suc i) = at_map f xs i

pub core_out : (ss : List Spaces) (count index : ℕ) (o : scope.Outer) → outer_scope ss count ≡ Ok o → outer_core (core_scopes ss) count index ≡ at_index o.spaces.core_types index
core_out ss count index o e =
    let a = bind_ok (at_index ss count) _ _ e in
    ap (λ r. r >>= λ types. at_index types index) (at_map (λ (s : Spaces). s.core_types) ss count ∙ ap (λ r. r >>= λ (s : Spaces). Ok s.core_types) a.1)
    ∙ ap (λ (o : scope.Outer). at_index o.spaces.core_types index) (ok_is _ o a.2)

abbrev outer_of : List Spaces → ℕ → Result Spaces ShapeFault → Result scope.Outer ShapeFault
outer_of ss count r = r >>= λ spaces. Ok (record { spaces = spaces; distance = sum (map width (take count ss)); leaves_component = list_any (λ s. s.is_closed) (take count ss) })

pub core_out_fails : (ss : List Spaces) (count index : ℕ) (fault : ShapeFault) → outer_scope ss count ≡ Err fault → outer_core (core_scopes ss) count index ≡ Err fault
core_out_fails ss count index fault e = by (at_index ss count) refl e
  where
    by : (r : Result Spaces ShapeFault) → at_index ss count ≡ r → outer_of ss count r ≡ Err fault → outer_core (core_scopes ss) count index ≡ Err fault
    by (Ok s) is e = absurd cc
    by (Err f) is e = ap (λ r. r >>= λ types. at_index types index) (at_map (λ (s : Spaces). s.core_types) ss count ∙ ap (λ r. r >>= λ (s : Spaces). Ok s.core_types) is) ∙ ap Err (same_fault f fault e)

pub shows_one_core_type : (ts : List PlainTree) (space : Space) (s : Spaces) (v : Vec CoreStanding Global) (x : CoreStanding) (t : KnownCoreType) → ShowsSpaces ts space s → ShowsCore ts x t → v.items ≡ space.core_types.items ++ x ∷ [] → ShowsSpaces ts (record space { core_types = v }) (with_core_type s t)
shows_one_core_type ts space s v x t shows stands is = record {
  is_closed = shows.is_closed;
  core = shows.core;
  core_types = rw is (pairwise_push (ShowsCore ts) space.core_types.items s.core_types x t shows.core_types stands);
  modules = shows.modules;
  funcs = shows.funcs;
  types = shows.types;
  components = shows.components;
  instances = shows.instances;
  brought = shows.brought;
  made = shows.made;
}

-- core types, and all else
pub core_alias_is : (ss : List Spaces) (s : Spaces) (kind : Sort) (count index : ℕ) → is_core_type kind ≡ true → outer_alias bounded ss s (sort.Core core.Ty) count index ≡ outer_alias bounded ss s kind count index
core_alias_is ss s (sort.Core core.Ty) count index is = refl
core_alias_is ss s (sort.Core core.Func) count index is = absurd cc
core_alias_is ss s (sort.Core core.Table) count index is = absurd cc
core_alias_is ss s (sort.Core core.Memory) count index is = absurd cc
core_alias_is ss s (sort.Core core.Global) count index is = absurd cc
core_alias_is ss s (sort.Core core.Module) count index is = absurd cc
core_alias_is ss s (sort.Core core.Instance) count index is = absurd cc
core_alias_is ss s sort.Func count index is = absurd cc
core_alias_is ss s sort.Ty count index is = absurd cc
core_alias_is ss s sort.Component count index is = absurd cc
core_alias_is ss s sort.Instance count index is = absurd cc

pub item_alias_is : (ss : List Spaces) (s : Spaces) (kind : Sort) (count index : ℕ) → is_core_type kind ≡ false → outer_item bounded ss s kind count index ≡ outer_alias bounded ss s kind count index
unfolding outer_alias
item_alias_is ss s (sort.Core core.Ty) count index is = absurd cc
item_alias_is ss s (sort.Core core.Func) count index is = refl
item_alias_is ss s (sort.Core core.Table) count index is = refl
item_alias_is ss s (sort.Core core.Memory) count index is = refl
item_alias_is ss s (sort.Core core.Global) count index is = refl
item_alias_is ss s (sort.Core core.Module) count index is = refl
item_alias_is ss s (sort.Core core.Instance) count index is = refl
item_alias_is ss s sort.Func count index is = refl
item_alias_is ss s sort.Ty count index is = refl
item_alias_is ss s sort.Component count index is = refl
item_alias_is ss s sort.Instance count index is = refl
