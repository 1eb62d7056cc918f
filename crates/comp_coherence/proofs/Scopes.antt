-- What the names of a scope mean, and that all that stands in it keeps one name for one type.
use Rattle.std.proofs.Common.{◌≡◌, ℕ, zero, suc, ◌+◌, ◌-◌, ◌≤◌, Bool, true, false, cond, List, [], ◌∷◌, ◌++◌, Option, Some, None, Ok, refl, ap, subst, ◌∙◌, arith}
use Rattle.std.specs.Prelude.{nat_lt, option_map, ◌==◌}
use Rattle.std.specs.List.{AllByRecursion}
use Rattle.std.proofs.lemmas.Bool.{eqb-true}
use Rattle.warg_values.specs.ReadingLaws.{ok_is, never, wanted_ok}
use Rattle.comp_format.specs.declared.types.CoreSort.TheVariants as core
use Rattle.comp_format.specs.declared.types.Sort.{Sort}
use Rattle.comp_format.specs.declared.types.Sort.TheVariants as sort
use Rattle.comp_entity.specs.Entity.{Name, made, brought, ValueTree, EntityTree, IsType, IsFunc, IsInstance, IsComponent, IsModule, IsOwnModule}
use Rattle.comp_entity.specs.Names.{deeper, Counts}
use Rattle.comp_entity.specs.Bounds.{ShapeFault, TooDeep, TooBig, Bounds, is_within, depth_of, entity_nodes}
use Rattle.comp_scope.specs.Spaces.{sort_of, Spaces, Known, Standing, at_index, standing, placed, added, entries_in}
use Rattle.comp_coherence.specs.Coherence.{closed_off, Names, inward, Coheres, AllCohere}
use Rattle.comp_coherence.proofs.Changes.{Grows, grown, weaker, joined, stays}

-- how many scopes of names a scope is
abbrev pub wide : Bool → ℕ
wide is_closed = cond is_closed 2 1

-- the names around a scope, as they are from within it
abbrev pub seen_through : Bool → Names → Names
seen_through true around = closed_off around
seen_through false around = around

-- The names of a scope, which made and brought so many, within others. What it did not make or bring means nothing.
pub record ScopeNames (is_closed : Bool) (makes brings : Counts) (names around : Names) : Type 0 where
  pub outer_resource : (n : Name) → names.resource (deeper (wide is_closed) n) ≡ around.resource n
  pub outer_tree : (n : Name) → names.tree (deeper (wide is_closed) n) ≡ option_map (inward (wide is_closed)) (around.tree n)
  pub made_resource : (n : ℕ) → names.resource (made n) ≡ nat_lt n makes.resources
  pub brought_resource : is_closed ≡ true → (n : ℕ) → names.resource (brought n) ≡ true
  pub made_free : (n : ℕ) → makes.places ≤ n → names.tree (made n) ≡ None
  pub brought_free : is_closed ≡ true → (n : ℕ) → brings.places ≤ n → names.tree (brought n) ≡ None

abbrev pub StandingCoheres : Names → Standing → Type 0
StandingCoheres names e = Coheres names e.0

abbrev pub IsOfSort : Sort → Standing → Type 0
IsOfSort kind e = sort_of e.0 ≡ kind

-- what stands in the index spaces, and that it is of the sort of its space where outer aliases may be of it
pub record AllKept (names : Names) (s : Spaces) : Type 0 where
  pub modules : AllByRecursion (StandingCoheres names) s.modules
  pub funcs : AllByRecursion (StandingCoheres names) s.funcs
  pub types : AllByRecursion (StandingCoheres names) s.types
  pub components : AllByRecursion (StandingCoheres names) s.components
  pub instances : AllByRecursion (StandingCoheres names) s.instances
  pub only_modules : AllByRecursion (IsOfSort (sort.Core core.Module)) s.modules
  pub only_types : AllByRecursion (IsOfSort sort.Ty) s.types
  pub only_components : AllByRecursion (IsOfSort sort.Component) s.components

pub record Holds (is_closed : Bool) (s : Spaces) (names around : Names) : Type 0 where
  pub closed : s.is_closed ≡ is_closed
  pub scope : ScopeNames is_closed s.made s.brought names (seen_through is_closed around)
  pub kept : AllKept names s

-- imports or exports
abbrev pub ListKept : Names → List (List ℕ × Standing) → Type 0
ListKept names es = AllByRecursion (λ e. Coheres names e.1.0) es

pub record HoldsAll (is_closed : Bool) (k : Known) (names around : Names) : Type 0 where
  pub spaces : Holds is_closed k.spaces names around
  pub imports : ListKept names k.imports
  pub exports : ListKept names k.exports

-- a scope in which more stands
pub record Further (is_closed : Bool) (s : Spaces) (names around : Names) : Type 0 where
  pub later : Names
  pub grows : Grows names later
  pub holds : Holds is_closed s later around

pub record FurtherAll (is_closed : Bool) (k : Known) (names around : Names) : Type 0 where
  pub later : Names
  pub grows : Grows names later
  pub holds : HoldsAll is_closed k later around

pub no_further : (is_closed : Bool) (s : Spaces) (names around : Names) → Holds is_closed s names around → Further is_closed s names around
no_further is_closed s names around h = record { later = names; grows = stays names; holds = h }

-- ---- growth

module _ (before after : Names) (grows : Grows before after) where
  pub standings_grown : (xs : List Standing) → AllByRecursion (StandingCoheres before) xs → AllByRecursion (StandingCoheres after) xs
  standings_grown xs h = weaker (StandingCoheres before) (StandingCoheres after) (λ e k. grown before after grows e.0 k) xs h

  pub list_grown : (xs : List (List ℕ × Standing)) → ListKept before xs → ListKept after xs
  list_grown xs h = weaker (λ e. Coheres before e.1.0) (λ e. Coheres after e.1.0) (λ e k. grown before after grows e.1.0 k) xs h

  pub kept_grown : (s : Spaces) → AllKept before s → AllKept after s
  kept_grown s k = record {
    modules = standings_grown s.modules k.modules;
    funcs = standings_grown s.funcs k.funcs;
    types = standings_grown s.types k.types;
    components = standings_grown s.components k.components;
    instances = standings_grown s.instances k.instances;
    only_modules = k.only_modules;
    only_types = k.only_types;
    only_components = k.only_components;
  }

-- ---- what stands at an index

pub at_kept : (names : Names) (xs : List Standing) (i : ℕ) (e : Standing) → AllByRecursion (StandingCoheres names) xs → at_index xs i ≡ Ok e → Coheres names e.0
at_kept names [] i e h k = never _ _ k
at_kept names (x ∷ xs) zero e h k = subst (StandingCoheres names) (ok_is {F = ShapeFault} x e k) h.0
at_kept names (x ∷ xs) (suc i) e h k = at_kept names xs i e h.1 k

pub at_sort : (kind : Sort) (xs : List Standing) (i : ℕ) (e : Standing) → AllByRecursion (IsOfSort kind) xs → at_index xs i ≡ Ok e → IsOfSort kind e
at_sort kind [] i e h k = never _ _ k
at_sort kind (x ∷ xs) zero e h k = subst (IsOfSort kind) (ok_is {F = ShapeFault} x e k) h.0
at_sort kind (x ∷ xs) (suc i) e h k = at_sort kind xs i e h.1 k

pub standing_kept : (names : Names) (s : Spaces) (kind : Sort) (i : ℕ) (e : Standing) → AllKept names s → standing s kind i ≡ Ok e → Coheres names e.0
standing_kept names s (sort.Core core.Module) i e k h = at_kept names s.modules i e k.modules h
standing_kept names s (sort.Core core.Func) i e k h = never _ _ h
standing_kept names s (sort.Core core.Table) i e k h = never _ _ h
standing_kept names s (sort.Core core.Memory) i e k h = never _ _ h
standing_kept names s (sort.Core core.Global) i e k h = never _ _ h
standing_kept names s (sort.Core core.Ty) i e k h = never _ _ h
standing_kept names s (sort.Core core.Instance) i e k h = never _ _ h
standing_kept names s sort.Func i e k h = at_kept names s.funcs i e k.funcs h
standing_kept names s sort.Ty i e k h = at_kept names s.types i e k.types h
standing_kept names s sort.Component i e k h = at_kept names s.components i e k.components h
standing_kept names s sort.Instance i e k h = at_kept names s.instances i e k.instances h

-- ---- one entity more

module _ (names : Names) where
  behind : (xs : List Standing) (e : Standing) → AllByRecursion (StandingCoheres names) xs → Coheres names e.0 → AllByRecursion (StandingCoheres names) (xs ++ e ∷ [])
  behind xs e h k = joined (StandingCoheres names) xs (e ∷ []) h (k, tt)

  one_of : (kind : Sort) (xs : List Standing) (e : Standing) → AllByRecursion (IsOfSort kind) xs → IsOfSort kind e → AllByRecursion (IsOfSort kind) (xs ++ e ∷ [])
  one_of kind xs e h k = joined (IsOfSort kind) xs (e ∷ []) h (k, tt)

  pub module_kept : (s : Spaces) (e : Standing) → AllKept names s → Coheres names e.0 → IsOfSort (sort.Core core.Module) e → AllKept names (record s { modules = s.modules ++ e ∷ [] })
  module_kept s e k h is = record {
    modules = behind s.modules e k.modules h;
    funcs = k.funcs;
    types = k.types;
    components = k.components;
    instances = k.instances;
    only_modules = one_of (sort.Core core.Module) s.modules e k.only_modules is;
    only_types = k.only_types;
    only_components = k.only_components;
  }

  pub placed_kept : (s : Spaces) (e : EntityTree) (named : Bool) → AllKept names s → Coheres names e → AllKept names (placed s e named)
  placed_kept s (IsType t) named k h = record {
    modules = k.modules;
    funcs = k.funcs;
    types = behind s.types (IsType t, named) k.types h;
    components = k.components;
    instances = k.instances;
    only_modules = k.only_modules;
    only_types = one_of sort.Ty s.types (IsType t, named) k.only_types refl;
    only_components = k.only_components;
  }
  placed_kept s (IsFunc f) named k h = record {
    modules = k.modules;
    funcs = behind s.funcs (IsFunc f, named) k.funcs h;
    types = k.types;
    components = k.components;
    instances = k.instances;
    only_modules = k.only_modules;
    only_types = k.only_types;
    only_components = k.only_components;
  }
  placed_kept s (IsInstance es) named k h = record {
    modules = k.modules;
    funcs = k.funcs;
    types = k.types;
    components = k.components;
    instances = behind s.instances (IsInstance es, named) k.instances h;
    only_modules = k.only_modules;
    only_types = k.only_types;
    only_components = k.only_components;
  }
  placed_kept s (IsComponent is es) named k h = record {
    modules = k.modules;
    funcs = k.funcs;
    types = k.types;
    components = behind s.components (IsComponent is es, named) k.components h;
    instances = k.instances;
    only_modules = k.only_modules;
    only_types = k.only_types;
    only_components = one_of sort.Component s.components (IsComponent is es, named) k.only_components refl;
  }
  placed_kept s (IsModule m) named k h = module_kept s (IsModule m, named) k h refl
  placed_kept s IsOwnModule named k h = module_kept s (IsOwnModule, named) k h refl

  module _ (is_closed : Bool) (around : Names) (s : Spaces) (h : Holds is_closed s names around) where
    pub placed_holds : (e : EntityTree) (named : Bool) → Coheres names e → Holds is_closed (placed s e named) names around
    placed_holds (IsType t) named k = record { closed = h.closed; scope = h.scope; kept = placed_kept s (IsType t) named h.kept k }
    placed_holds (IsFunc f) named k = record { closed = h.closed; scope = h.scope; kept = placed_kept s (IsFunc f) named h.kept k }
    placed_holds (IsInstance es) named k = record { closed = h.closed; scope = h.scope; kept = placed_kept s (IsInstance es) named h.kept k }
    placed_holds (IsComponent is es) named k = record { closed = h.closed; scope = h.scope; kept = placed_kept s (IsComponent is es) named h.kept k }
    placed_holds (IsModule m) named k = record { closed = h.closed; scope = h.scope; kept = placed_kept s (IsModule m) named h.kept k }
    placed_holds IsOwnModule named k = record { closed = h.closed; scope = h.scope; kept = placed_kept s IsOwnModule named h.kept k }

    pub added_holds : (b : Bounds) (e : EntityTree) (named : Bool) (after : Spaces) → Coheres names e → added b s e named ≡ Ok after → Holds is_closed after names around
    unfolding added
    added_holds b e named after k is =
        let deep = wanted_ok (is_within b.depth (depth_of e)) TooDeep _ after is in
        let big = wanted_ok (is_within b.nodes (entity_nodes e)) TooBig (Ok (placed s e named)) after deep.1 in
        subst (λ s. Holds is_closed s names around) (ok_is {F = ShapeFault} (placed s e named) after big.1) (placed_holds e named k)

-- imports or exports as entries
pub entries_kept : (names : Names) (es : List (List ℕ × Standing)) → ListKept names es → AllCohere names (entries_in es)
entries_kept names [] h = tt
entries_kept names (e ∷ es) h = (h.0, entries_kept names es h.1)

-- ---- names that a scope makes or brings

module _ (names : Names) (side base count resources : ℕ) (f : ℕ → Option ValueTree) where
  abbrev pub first : ℕ → Option ValueTree
  first j = cond (nat_lt j count) (f j) None

  -- so many places more, from a number on, which stand for these types, and so many resources that the scope makes
  abbrev pub extended : Names
  extended = record {
    resource = λ n. cond (n.out == 0) (nat_lt n.number resources) (names.resource n);
    tree = λ n. cond (n.out == side) (cond (nat_lt n.number base) (names.tree n) (first (n.number - base))) (names.tree n);
  }

  pub tree_new : (j : ℕ) → nat_lt j count ≡ true → extended.tree (record { out = side; number = base + j }) ≡ f j
  tree_new j lt =
      let here : (side == side) ≡ true = grind arith in
      let past : nat_lt (base + j) base ≡ false = grind arith in
      let back : base + j - base ≡ j = omega arith in
      rw (here, past, back, lt) refl

  pub tree_other : (n : Name) → (n.out == side) ≡ false → extended.tree n ≡ names.tree n
  tree_other n h = ap (λ b. cond b (cond (nat_lt n.number base) (names.tree n) (first (n.number - base))) (names.tree n)) h

  module _ (free : (j : ℕ) → base ≤ j → names.tree (record { out = side; number = j }) ≡ None) where
    pub tree_old : (n : Name) (t : ValueTree) → names.tree n ≡ Some t → extended.tree n ≡ Some t
    tree_old n t h = of (n.out == side) (nat_lt n.number base) refl refl
      where
        of : (b c : Bool) → (n.out == side) ≡ b → nat_lt n.number base ≡ c → cond b (cond c (names.tree n) (first (n.number - base))) (names.tree n) ≡ Some t
        of false c h1 h2 = h
        of true true h1 h2 = h
        of true false h1 h2 =
            let past : base ≤ n.number = grind arith in
            let none : names.tree n ≡ None = ap (λ o. names.tree (record { out = o; number = n.number })) (eqb-true n.out side h1) ∙ free n.number past in
            absurd cc

    pub free_again : (j : ℕ) → base + count ≤ j → extended.tree (record { out = side; number = j }) ≡ None
    free_again j le =
        let here : (side == side) ≡ true = grind arith in
        let past : nat_lt j base ≡ false = grind arith in
        let beyond : nat_lt (j - base) count ≡ false = grind arith in
        rw (here, past, beyond) refl
