-- What a description describes keeps one name for one type.
use Rattle.std.proofs.Common.{◌≡◌, ℕ, ◌+◌, ◌-◌, ◌≤◌, Bool, true, false, cond, Option, Some, None, Ok, refl, sym, ap, subst, ◌∙◌, arith}
use Rattle.std.specs.Prelude.{nat_lt, option_map, ◌==◌, flat_map}
use Rattle.warg_values.specs.ReadingLaws.{bind_ok, ok_is, never}
use Rattle.comp_format.specs.declared.types.TypeRef.{TypeRef}
use Rattle.comp_format.specs.declared.types.TypeRef.TheVariants as description
use Rattle.comp_entity.specs.Entity.{Name, made, ValueTree, RecordOf, VariantOf, FlagsOf, EnumOf, TypeShapeTree, Value, Func, Instance, Component, EntityTree, IsType, IsFunc, IsComponent, Entries}
use Rattle.comp_entity.specs.Names.{deeper, value_by, entries_by, in_entries, resource_at, place_at, Counts, counts_at}
use Rattle.comp_entity.specs.Bounds.{ShapeFault}
use Rattle.comp_scope.specs.Spaces.{Spaces, Standing, at_index, no_counts}
use Rattle.comp_scope.specs.CoreScopes.{as_module}
use Rattle.comp_scope.specs.Descriptions.{NewNames, opened, opening, named_by, names_a_place, Described, described_type, described_func, described_component, described_instance, described}
use Rattle.comp_coherence.specs.Coherence.{Names, bare_value, within, any_resource, TypeCoheres, Coheres, AllCohere}
use Rattle.comp_coherence.proofs.Values.{mentions}
use Rattle.comp_coherence.proofs.Changes.{reached, all_carried}
use Rattle.comp_coherence.proofs.Scopes.{ScopeNames, AllKept, at_kept, extended, tree_new, tree_old}
use Rattle.comp_coherence.proofs.Defined.{answer}
use Rattle.comp_coherence.proofs.NewNames.{resource_grows}
use Rattle.comp_coherence.proofs.Mentions.{Numbered, numbers_asked, below_beyond}
use Rattle.comp_coherence.proofs.Leaving.{Opens, opens}

-- a type that mentions such resources alone
abbrev pub kept_if : (ValueTree → Bool) → Option ValueTree → Option ValueTree
kept_if test None = None
kept_if test (Some t) = cond (test t) (Some t) None

pub kept_is : (test : ValueTree → Bool) (o : Option ValueTree) (t : ValueTree) → kept_if test o ≡ Some t → o ≡ Some t
kept_is test None t h = absurd cc
kept_is test (Some u) t h = of (test u) h
  where
    of : (b : Bool) → cond b (Some u) None ≡ Some t → Some u ≡ Some t
    of true h = h
    of false h = absurd cc

pub keeps_it : (test : ValueTree → Bool) (o : Option ValueTree) (t : ValueTree) → test t ≡ true → o ≡ Some t → kept_if test o ≡ Some t
keeps_it test o t is h = ap (kept_if test) h ∙ ap (λ b. cond b (Some t) None) is

pub kept_passes : (test : ValueTree → Bool) (o : Option ValueTree) (t : ValueTree) → kept_if test o ≡ Some t → test t ≡ true
kept_passes test None t h = absurd cc
kept_passes test (Some u) t h = of (test u) refl h
  where
    of : (b : Bool) → test u ≡ b → cond b (Some u) None ≡ Some t → test t ≡ true
    of true is h = let same : u ≡ t = cc in sym (ap test same) ∙ is
    of false is h = absurd cc

-- names of which those that were there mention such resources alone
abbrev pub settled : Names → Names
settled names = record { resource = names.resource; tree = λ n. kept_if (mentions names.resource) (names.tree n) }

-- What is new on a side: places from a number on, and resources. `more` is how many resources more the scope makes.
module _ (is_closed : Bool) (makes brings : Counts) (names around : Names) (n : ScopeNames is_closed makes brings names around) (side base : ℕ) (more : ℕ → ℕ) (new : NewNames) where
  abbrev pub with_new : Counts → (ℕ → Option ValueTree) → Names
  with_new c f = extended (settled names) side base c.places (makes.resources + more c.resources) f

  pub record NewSide : Type 0 where
    pub place : (j : ℕ) → new.place j ≡ record { out = side; number = base + j }
    pub resource : (c j : ℕ) → nat_lt j c ≡ true → (cond ((new.resource j).out == 0) (nat_lt (new.resource j).number (makes.resources + more c)) (names.resource (new.resource j))) ≡ true
    pub free : (j : ℕ) → base ≤ j → names.tree (record { out = side; number = j }) ≡ None

  -- what was described, and what it brings
  pub record Keeping (d : Described) : Type 0 where
    pub trees : ℕ → Option ValueTree
    pub keeps : Coheres (with_new d.brings trees) d.standing.0

  module _ (new_side : NewSide) where
    settled_free : (j : ℕ) → base ≤ j → (settled names).tree (record { out = side; number = j }) ≡ None
    settled_free j le = ap (kept_if (mentions names.resource)) (new_side.free j le)

    module _ (c : Counts) (f : ℕ → Option ValueTree) where
      old_resource : (r : Name) → names.resource r ≡ true → (with_new c f).resource r ≡ true
      old_resource r h = resource_grows is_closed makes brings names around n side base c.places (more c.resources) f r h

      old_tree : (m : Name) (t : ValueTree) → mentions names.resource t ≡ true → names.tree m ≡ Some t → (with_new c f).tree m ≡ Some t
      old_tree m t only h = tree_old (settled names) side base c.places (makes.resources + more c.resources) f settled_free m t (keeps_it (mentions names.resource) (names.tree m) t only h)

      pub still_keeps : (e : EntityTree) → Coheres names e → Coheres (with_new c f) e
      still_keeps e h = reached names (with_new c f) (record { resource = old_resource; tree = old_tree }) e h

    -- ---- types that a place names

    module _ (t : ValueTree) where
      abbrev brings_one : Counts
      brings_one = record { resources = 0; places = 1 }

      abbrev stands_for : ℕ → Option ValueTree
      stands_for j = Some (bare_value t)

      new_place : (with_new brings_one stands_for).tree (new.place 0) ≡ Some (bare_value t)
      new_place = ap (with_new brings_one stands_for).tree (new_side.place 0) ∙ tree_new (settled names) side base 1 (makes.resources + more 0) stands_for 0 refl

    pub named_keeps : (t : TypeShapeTree) (named : Bool) → TypeCoheres names t → Keeping (record { standing = (IsType (named_by (new.place 0) t), named); brings = record { resources = 0; places = names_a_place t } })
    named_keeps (Value (RecordOf None fs)) named h =
        record { trees = stands_for (RecordOf None fs); keeps = (new_place (RecordOf None fs), (still_keeps (brings_one (RecordOf None fs)) (stands_for (RecordOf None fs)) (IsType (Value (RecordOf None fs))) h).1) }
    named_keeps (Value (VariantOf None cs)) named h =
        record { trees = stands_for (VariantOf None cs); keeps = (new_place (VariantOf None cs), (still_keeps (brings_one (VariantOf None cs)) (stands_for (VariantOf None cs)) (IsType (Value (VariantOf None cs))) h).1) }
    named_keeps (Value (FlagsOf None ls)) named h = record { trees = stands_for (FlagsOf None ls); keeps = new_place (FlagsOf None ls) }
    named_keeps (Value (EnumOf None ls)) named h = record { trees = stands_for (EnumOf None ls); keeps = new_place (EnumOf None ls) }
    named_keeps t named h = record { trees = λ j. None; keeps = still_keeps (record { resources = 0; places = names_a_place t }) (λ j. None) (IsType t) h }

    -- ---- instances of a type

    module _ (es : Entries) (own : Name → Option ValueTree) (h : AllCohere (within 1 (any_resource own) names) es) where
      abbrev brought_by : Counts
      brought_by = counts_at 0 (in_entries 0 es)

      abbrev own_trees : ℕ → Option ValueTree
      own_trees j = option_map (value_by (opening new) 0) (own (made j))

      abbrev there : Names
      there = with_new brought_by own_trees

      abbrev ResourceBelow : ℕ → Type 0
      ResourceBelow n = nat_lt n brought_by.resources ≡ true

      abbrev PlaceBelow : ℕ → Type 0
      PlaceBelow n = nat_lt n brought_by.places ≡ true

      opened_outer : (name : ℕ → Name) (m : Name) → opened name (deeper 1 m) ≡ m
      opened_outer name m =
          let far : (m.out + 1 == 0) ≡ false = grind arith in
          let back : m.out + 1 - 1 ≡ m.out = omega arith in
          rw far (ap (λ o. record { out = o; number = m.number }) back)

      opened_own : (name : ℕ → Name) (r : Name) → nat_lt r.out 1 ≡ true → (opened name r ≡ name r.number) × (r.out ≡ 0)
      opened_own name r lt =
          let zeroth : r.out ≡ 0 = grind arith in
          let is : (r.out == 0) ≡ true = grind arith in
          (rw is refl, zeroth)

      opens_instance : Opens (opened new.resource) (opened new.place) (Numbered 0 ResourceBelow) (Numbered 0 PlaceBelow) 1 own names there
      opens_instance = record {
        outer_f = opened_outer new.resource;
        outer_g = opened_outer new.place;
        own_resource = λ r lt asked.
            let at = opened_own new.resource r lt in
            ap there.resource at.0 ∙ new_side.resource brought_by.resources r.number (asked at.1);
        own_tree = λ n t lt asked is.
            let at = opened_own new.place n lt in
            ap there.tree (at.0 ∙ new_side.place n.number)
            ∙ tree_new (settled names) side base brought_by.places (makes.resources + more brought_by.resources) own_trees n.number (asked at.1)
            ∙ ap (option_map (value_by (opening new) 0)) (ap (λ o. own (record { out = o; number = n.number })) (sym at.1) ∙ is);
        outer_resource = old_resource brought_by own_trees;
        outer_tree = old_tree brought_by own_trees;
      }

      pub instance_keeps : AllCohere there (entries_by (opening new) 0 es)
      instance_keeps =
          all_carried (opened new.resource) (opened new.place) (λ m. m) (Numbered 0 ResourceBelow) (Numbered 0 PlaceBelow) 0 (within 1 (any_resource own) names) there
          (opens (opened new.resource) (opened new.place) (Numbered 0 ResourceBelow) (Numbered 0 PlaceBelow) 1 own names there opens_instance)
          es h
          (numbers_asked (opened new.resource) (opened new.place) (λ m. m) 0 ResourceBelow PlaceBelow (in_entries 0 es) (below_beyond (flat_map (resource_at 0) (in_entries 0 es))) (below_beyond (flat_map (place_at 0) (in_entries 0 es))))

    -- ---- descriptions

    read_is : (d e : Described) → answer d ≡ answer e → Keeping d → Keeping e
    read_is d e is h = subst Keeping (ok_is {F = ShapeFault} d e is) h

    type_described : (e : Standing) (d : Described) → Coheres names e.0 → described_type new e ≡ Ok d → Keeping d
    type_described (IsType t, named) d h is = read_is _ d is (named_keeps t _ h)
    type_described _ d h is = never _ _ is

    func_described : (e : Standing) (d : Described) → Coheres names e.0 → described_func e ≡ Ok d → Keeping d
    func_described (IsType (Func f), true) d h is = read_is _ d is (record { trees = λ j. None; keeps = still_keeps no_counts (λ j. None) (IsFunc f) h })
    func_described _ d h is = never _ _ is

    component_described : (e : Standing) (d : Described) → Coheres names e.0 → described_component e ≡ Ok d → Keeping d
    component_described (IsType (Component is es), named) d h e = read_is _ d e (record { trees = λ j. None; keeps = still_keeps no_counts (λ j. None) (IsComponent is es) h })
    component_described _ d h is = never _ _ is

    instance_described : (e : Standing) (d : Described) → Coheres names e.0 → described_instance new e ≡ Ok d → Keeping d
    instance_described (IsType (Instance es), named) d h is = read_is _ d is (record { trees = own_trees es h.0 h.1; keeps = instance_keeps es h.0 h.1 })
    instance_described _ d h is = never _ _ is

    module _ (s : Spaces) (k : AllKept names s) where
      pub described_keeps : (ref : TypeRef) (d : Described) → described s new ref ≡ Ok d → Keeping d
      unfolding described
      described_keeps (description.Module i) d e =
          let t = bind_ok (at_index s.core_types i) _ d e in
          let m = bind_ok (as_module t.0) _ d t.2 in
          read_is _ d m.2 (record { trees = λ j. None; keeps = tt })
      described_keeps (description.Func i) d e =
          let t = bind_ok (at_index s.types i) described_func d e in
          func_described t.0 d (at_kept names s.types i t.0 k.types t.1) t.2
      described_keeps (description.TyEqual i) d e =
          let t = bind_ok (at_index s.types i) (described_type new) d e in
          type_described t.0 d (at_kept names s.types i t.0 k.types t.1) t.2
      described_keeps description.TyFresh d e =
          read_is _ d e (record { trees = λ j. None; keeps = new_side.resource 1 0 refl })
      described_keeps (description.Component i) d e =
          let t = bind_ok (at_index s.types i) described_component d e in
          component_described t.0 d (at_kept names s.types i t.0 k.types t.1) t.2
      described_keeps (description.Instance i) d e =
          let t = bind_ok (at_index s.types i) (described_instance new) d e in
          instance_described t.0 d (at_kept names s.types i t.0 k.types t.1) t.2
