-- A type that is a scope is opened in the scope around it: its own names get names there, and those of the scope around
-- it are called as they are there.
use Rattle.std.proofs.Common.{◌≡◌, ℕ, ◌-◌, ◌≤◌, true, Option, Some, sym, ap, subst, ◌∙◌, arith}
use Rattle.std.specs.Prelude.{nat_lt}
use Rattle.comp_entity.specs.Entity.{Name, ValueTree}
use Rattle.comp_entity.specs.Names.{deeper, outside, value_by, OfResource, OfPlace}
use Rattle.comp_coherence.specs.Coherence.{Names, inward, within, any_resource}
use Rattle.comp_coherence.proofs.Values.{mentions, value_back}
use Rattle.comp_coherence.proofs.Changes.{by_depth, outside_zero, resource_far, tree_near, tree_far, outer_mentions, some_of, Asked, Carries, naming}

module _ (f g : Name → Name) (OfResources OfPlaces : Name → Type 0) (w : ℕ) (own : Name → Option ValueTree) (around there : Names) where
  abbrev pub opened_names : Names
  opened_names = within w (any_resource own) around

  abbrev pub opening_names : ℕ → ValueTree → ValueTree
  opening_names d t = value_by (naming f g (λ m. m) OfResources OfPlaces) d t

  -- what is asked of names of the scope, and of names around it
  pub record Opens : Type 0 where
    pub outer_f : (m : Name) → f (deeper w m) ≡ m
    pub outer_g : (m : Name) → g (deeper w m) ≡ m
    pub own_resource : (r : Name) → nat_lt r.out w ≡ true → OfResources r → there.resource (f r) ≡ true
    pub own_tree : (n : Name) (t : ValueTree) → nat_lt n.out w ≡ true → OfPlaces n → own n ≡ Some t → there.tree (g n) ≡ Some (opening_names 0 t)
    pub outer_resource : (m : Name) → around.resource m ≡ true → there.resource m ≡ true
    pub outer_tree : (m : Name) (t : ValueTree) → mentions around.resource t ≡ true → around.tree m ≡ Some t → there.tree m ≡ Some t

  module _ (o : Opens) where
    asked_zero : (P : Name → Type 0) (n : Name) → (0 ≤ n.out → P (record n { out = n.out - 0 })) → P n
    asked_zero P n h =
        let same : n.out - 0 ≡ n.out = omega arith in
        subst (λ k. P (record { out = k; number = n.number })) same (h (omega arith))

    abbrev ResourceKept : Name → Type 0
    ResourceKept r = Asked f g (λ m. m) OfResources OfPlaces (0, OfResource r) → opened_names.resource r ≡ true → there.resource (outside f 0 r) ≡ true

    abbrev TreeKept : Name → Type 0
    TreeKept n = (t : ValueTree) → Asked f g (λ m. m) OfResources OfPlaces (0, OfPlace n) → mentions opened_names.resource t ≡ true → opened_names.tree n ≡ Some t
        → there.tree (outside g 0 n) ≡ Some (opening_names 0 t)

    resource_in : (r : Name) → nat_lt r.out w ≡ true → ResourceKept r
    resource_in r lt asked h = ap there.resource (outside_zero f r) ∙ o.own_resource r lt (asked_zero OfResources r asked)

    resource_out : (m : Name) → ResourceKept (deeper w m)
    resource_out m asked h =
        ap there.resource (outside_zero f (deeper w m) ∙ o.outer_f m) ∙ o.outer_resource m (sym (resource_far w (any_resource own) around m) ∙ h)

    tree_in : (n : Name) → nat_lt n.out w ≡ true → TreeKept n
    tree_in n lt t asked only h =
        ap there.tree (outside_zero g n) ∙ o.own_tree n t lt (asked_zero OfPlaces n asked) (sym (tree_near w (any_resource own) around n lt) ∙ h)

    tree_out : (m : Name) → TreeKept (deeper w m)
    tree_out m t asked only h =
        let u = some_of (inward w) (around.tree m) t (sym (tree_far w (any_resource own) around m) ∙ h) in
        let same : inward w u.0 ≡ t = u.2 in
        let out = outer_mentions w (any_resource own) around u.0 (ap (mentions opened_names.resource) same ∙ only) in
        ap there.tree (outside_zero g (deeper w m) ∙ o.outer_g m) ∙ o.outer_tree m u.0 out u.1
        ∙ ap Some (sym (value_back f g (deeper w) (deeper w) o.outer_f o.outer_g u.0) ∙ ap (opening_names 0) same)

    pub opens : Carries f g (λ m. m) OfResources OfPlaces 0 opened_names there
    opens = record { resource = by_depth ResourceKept w resource_in resource_out; tree = by_depth TreeKept w tree_in tree_out }
