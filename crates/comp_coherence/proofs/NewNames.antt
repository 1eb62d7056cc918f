-- Names that a scope makes, or that its imports bring, behind those that it had.
use Rattle.std.proofs.Common.{◌≡◌, ℕ, ◌+◌, ◌≤◌, Bool, true, false, cond, Option, refl, sym, ap, ◌∙◌, arith}
use Rattle.std.specs.Prelude.{nat_lt, ◌==◌}
use Rattle.std.proofs.lemmas.Bool.{eqb-true}
use Rattle.comp_entity.specs.Entity.{Name, ValueTree}
use Rattle.comp_entity.specs.Names.{deeper, Counts}
use Rattle.comp_scope.specs.Spaces.{counts_sum}
use Rattle.comp_coherence.specs.Coherence.{Names}
use Rattle.comp_coherence.proofs.Changes.{Grows}
use Rattle.comp_coherence.proofs.Scopes.{wide, ScopeNames, extended, tree_old, tree_other, free_again}

far_from : (is_closed : Bool) (n side : ℕ) → (side ≡ 1 → is_closed ≡ true) → side ≤ 1 → (n + wide is_closed == side) ≡ false
far_from true n side closed le = grind arith
far_from false n side closed le = of side le closed
  where
    of : (side : ℕ) → side ≤ 1 → (side ≡ 1 → false ≡ true) → (n + 1 == side) ≡ false
    of side le closed = one (side == 1) refl
      where
        one : (b : Bool) → (side == 1) ≡ b → (n + 1 == side) ≡ false
        one true h = absurd (false_is (closed (eqb-true side 1 h)))
          where
            false_is : false ≡ true → ⊥
            false_is e = cc
        one false h = grind arith

module _ (is_closed : Bool) (makes brings : Counts) (names around : Names) (n : ScopeNames is_closed makes brings names around) where
  -- a resource of the scope is one that it made
  pub own_resource : (r : Name) → (r.out == 0) ≡ true → names.resource r ≡ nat_lt r.number makes.resources
  own_resource r h = ap (λ o. names.resource (record { out = o; number = r.number })) (eqb-true r.out 0 h) ∙ n.made_resource r.number

  pub resource_grows : (side base count more : ℕ) (f : ℕ → Option ValueTree) (r : Name) → names.resource r ≡ true → (extended names side base count (makes.resources + more) f).resource r ≡ true
  resource_grows side base count more f r h = of (r.out == 0) refl
    where
      of : (b : Bool) → (r.out == 0) ≡ b → cond b (nat_lt r.number (makes.resources + more)) (names.resource r) ≡ true
      of true is = let lt : nat_lt r.number makes.resources ≡ true = sym (own_resource r is) ∙ h in grind arith
      of false is = h

  module _ (count : Counts) (f : ℕ → Option ValueTree) where
    abbrev pub with_made : Names
    with_made = extended names 0 makes.places count.places (makes.resources + count.resources) f

    pub made_grows : Grows names with_made
    made_grows = record {
      resource = resource_grows 0 makes.places count.places count.resources f;
      tree = tree_old names 0 makes.places count.places (makes.resources + count.resources) f n.made_free;
    }

    pub made_scope : ScopeNames is_closed (counts_sum makes count) brings with_made around
    made_scope = record {
      outer_resource = λ m. ap (λ b. cond b (nat_lt m.number (makes.resources + count.resources)) (names.resource (deeper (wide is_closed) m))) (far_from is_closed m.out 0 (λ e. absurd (omega (arith, e))) (omega arith)) ∙ n.outer_resource m;
      outer_tree = λ m. tree_other names 0 makes.places count.places (makes.resources + count.resources) f (deeper (wide is_closed) m) (far_from is_closed m.out 0 (λ e. absurd (omega (arith, e))) (omega arith)) ∙ n.outer_tree m;
      made_resource = λ j. refl;
      brought_resource = n.brought_resource;
      made_free = free_again names 0 makes.places count.places (makes.resources + count.resources) f n.made_free;
      brought_free = n.brought_free;
    }

    abbrev pub with_brought : Names
    with_brought = extended names 1 brings.places count.places (makes.resources + 0) f

    module _ (closed : is_closed ≡ true) where
      pub brought_grows : Grows names with_brought
      brought_grows = record {
        resource = resource_grows 1 brings.places count.places 0 f;
        tree = tree_old names 1 brings.places count.places (makes.resources + 0) f (n.brought_free closed);
      }

      pub brought_scope : ScopeNames is_closed makes (counts_sum brings count) with_brought around
      brought_scope = record {
        outer_resource = λ m. ap (λ b. cond b (nat_lt m.number (makes.resources + 0)) (names.resource (deeper (wide is_closed) m))) (far_from is_closed m.out 0 (λ e. closed) (omega arith)) ∙ n.outer_resource m;
        outer_tree = λ m. tree_other names 1 brings.places count.places (makes.resources + 0) f (deeper (wide is_closed) m) (far_from is_closed m.out 1 (λ e. closed) (omega arith)) ∙ n.outer_tree m;
        made_resource = λ j. let same : makes.resources + 0 ≡ makes.resources = omega arith in ap (nat_lt j) same;
        brought_resource = n.brought_resource;
        made_free = n.made_free;
        brought_free = λ e. free_again names 1 brings.places count.places (makes.resources + 0) f (n.brought_free closed);
      }
