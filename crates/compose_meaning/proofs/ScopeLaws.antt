-- What is known around a type that is a scope of names, and how its own resources are counted.
use Rattle.std.proofs.Common.{◌≡◌, inr, ℕ, suc, ◌+◌, ◌-◌, Bool, true, false, cond, not, ◌&&◌, ◌||◌, List, ◌∷◌, ◌++◌, Option, Some, None, refl, sym, ap, subst, ◌∙◌, arith}
use Rattle.std.specs.Prelude.{option_and_then, nat_lt, flat_map, ◌==◌, unwrap_or, position, length}
use Rattle.std.proofs.lemmas.Option.{option_and_then_some}
use Rattle.comp_entity.specs.Entity.{Name, made, Value, Resource, IsType, Entries}
use Rattle.comp_entity.specs.Names.{changing, deeper, outside, value_by, entries_by, without_places, Mention, OfResource, OfPlace, in_entries, resource_at, place_at, numbers_at, mentions_resource}
use Rattle.comp_entity.specs.NameLaws.{value_twice, entries_twice}
use Rattle.comp_scope.specs.Spaces.{Known, nothing_known, entries_in}
use Rattle.comp_scope.specs.Closing.{first_mentions, renumbered, mentions_in, numbered}
use Rattle.comp_scope.specs.Closing.{closed as closed_sides}
use Rattle.compose_writing.specs.Keys.{mention_outside, holds_there, from_within}
use Rattle.compose_writing.specs.Scopes.{WrittenScope, knows}
use Rattle.compose_writing.specs.Scopes.{opened as opened_scope}
use Rattle.compose_meaning.specs.Meaning.{Meaning, placing, placed_entries, Meant, meant}
use Rattle.compose_meaning.specs.Stands.{inward, further_out, reach, IsFree, MayBring}
use Rattle.compose_meaning.specs.Readable.{by_scope, further_in, is_free, may_within, meaning_within, own_order, IsNumbered}
use Rattle.compose_meaning.specs.Shows.{AllShow}
use Rattle.compose_meaning.proofs.ListLaws.{map_some, and_left, and_right}
use Rattle.compose_meaning.proofs.NameLaws.{here, bare_change, placing_bare, placing_twice, placing_changing, value_mentions}
use Rattle.compose_meaning.proofs.CountLaws.{resources, alike, entries_alike}
use Rattle.compose_meaning.proofs.KnownLaws.{mention_back}
use Rattle.compose_meaning.proofs.OpenLaws.{Shifts, name_out, mention_out, reach_knows, free_placed}
use Rattle.compose_meaning.proofs.ShowsLaws.{all_bare}

-- ---- names of the scopes around

module _ (is_component : Bool) (w : ℕ) (own mean : Meaning) where
  pub resource_in : (n : Name) → outside mean.resource w (deeper w n) ≡ deeper w (mean.resource n)
  resource_in n =
      let past : nat_lt (n.out + w) w ≡ false = grind arith in
      let back : n.out + w - w ≡ n.out = omega arith in
      rw past (ap (λ m. deeper w (mean.resource (record { out = m; number = n.number }))) back)

  pub tree_in : (n : Name) → (meaning_within is_component w own mean).tree (deeper w n) ≡ value_by (changing (deeper w) (deeper w)) 0 (mean.tree n)
  tree_in n = ap (by_scope (own.tree (deeper w n)) (further_in w mean)) (name_out w n)

  -- what is known around it means the same in it
  pub scope_shifts : (known : Mention → Bool) → Shifts w known (meant mean) (further_out w (meant (meaning_within is_component w own mean)))
  scope_shifts known (OfResource n) h = (ap (λ r. IsType (Resource r)) (here (deeper w) (outside mean.resource 0 n) ∙ ap (deeper w) (here mean.resource n) ∙ sym (resource_in n) ∙ sym (here (outside mean.resource w) (deeper w n))), refl)
  scope_shifts known (OfPlace n) h = (
    ap (λ t. IsType (Value t))
        (value_twice (placing (deeper w)) (placing mean.resource) (placing (λ n. deeper w (mean.resource n))) (placing_twice (deeper w) mean.resource (λ n. deeper w (mean.resource n)) (λ n. refl)) 0 (mean.tree n)
        ∙ sym (value_twice (placing (outside mean.resource w)) (changing (deeper w) (deeper w)) (placing (λ n. deeper w (mean.resource n))) (placing_changing (outside mean.resource w) (deeper w) (deeper w) (λ n. deeper w (mean.resource n)) resource_in) 0 (mean.tree n))
        ∙ ap (value_by (placing (outside mean.resource w)) 0) (sym (tree_in n))),
    sym (ap (by_scope (own.bit (deeper w n)) mean.bit) (name_out w n)),
  )

  may_in : (key : Mention) → (meaning_within is_component w own mean).may_mention (inward w key) ≡ true → (mean.may_mention key && (not is_component || is_free mean key)) ≡ true
  may_in key h = ap (may_within is_component mean) (sym (mention_out w key)) ∙ h

  pub scope_may : (key : Mention) → (meaning_within is_component w own mean).may_mention (inward w key) ≡ true → mean.may_mention key ≡ true
  scope_may key h = and_left (mean.may_mention key) (not is_component || is_free mean key) (may_in key h)

-- what may be mentioned within a component is free
pub component_may : (w : ℕ) (own mean : Meaning) (key : Mention) → (meaning_within true w own mean).may_mention (inward w key) ≡ true → IsFree (meant mean key).entity
component_may w own mean key h = one key (and_right (mean.may_mention key) (is_free mean key) (may_in true w own mean key h))
  where
    not_true : (b : Bool) → not b ≡ true → b ≡ false
    not_true true h = absurd cc
    not_true false h = refl

    one : (key : Mention) → is_free mean key ≡ true → IsFree (meant mean key).entity
    one (OfResource r) h = absurd cc
    one (OfPlace n) h = value_mentions (placing mean.resource) 0 (mean.tree n) ∙ not_true (mentions_resource (Value (mean.tree n))) h

pub closed_brings : (u w : ℕ) (inner_may : Mention → Bool) (mean inner : Mention → Meant) (ms : List WrittenScope) (ks : List Known) → Shifts u (knows ms) mean (further_out w inner) → ((key : Mention) → inner_may (inward w key) ≡ true → IsFree (mean key).entity)
    → MayBring inner_may inner (opened_scope w ∷ ms) (nothing_known true ∷ ks)
unfolding reach
closed_brings u w inner_may mean inner ms ks shift mays key up is at = map_some suc (option_and_then (reach ms) (mention_outside w key)) up at (λ n a c. option_and_then_some (reach ms) (mention_outside w key) n a (λ other e f.
    let back : inward w other ≡ key = mention_back w key other e in
    let known = reach_knows ms other n f in
    inr (subst (λ (key : Mention). IsFree (inner key).entity) back (subst IsFree (shift other known).0 (free_placed (deeper u) (mean other).entity (mays other (ap inner_may back ∙ is)))))))

-- what is known in it at its begin
pub scope_knows : (w : ℕ) (ms : List WrittenScope) (known : Mention → Bool) → ((key : Mention) → knows ms key ≡ known key) → (key : Mention) → knows (opened_scope w ∷ ms) key ≡ from_within w known key
unfolding knows
scope_knows w ms known same key = one (mention_outside w key)
  where
    one : (o : Option Mention) → holds_there (knows ms) o ≡ holds_there known o
    one None = refl
    one (Some other) = same other

-- ---- the numbers of what a component makes

-- a resource of its own stays, whatever is called otherwise around it
own_counted : (f : Name → Name) (d : ℕ) (n : Name) → resource_at 0 (d, OfResource (outside (outside f 2) d n)) ≡ resource_at 0 (d, OfResource n)
own_counted f d n = one (nat_lt n.out d) (nat_lt (n.out - d) 2) refl refl
  where
    Numbers : Name → Type 0
    Numbers m = numbers_at 0 d m ≡ numbers_at 0 d n

    one : (a b : Bool) → nat_lt n.out d ≡ a → nat_lt (n.out - d) 2 ≡ b → numbers_at 0 d (cond a n (deeper d (cond b (record n { out = n.out - d }) (deeper 2 (f (record n { out = n.out - d - 2 })))))) ≡ numbers_at 0 d n
    one true b ha hb = refl
    one false true ha hb = let back : n.out - d + d ≡ n.out = grind (arith, ha) in ap (λ m. numbers_at 0 d (record { out = m; number = n.number })) back
    one false false ha hb =
        let far : (n.out == 0 + d) ≡ false = grind (arith, ha, hb) in
        let m : Name = f (record n { out = n.out - d - 2 }) in
        let farther : (m.out + 2 + d == 0 + d) ≡ false = grind arith in
        rw (far, farther) refl

order_is : (f : Name → Name) (inner : Meaning) (is es fs gs : Entries) → inner.resource ≡ outside f 2 → AllShow inner is fs → AllShow inner es gs → first_mentions (flat_map (resource_at 0) (in_entries 0 gs ++ in_entries 0 fs)) ≡ own_order is es
order_is f inner is es fs gs same i e = ap first_mentions (alike 0 (in_entries 0 gs) (in_entries 0 fs) (in_entries 0 es) (in_entries 0 is) (one es gs e) (one is fs i))
  where
    one : (es gs : Entries) → AllShow inner es gs → resources 0 (in_entries 0 gs) ≡ resources 0 (in_entries 0 es)
    one es gs e = sym (entries_alike 0 without_places (λ d n. refl) 0 gs) ∙ ap (λ es. resources 0 (in_entries 0 es)) (all_bare inner es gs e)
        ∙ ap (λ f. resources 0 (in_entries 0 (entries_by (placing f) 0 es))) same ∙ entries_alike 0 (placing (outside f 2)) (own_counted f) 0 es

-- numbering commutes with names of scopes around
commutes : (f : Name → Name) (order : List ℕ) (n : Name) → outside f 2 (renumbered order n) ≡ renumbered order (outside f 2 n)
commutes f order n = one (n.out == 0) (nat_lt n.out 2) refl refl
  where
    again : ℕ → Name
    again m = made (unwrap_or (position (λ k. k == m) order) (length order))

    one : (a b : Bool) → (n.out == 0) ≡ a → nat_lt n.out 2 ≡ b → outside f 2 (cond a (again n.number) n) ≡ renumbered order (cond b n (deeper 2 (f (record n { out = n.out - 2 }))))
    one true true ha hb = rw ha refl
    one true false ha hb = absurd (grind (arith, ha, hb))
    one false true ha hb = rw (ha, hb) refl
    one false false ha hb =
        let m : Name = f (record n { out = n.out - 2 }) in
        let past : (m.out + 2 == 0) ≡ false = grind arith in
        rw (hb, past) refl

-- a side of a component, numbered
pub side_reads : (f : Name → Name) (inner : Meaning) (order : List ℕ) (place : Name → Name) (es fs : Entries) → inner.resource ≡ outside f 2 → entries_by (changing (renumbered order) (λ n. n)) 0 es ≡ es → AllShow inner es fs
    → entries_by without_places 0 (entries_by (changing (renumbered order) place) 0 fs) ≡ placed_entries inner es
side_reads f inner order place es fs same stays shows =
    entries_twice without_places (changing (renumbered order) place) (placing (renumbered order)) (bare_change (renumbered order) place) 0 fs
    ∙ sym (entries_twice (placing (renumbered order)) without_places (placing (renumbered order)) (placing_bare (renumbered order)) 0 fs)
    ∙ ap (entries_by (placing (renumbered order)) 0) (all_bare inner es fs shows)
    ∙ entries_twice (placing (renumbered order)) (placing inner.resource) (placing (λ n. renumbered order (inner.resource n))) (placing_twice (renumbered order) inner.resource (λ n. renumbered order (inner.resource n)) (λ n. refl)) 0 es
    ∙ sym (entries_twice (placing inner.resource) (changing (renumbered order) (λ n. n)) (placing (λ n. renumbered order (inner.resource n))) (placing_changing inner.resource (renumbered order) (λ n. n) (λ n. renumbered order (inner.resource n)) goes) 0 es)
    ∙ ap (placed_entries inner) stays
  where
    goes : (n : Name) → inner.resource (renumbered order n) ≡ renumbered order (inner.resource n)
    goes n = ap (λ g. g (renumbered order n)) same ∙ commutes f order n ∙ ap (λ g. renumbered order (g n)) (sym same)

-- both sides
pub sides_read : (f : Name → Name) (inner : Meaning) (is es : Entries) (k : Known) → inner.resource ≡ outside f 2 → IsNumbered is es → AllShow inner is (entries_in k.imports) → AllShow inner es (entries_in k.exports)
    → (entries_by without_places 0 (closed_sides k).imports ≡ placed_entries inner is) × (entries_by without_places 0 (closed_sides k).exports ≡ placed_entries inner es)
sides_read f inner is es k same numbered i e = (
  side_reads f inner order places is (entries_in k.imports) same (stays is numbered.imports) i,
  side_reads f inner order places es (entries_in k.exports) same (stays es numbered.exports) e,
)
  where
    order : List ℕ
    order = first_mentions (flat_map (resource_at 0) (in_entries 0 (entries_in k.exports) ++ in_entries 0 (entries_in k.imports)))

    places : Name → Name
    places = renumbered (first_mentions (flat_map (place_at 0) (mentions_in (record { imports = entries_in k.imports; exports = entries_in k.exports }))))

    stays : (x : Entries) → entries_by (changing (renumbered (own_order is es)) (λ n. n)) 0 x ≡ x → entries_by (changing (renumbered order) (λ n. n)) 0 x ≡ x
    stays x h = ap (λ o. entries_by (changing (renumbered o) (λ n. n)) 0 x) (order_is f inner is es (entries_in k.imports) (entries_in k.exports) same i e) ∙ h
