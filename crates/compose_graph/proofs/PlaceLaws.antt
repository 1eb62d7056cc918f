-- The places of numbers, as they are found by a map, and as entries that are gone over.
use Rattle.std.proofs.Common.{◌≡◌, ◌∙◌, ap, sym, refl, arith, ℕ, suc, ◌+◌, ◌<◌, Bool, true, false, cond, List, [], ◌∷◌, length, drop, map, Some}
use Rattle.std.specs.Prelude.{◌==◌, slice_index_or, unwrap_or}
use Rattle.std.specs.BTreeMap.{BTreeMap, Updates, get, is_at}
use Rattle.std.specs.Cmp.{nat_eq_equiv, unsigned_ties}
use Rattle.std.specs.Ordering.{nat_cmp}
use Rattle.std.proofs.lemmas.List.{drop_more}
use Rattle.compose_graph.specs.Composed.{composed_component}
use Rattle.compose_graph.specs.Wiring.{instance_id, place_among}
use Rattle.compose_graph.specs.Graph.{ComponentEntry, InstanceEntry}
use Rattle.compose_graph.specs.Listed.{component_entries, entry_of, instance_entry}
use Rattle.compose_graph.specs.Parts.{held}
use Rattle.compose_graph.specs.declared.part.Part.{Part}

-- one number more, in front of the others
module _ (ids : List ℕ) (p n k : ℕ) (old new : BTreeMap ℕ ℕ) where
  pub place_step : p < length ids → k ≡ slice_index_or ids p k → Updates nat_cmp old new k (Some p)
      → ((q : ℕ) → unwrap_or (get nat_cmp old q) n ≡ (p + 1) + place_among (drop (p + 1) ids) q)
      → (q : ℕ) → unwrap_or (get nat_cmp new q) n ≡ p + place_among (drop p ids) q
  place_step lt is u rest q =
      ap (λ o. unwrap_or o n) (u.0 q ∙ ap (λ b. cond b (Some p) (get nat_cmp old q)) (sym ties))
      ∙ one (q == k) (rest q)
      ∙ ap (λ (ds : List ℕ). p + place_among ds q) (sym front)
    where
      behind : ℕ
      behind = place_among (drop (p + 1) ids) q

      ties : (q == k) ≡ is_at (nat_cmp k) q
      ties = nat_eq_equiv.symm q k ∙ unsigned_ties k q

      front : drop p ids ≡ k ∷ drop (p + 1) ids
      front = drop_more ids p k lt ∙ ap (λ x. x ∷ drop (p + 1) ids) (sym is)

      one : (b : Bool) → unwrap_or (get nat_cmp old q) n ≡ (p + 1) + behind → unwrap_or (cond b (Some p) (get nat_cmp old q)) n ≡ p + cond b 0 (suc behind)
      one true r = omega arith
      one false r = omega (arith, r)

-- ---- entries

pub component_numbers : (es : List (ℕ × Part)) → map (λ (e : ℕ × Part). e.0) es ≡ map (λ (c : ComponentEntry). c.id) (component_entries (held es))
component_numbers [] = refl
component_numbers (e ∷ es) = ap (λ ns. e.0 ∷ ns) (component_numbers es)

pub components_listed : (es : List (ℕ × Part)) → map (λ (e : ℕ × Part). composed_component (entry_of e.0 e.1.component)) es ≡ map composed_component (component_entries (held es))
components_listed [] = refl
components_listed (e ∷ es) = ap (λ cs. composed_component (entry_of e.0 e.1.component) ∷ cs) (components_listed es)

pub instance_numbers : (es : List (ℕ × ℕ)) → map (λ (e : ℕ × ℕ). e.0) es ≡ map instance_id (map instance_entry es)
instance_numbers [] = refl
instance_numbers (e ∷ es) = ap (λ ns. e.0 ∷ ns) (instance_numbers es)

pub instances_of : (es : List (ℕ × ℕ)) → map (λ (e : ℕ × ℕ). e.1) es ≡ map (λ (i : InstanceEntry). i.component) (map instance_entry es)
instances_of [] = refl
instances_of (e ∷ es) = ap (λ ns. e.1 ∷ ns) (instances_of es)
