-- An instance brings as many resources as it has that were not known.
use Rattle.std.proofs.Common.{◌≡◌, ℕ, suc, ◌+◌, ◌-◌, Bool, true, false, cond, List, [], ◌∷◌, ◌++◌, refl, sym, ap, subst, ◌∙◌, arith}
use Rattle.std.specs.Prelude.{nat_le, nat_lt, flat_map, max, ◌==◌}
use Rattle.std.specs.List.{fold}
use Rattle.comp_entity.specs.Entity.{Name, made, Value, Resource, Func, Instance, Component, EntityTree, IsType, IsFunc, IsInstance, IsComponent, IsModule, IsOwnModule, Entries, no_entry, entry}
use Rattle.comp_entity.specs.Names.{deeper, outside, entity_by, Mention, OfResource, in_entity, in_entries, resource_at}
use Rattle.compose_meaning.specs.Meaning.{Meaning, placing, placed_entries}
use Rattle.compose_meaning.specs.Readable.{Exporting, new_name, Spot, is_new, inside, within, first_spot, new_resources, behind, behind_all, exported_resources, HasMeaning, HaveMeaning}
use Rattle.compose_meaning.proofs.ListLaws.{Each, each_left, each_right, and_left, and_right}
use Rattle.compose_meaning.proofs.NameLaws.{here}
use Rattle.compose_meaning.proofs.OlderLaws.{below, beyond_all}
use Rattle.compose_meaning.proofs.TransportLaws.{entries_go}

-- one more than the largest is at most what all are below
at_most : (ns : List ℕ) (low most : ℕ) → nat_le low most ≡ true → Each (λ n. nat_le most n ≡ false) ns → nat_le (fold (λ most n. max most (suc n)) low ns) most ≡ true
at_most [] low most h each = h
at_most (n ∷ ns) low most h each = at_most ns (max low (suc n)) most (grind (arith, h, each.0)) each.1

pub joined : (Q : ℕ → Type 0) (ms : List (ℕ × Mention)) → Each (λ m. Each Q (resource_at 0 m)) ms → Each Q (flat_map (resource_at 0) ms)
joined Q [] h = tt
joined Q (m ∷ ms) h = both (resource_at 0 m) (flat_map (resource_at 0) ms) h.0 (joined Q ms h.1)
  where
    both : (xs ys : List ℕ) → Each Q xs → Each Q ys → Each Q (xs ++ ys)
    both [] ys a b = b
    both (x ∷ xs) ys a b = (a.0, both xs ys a.1 b)

-- within an instance numbers are smaller by what was there
smaller : (mean : Meaning) (p : Spot) (most : ℕ) → p.side ≡ Exporting → (d : ℕ) (r : Name) → below most (d, OfResource (outside mean.resource d r)) → below (most - p.resources) (d, OfResource (outside (within p mean).resource d r))
smaller mean p most side d r h = one (nat_lt r.out d) refl h
  where
    z : Name
    z = mean.resource (record r { out = r.out - d })

    out_is : (new_name p.side 0).out ≡ 0
    out_is = ap (λ s. (new_name s 0).out) side

    two : (b : Bool) → is_new p z ≡ b → below most (d, OfResource (deeper d z)) → below (most - p.resources) (d, OfResource (deeper d (cond b (made (z.number - p.resources)) (deeper 1 z))))
    two false is h = let far : (z.out + 1 + d == 0 + d) ≡ false = grind arith in subst (λ c. Each (λ n. nat_le (most - p.resources) n ≡ false) (cond c (z.number ∷ []) [])) (sym far) tt
    two true is h =
        let first : (z.out == 0) ≡ true = ap (λ o. z.out == o) (sym out_is) ∙ and_left (z.out == (new_name p.side 0).out) (nat_le p.resources z.number) is in
        let from : nat_le p.resources z.number ≡ true = and_right (z.out == (new_name p.side 0).out) (nat_le p.resources z.number) is in
        let here_it : (z.out + d == 0 + d) ≡ true = grind (arith, first) in
        let less : nat_le most z.number ≡ false = (subst (λ c. Each (λ n. nat_le most n ≡ false) (cond c (z.number ∷ []) [])) here_it h).0 in
        let now : (0 + d == 0 + d) ≡ true = grind arith in
        subst (λ c. Each (λ n. nat_le (most - p.resources) n ≡ false) (cond c ((z.number - p.resources) ∷ []) [])) (sym now) (grind (arith, less, from), tt)

    one : (b : Bool) → nat_lt r.out d ≡ b → below most (d, OfResource (cond b r (deeper d z))) → below (most - p.resources) (d, OfResource (cond b r (deeper d (inside p z))))
    one true lt h = let far : (r.out == 0 + d) ≡ false = grind (arith, lt) in subst (λ c. Each (λ n. nat_le (most - p.resources) n ≡ false) (cond c (r.number ∷ []) [])) (sym far) tt
    one false lt h = two (is_new p z) refl h

-- all that is brought is mentioned
entity_counts : (mean : Meaning) (p : Spot) (e : EntityTree) (most : ℕ) → p.side ≡ Exporting → HasMeaning mean p e → nat_le p.resources most ≡ true → Each (below most) (in_entity 0 (entity_by (placing mean.resource) 0 e)) → nat_le (p.resources + new_resources mean p e) most ≡ true
entity_counts mean p (IsType (Value t)) most side has low each = grind (arith, low)
entity_counts mean p (IsType (Resource r)) most side has low each = one (p.known (OfResource r)) refl
  where
    one : (b : Bool) → p.known (OfResource r) ≡ b → nat_le (p.resources + cond b 0 1) most ≡ true
    one true is = grind (arith, low)
    one false is =
        let called : outside mean.resource 0 r ≡ made p.resources = here mean.resource r ∙ has.1 is ∙ ap (λ s. new_name s p.resources) side in
        let less : nat_le most p.resources ≡ false = (subst (λ n. below most (0, OfResource n)) called each.0).0 in
        grind (arith, less)
entity_counts mean p (IsType (Func f)) most side has low each = grind (arith, low)
entity_counts mean p (IsType (Instance es)) most side has low each = grind (arith, low)
entity_counts mean p (IsType (Component is es)) most side has low each = grind (arith, low)
entity_counts mean p (IsFunc f) most side has low each = grind (arith, low)
entity_counts mean p (IsInstance es) most side has low each =
    let inner = entries_go (placing mean.resource) (placing (within p mean).resource) (below most) (below (most - p.resources)) (λ d r h. smaller mean p most side d r h) (λ d n. tt) 0 es each in
    let few : nat_le (new_resources mean p (IsInstance es)) (most - p.resources) ≡ true = at_most (flat_map (resource_at 0) (in_entries 0 (placed_entries (within p mean) es))) 0 (most - p.resources) (grind arith)
    (joined (λ n. nat_le (most - p.resources) n ≡ false) (in_entries 0 (placed_entries (within p mean) es)) inner) in
    grind (arith, few, low)
entity_counts mean p (IsComponent is es) most side has low each = grind (arith, low)
entity_counts mean p (IsModule m) most side has low each = grind (arith, low)
entity_counts mean p IsOwnModule most side has low each = grind (arith, low)

entries_count : (mean : Meaning) (p : Spot) (es : Entries) (most : ℕ) → p.side ≡ Exporting → HaveMeaning mean p es → nat_le p.resources most ≡ true → Each (below most) (in_entries 0 (placed_entries mean es)) → nat_le (behind_all mean p es).resources most ≡ true
unfolding behind_all
entries_count mean p no_entry most side have low each = low
entries_count mean p (entry name e mark es) most side have low each =
    entries_count mean (behind mean p name e) es most side have.2
    (entity_counts mean p e most side have.1 low (each_left (below most) (in_entity 0 (entity_by (placing mean.resource) 0 e)) (in_entries 0 (placed_entries mean es)) each))
    (each_right (below most) (in_entity 0 (entity_by (placing mean.resource) 0 e)) (in_entries 0 (placed_entries mean es)) each)

-- where it mentions no others
pub brings_as_many : (mean : Meaning) (p : Spot) (es : Entries) → HasMeaning mean p (IsInstance es) → Each (λ n. nat_le (exported_resources mean p es) n ≡ false) (flat_map (resource_at 0) (in_entries 0 (placed_entries (within p mean) es)))
    → new_resources mean p (IsInstance es) ≡ exported_resources mean p es
brings_as_many mean p es has each =
    let few : nat_le (new_resources mean p (IsInstance es)) (exported_resources mean p es) ≡ true = at_most (flat_map (resource_at 0) (in_entries 0 (placed_entries (within p mean) es))) 0 (exported_resources mean p es) (grind arith) each in
    let all : nat_le (exported_resources mean p es) (new_resources mean p (IsInstance es)) ≡ true =
    entries_count (within p mean) (first_spot Exporting p.known) es (new_resources mean p (IsInstance es)) refl has (grind arith) (beyond_all (in_entries 0 (placed_entries (within p mean) es))) in
    grind (arith, few, all)
