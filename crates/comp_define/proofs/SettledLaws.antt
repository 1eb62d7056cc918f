-- Laws of closed imports and exports: what is closed is settled.
use Rattle.std.specs.Prelude.{◌≡◌, ℕ, suc, ◌≤◌, Bool, true, false, cond, ◌==◌, nat_lt, List, [], ◌∷◌, ◌++◌, map, flat_map, length, refl}
use Rattle.std.specs.List.{fold}
use Rattle.std.proofs.Common.{sym, ◌∙◌, ap, arith, length-append}
use Rattle.std.proofs.lemmas.Bool.Decides.{nat_tests}
use Rattle.comp_entity.specs.Entity.{Name, made, EntityTree, Entries}
use Rattle.comp_entity.specs.Names.{Change, changing, entity_by, entries_by, in_entity, place_at, resource_at}
use Rattle.comp_entity.specs.Views.{Sides}
use Rattle.comp_define.proofs.OtherLaws.{places_other, resources_other, side_twice}
use Rattle.comp_mention.specs.Mentions.{tree_mentions}
use Rattle.comp_scope.specs.Closing.{first_mentions, mentions_in, numbered, renumbered, with_numbers}
use Rattle.comp_table.specs.Changes.{tree_by}
use Rattle.comp_table.specs.Plain.{plain_entity}
use Rattle.comp_define.specs.Orders.{below}
use Rattle.comp_define.proofs.PlaceLaws.{has, with_one, place, place_of, place_within, place_is, has_below, place_in_below, grows, old_place, new_place}

settles : (all seen ns : List ℕ) → all ≡ fold with_one seen ns → fold with_one (below (length seen)) (map (place all) ns) ≡ below (length all)
settles all seen [] is = ap (λ (xs : List ℕ). below (length xs)) (sym is)
settles all seen (n ∷ ns) is = by (has seen n) refl (settles all seen ns) (settles all (seen ++ n ∷ []) ns)
  where
    by : (b : Bool) → has seen n ≡ b
        → (all ≡ fold with_one seen ns → fold with_one (below (length seen)) (map (place all) ns) ≡ below (length all))
        → (all ≡ fold with_one (seen ++ n ∷ []) ns → fold with_one (below (length (seen ++ n ∷ []))) (map (place all) ns) ≡ below (length all))
        → fold with_one (with_one (below (length seen)) (place all n)) (map (place all) ns) ≡ below (length all)
    by true e here later =
        let all_is : all ≡ fold with_one seen ns = is ∙ ap (λ b. fold with_one (cond b seen (seen ++ n ∷ [])) ns) e in
        let g = grows seen ns in
        let old : has (below (length seen)) (place all n) ≡ true = has_below (length seen) (place all n) ∙ ap (λ (xs : List ℕ). nat_lt (place xs n) (length seen)) (all_is ∙ g.1) ∙ old_place n seen g.0 e in
        ap (λ b. fold with_one (cond b (below (length seen)) (below (length seen) ++ place all n ∷ [])) (map (place all) ns)) old ∙ here all_is
    by false e here later =
        let all_is : all ≡ fold with_one (seen ++ n ∷ []) ns = is ∙ ap (λ b. fold with_one (cond b seen (seen ++ n ∷ [])) ns) e in
        let g = grows (seen ++ n ∷ []) ns in
        let next : place all n ≡ length seen = ap (λ (xs : List ℕ). place xs n) (all_is ∙ g.1) ∙ new_place n seen g.0 e in
        let none : nat_lt (length seen) (length seen) ≡ false = grind (arith, nat_tests) in
        let new : has (below (length seen)) (place all n) ≡ false = has_below (length seen) (place all n) ∙ ap (λ k. nat_lt k (length seen)) next ∙ none in
        let longer : suc (length seen) ≡ length (seen ++ n ∷ []) = (let e = length-append seen (n ∷ []) in omega (arith, e)) in
        ap (λ b. fold with_one (cond b (below (length seen)) (below (length seen) ++ place all n ∷ [])) (map (place all) ns)) new
        ∙ ap (λ k. fold with_one (below (length seen) ++ k ∷ []) (map (place all) ns)) next
        ∙ ap (λ k. fold with_one (below k) (map (place all) ns)) longer ∙ later all_is

-- ---- imports and exports

-- the number that closing gives
abbrev given : List ℕ → ℕ → ℕ
given order n = place_of (place order n) (length order)

first_again : (ns : List ℕ) → first_mentions (map (given (first_mentions ns)) ns) ≡ below (length (first_mentions ns))
first_again ns = (λ i. first_mentions (map (λ n. place_is (first_mentions ns) n i) ns)) ∙ settles (first_mentions ns) [] ns refl

settled_name : (order : List ℕ) (n : Name) → renumbered (below (length order)) (renumbered order n) ≡ renumbered order n
settled_name order n = by (n.out == 0) refl
  where
    again : place_of (place (below (length order)) (given order n.number)) (length (below (length order))) ≡ given order n.number
    again =
        let small = place_within order n.number in
        let is = place_is order n.number in
        let within : given order n.number ≤ length order = omega (arith, small, is) in
        place_is (below (length order)) (given order n.number) ∙ place_in_below (length order) (given order n.number) within

    by : (b : Bool) → (n.out == 0) ≡ b → renumbered (below (length order)) (cond b (made (given order n.number)) n) ≡ cond b (made (given order n.number)) n
    by true is = ap made again
    by false is = ap (λ b. cond b (made (place_of (place (below (length order)) n.number) (length (below (length order))))) n) is

module _ (changed : (c : Change) (d : ℕ) (e : EntityTree) → plain_entity (entity_by c d e) ≡ tree_by c d (plain_entity e))
    (mention : (d : ℕ) (e : EntityTree) → tree_mentions d (plain_entity e) ≡ in_entity d e)
    (single : (a b : EntityTree) → plain_entity a ≡ plain_entity b → a ≡ b) where
  side_again : (resources places : List ℕ) (es : Entries) → entries_by (changing (renumbered (below (length resources))) (renumbered (below (length places)))) 0 (entries_by (changing (renumbered resources) (renumbered places)) 0 es) ≡ entries_by (changing (renumbered resources) (renumbered places)) 0 es
  side_again resources places es =
      side_twice changed mention single (renumbered (below (length resources))) (renumbered (below (length places))) (renumbered resources) (renumbered places) es
      ∙ (λ i. entries_by (changing (λ n. settled_name resources n i) (λ n. settled_name places n i)) 0 es)

  pub settled : (s : Sides) → numbered (numbered s) ≡ numbered s
  settled s =
      let resources = first_mentions (flat_map (resource_at 0) (mentions_in s)) in
      let places = first_mentions (flat_map (place_at 0) (mentions_in s)) in
      let resources_again : first_mentions (flat_map (resource_at 0) (mentions_in (numbered s))) ≡ below (length resources) =
      ap first_mentions (resources_other changed mention single (given resources) (given places) s) ∙ first_again (flat_map (resource_at 0) (mentions_in s)) in
      let places_again : first_mentions (flat_map (place_at 0) (mentions_in (numbered s))) ≡ below (length places) =
      ap first_mentions (places_other changed mention single (given resources) (given places) s) ∙ first_again (flat_map (place_at 0) (mentions_in s)) in
      (λ i. with_numbers (resources_again i) (places_again i) (numbered s))
      ∙ (λ i. record { imports = side_again resources places s.imports i; exports = side_again resources places s.exports i })
