-- What a component imports and exports, in names that do not depend on what else it makes: what it makes is numbered by
-- its first mention, exports before imports. So components that differ in what they call the resources of their own are
-- one tree.
use Rattle.std.specs.Prelude.{ℕ, List, [], ◌∷◌, ◌++◌, length, flat_map, position, unwrap_or, ◌==◌, if◌then◌else◌}
use Rattle.std.specs.List.{list_any, fold}
use Rattle.comp_entity.specs.Entity.{Name, made}
use Rattle.comp_entity.specs.Names.{changing, entries_by, Mention, in_entries, resource_at, place_at}
use Rattle.comp_entity.specs.Views.{Sides}
use Rattle.comp_scope.specs.Spaces.{Known, entries_in}

-- each number once, where it stands first
abbrev pub first_mentions : List ℕ → List ℕ
first_mentions ns = fold (λ seen n. if list_any (λ m. m == n) seen then seen else seen ++ n ∷ []) [] ns

-- a name of the innermost scope, numbered by its place in an order
abbrev pub renumbered : List ℕ → Name → Name
renumbered order n =
    if n.out == 0 then made (unwrap_or (position (λ m. m == n.number) order) (length order)) else n

-- imports and exports with what the component makes numbered in these orders
abbrev pub with_numbers : List ℕ → List ℕ → Sides → Sides
with_numbers resources places c = record {
  imports = entries_by (changing (renumbered resources) (renumbered places)) 0 c.imports;
  exports = entries_by (changing (renumbered resources) (renumbered places)) 0 c.exports;
}

-- what imports and exports mention, exports first
abbrev pub mentions_in : Sides → List (ℕ × Mention)
mentions_in c = in_entries 0 c.exports ++ in_entries 0 c.imports

abbrev pub numbered : Sides → Sides
numbered c =
    with_numbers (first_mentions (flat_map (resource_at 0) (mentions_in c))) (first_mentions (flat_map (place_at 0) (mentions_in c))) c

-- the imports and exports of a component, or of a type of components
abbrev pub closed : Known → Sides
closed k = numbered (record { imports = entries_in k.imports; exports = entries_in k.exports })
