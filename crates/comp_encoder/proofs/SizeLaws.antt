-- How many items of a slice each index space numbers.
use Rattle.std.proofs.Common.{◌≡◌, ◌+◌, ◌≤◌, ◌<◌, ℕ, List, ◌∷◌, ◌++◌, [], cond, length, get_or, map, take, drop, sym, ap, ◌∙◌, arith}
use Rattle.std.proofs.lemmas.List.{take_more, map_push, map-append, take-append-drop}
use Rattle.comp_format.specs.declared.types.Sort.{Sort}
use Rattle.comp_format.specs.declared.types.Item.{Item}
use Rattle.comp_format.specs.Items.{item_tree}
use Rattle.comp_format.specs.Spaces.{space_of}
use Rattle.comp_encoder.specs.Writing.{item_sort, numbers, numbered}
use Rattle.comp_encoder.proofs.CountLaws.{numbered_push, numbered_front}

-- one item more is counted
pub counted_more : (kind : Sort) (items : List Item) (i : ℕ) (item : Item) → i < length items → item ≡ get_or items i item
    → numbered kind (map item_tree (take (i + 1) items)) ≡ numbered kind (map item_tree (take i items)) + cond (numbers (space_of kind) (item_sort (item_tree item))) 1 0
counted_more kind items i item lt is =
    ap (λ (xs : List Item). numbered kind (map item_tree xs)) (take_more items i item lt ∙ ap (λ (x : Item). take i items ++ x ∷ []) (sym is))
    ∙ ap (numbered kind) (map_push item_tree (take i items) item) ∙ numbered_push kind (map item_tree (take i items)) (item_tree item)

-- all of the items are no fewer than the first of them
pub front_counted : (kind : Sort) (items : List Item) (n : ℕ) → numbered kind (map item_tree (take n items)) ≤ numbered kind (map item_tree items)
front_counted kind items n =
    let whole : map item_tree items ≡ map item_tree (take n items) ++ map item_tree (drop n items) = ap (map item_tree) (sym (take-append-drop n items)) ∙ map-append item_tree (take n items) (drop n items) in
    omega (arith, ap (numbered kind) whole, numbered_front kind (map item_tree (take n items)) (map item_tree (drop n items)))
