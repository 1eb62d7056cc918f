-- The hashes that true proofs list, and the nodes that a bundle needs for them.
use Rattle.std.specs.Prelude.{◌≡◌, ℕ, zero, suc, ◌+◌, ◌-◌, ◌*◌, ◌^◌, ◌==◌, nat_lt, if◌then◌else◌, List, [], ◌∷◌, ◌++◌, length, take, drop, map, Some}
use Rattle.std.specs.List.{AllByRecursion, flat_map}
use Rattle.warg_proof.specs.declared.node.Node.{Node}
use Rattle.warg_proof.specs.LogTree.{Range, range, root, inclusion_ranges, consistency_ranges}
use Rattle.warg_proof.specs.MapTree.{Entries, has_bit, left_of, right_of, subtree_root}
use Rattle.warg_proof.specs.LogProofs.{listed}

-- ---- a log

-- the root of a range of the entries
abbrev pub range_root : List (List ℕ) → Range → List ℕ
range_root entries range = root (take range.count (drop (range.place * 2 ^ range.level) entries))

-- the inclusion path of the entry at an index (RFC 6962 section 2.1.1), from the whole log's split down
abbrev pub true_path : List (List ℕ) → ℕ → List (List ℕ)
true_path entries index = map (range_root entries) (inclusion_ranges (length entries) index)

-- the hashes that join the first old entries to all of them (RFC 6962 section 2.1.2), from the whole log's split down
abbrev pub true_hashes : List (List ℕ) → ℕ → List (List ℕ)
true_hashes entries old = map (range_root entries) (consistency_ranges old (length entries))

-- ---- a map

-- the siblings of a key in the subtree of a height in which the entries lie, from its split down
unfoldable pub siblings_beside : ℕ → List ℕ → Entries → List (List ℕ)
siblings_beside zero key entries = []
siblings_beside (suc height) key entries =
    if has_bit key (255 - height)
    then subtree_root height (left_of (255 - height) entries) ∷ siblings_beside height key (right_of (255 - height) entries)
    else subtree_root height (right_of (255 - height) entries) ∷ siblings_beside height key (left_of (255 - height) entries)

-- the 256 siblings of a key in a map
abbrev pub true_siblings : Entries → List ℕ → List (List ℕ)
true_siblings map key = siblings_beside 256 key map

-- ---- what a bundle needs

-- the levels and places of the nodes that the hash of a range needs
unfoldable pub needed_within : ℕ → ℕ → ℕ → List (ℕ × ℕ)
needed_within zero place count = (0, place) ∷ []
needed_within (suc level) place count =
    let half = 2 ^ level in
    let parts = needed_within level (2 * place) half ++ needed_within level (2 * place + 1) (count - half) in
    let low = needed_within level (2 * place) count in
    if nat_lt half count then (if count == 2 ^ suc level then (suc level, place) ∷ [] else parts) else low

abbrev pub needed : Range → List (ℕ × ℕ)
needed range = needed_within range.level range.place range.count

-- a node is listed with the root of its entries
abbrev pub IsTrueNode : List Node → List (List ℕ) → ℕ × ℕ → Type 0
IsTrueNode nodes entries at = listed nodes at.0 at.1 ≡ Some (range_root entries (range at.0 at.1 (2 ^ at.0)))

-- each node that the ranges need is listed with the root of its entries
abbrev pub ListsTruly : List Node → List (List ℕ) → List Range → Type 0
ListsTruly nodes entries ranges = AllByRecursion (IsTrueNode nodes entries) (flat_map needed ranges)
