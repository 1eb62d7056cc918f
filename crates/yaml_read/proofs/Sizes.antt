-- How large values are, and lists of which one is longer.
use Rattle.std.proofs.Common.{◌≡◌, ℕ, suc, ◌+◌, ◌<◌, ◌≤◌, List, [], ◌∷◌, length, false, refl, arith}
use Rattle.yaml_small.specs.declared.yaml.Yaml.{Yaml}
use Rattle.yaml_small.specs.Data.{Data, Items, Members, integer, text, boolean, array, hash, null, no_items, item, no_members, member}
use Rattle.yaml_small.specs.View.{items_view, members_view}
use Rattle.yaml_read.specs.Same.{same_items, same_members}

abbrev mutual
  pub size : Data → ℕ
  size (integer n) = 1
  size (text t) = 1
  size (boolean b) = 1
  size (array ds) = suc (items_size ds)
  size (hash ms) = suc (members_size ms)
  size null = 1

  pub items_size : Items → ℕ
  items_size no_items = 1
  items_size (item d ds) = suc (size d + items_size ds)

  pub members_size : Members → ℕ
  members_size no_members = 1
  members_size (member key d ms) = suc (size d + members_size ms)

pub items_left : (xs ys : List Yaml) → length xs < 1 → 1 ≤ length ys → same_items (items_view xs) (items_view ys) ≡ false
items_left [] [] few some = absurd (omega arith)
items_left [] (y ∷ ys) few some = refl
items_left (x ∷ xs) ys few some = absurd (omega arith)

pub members_left : (ps qs : List (List ℕ × Yaml)) → length ps < 1 → 1 ≤ length qs → same_members (members_view ps) (members_view qs) ≡ false
members_left [] [] few some = absurd (omega arith)
members_left [] (q ∷ qs) few some = refl
members_left (p ∷ ps) qs few some = absurd (omega arith)
