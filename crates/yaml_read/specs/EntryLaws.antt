-- An insertion, seen in another way.
use Rattle.std.proofs.Common.{◌≡◌, ℕ, List, [], ◌∷◌, map, Bool, true, false, cond, refl, ap, bytes_eq}
use Rattle.indexmap.specs.IndexMap.{insert_entry}
use Rattle.yaml_read.specs.Entries.{seen_entry}

pub seen_insert : {V S : Type 0} (seen : V → S) (es : List (List ℕ × V)) (key : List ℕ) (v : V)
    → map (seen_entry seen) (insert_entry bytes_eq es key v) ≡ insert_entry bytes_eq (map (seen_entry seen) es) key (seen v)
seen_insert seen [] key v = refl
seen_insert {V} {S} seen (e ∷ es) key v = by_test (seen_insert seen es key v) (bytes_eq key e.0)
  where
    by_test : map (seen_entry seen) (insert_entry bytes_eq es key v) ≡ insert_entry bytes_eq (map (seen_entry seen) es) key (seen v) → (b : Bool) → map (seen_entry seen) (cond b ((e.0, v) ∷ es) (e ∷ insert_entry bytes_eq es key v))
        ≡ cond b ((e.0, seen v) ∷ map (seen_entry seen) es) ((e.0, seen e.1) ∷ insert_entry bytes_eq (map (seen_entry seen) es) key (seen v))
    by_test others true = refl
    by_test others false = ap (λ (x : List (List ℕ × S)). (e.0, seen e.1) ∷ x) others
