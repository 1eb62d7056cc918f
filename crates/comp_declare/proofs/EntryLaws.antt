-- Laws of imports and exports by number.
use Rattle.std.specs.Prelude.{◌≡◌, ℕ, zero, suc, ◌-◌, false, cond, ◌||◌, List, [], ◌∷◌, ◌++◌, map, length, take, bytes_eq, refl}
use Rattle.std.specs.List.{list_any}
use Rattle.std.specs.Str.{str_to_ascii_lowercase}
use Rattle.std.proofs.Common.{sym, ◌∙◌, ap, subst, arith, length-append}
use Rattle.std.proofs.lemmas.List.{length-map, map-append, take-map}
use Rattle.indexmap.specs.IndexSet.{insert_key}
use Rattle.comp_scope.specs.Spaces as scope
use Rattle.comp_scope.specs.Spaces.{is_taken}
use Rattle.comp_table.specs.StandLaws.{all_push}
use Rattle.comp_table.specs.Trees.{PlainTree, AllStand, IsBelow, Stands, tree_at}
use Rattle.comp_declare.specs.Scopes.{plain_entry, lower_names}

-- a name is taken where its lower case is among those of the others
pub taken_is : (name : List ℕ) (entries : List (List ℕ × scope.Standing)) → list_any (bytes_eq (str_to_ascii_lowercase name)) (lower_names entries) ≡ is_taken name entries
taken_is name [] = refl
taken_is name (e ∷ es) = ap (λ b. bytes_eq (str_to_ascii_lowercase name) (str_to_ascii_lowercase e.0) || b) (taken_is name es)

pub taken_by : (name lower : List ℕ) (entries : List (List ℕ × scope.Standing)) (keys : List (List ℕ)) → keys ≡ lower_names entries → lower ≡ str_to_ascii_lowercase name → list_any (bytes_eq lower) keys ≡ is_taken name entries
taken_by name lower entries keys is low = ap (list_any (bytes_eq lower)) is ∙ ap (λ n. list_any (bytes_eq n) (lower_names entries)) low ∙ taken_is name entries

-- one more
pub numbers_push : (ts : List PlainTree) (ns ms : List ℕ) (n : ℕ) (entries : List (List ℕ × scope.Standing)) (e : List ℕ × scope.Standing) → AllStand ts ns (map plain_entry entries) → Stands ts n (plain_entry e) → ms ≡ ns ++ n ∷ [] → AllStand ts ms (map plain_entry (entries ++ e ∷ []))
numbers_push ts ns ms n entries e all stands is =
    subst (λ ks. AllStand ts ks (map plain_entry (entries ++ e ∷ []))) (sym is)
    (subst (AllStand ts (ns ++ n ∷ [])) (sym (map-append plain_entry entries (e ∷ []))) (all_push ts ns (map plain_entry entries) n (plain_entry e) all stands))

pub names_push : (keys new : List (List ℕ)) (lower : List ℕ) (entries : List (List ℕ × scope.Standing)) (e : List ℕ × scope.Standing) → keys ≡ lower_names entries → is_taken e.0 entries ≡ false → lower ≡ str_to_ascii_lowercase e.0 → new ≡ insert_key bytes_eq keys lower → new ≡ lower_names (entries ++ e ∷ [])
names_push keys new lower entries e is free low added =
    added ∙ ap (λ b. cond b keys (keys ++ lower ∷ [])) (taken_by e.0 lower entries keys is low ∙ free)
    ∙ (λ i. is i ++ low i ∷ []) ∙ sym (map-append (λ (x : List ℕ × scope.Standing). str_to_ascii_lowercase x.0) entries (e ∷ []))

-- one less
short : {X Y : Type 0} (f : X → Y) (xs : List X) (y : Y) → take (length xs) (map f xs ++ y ∷ []) ≡ map f xs
short f [] y = refl
short f (x ∷ xs) y = ap (λ ys. f x ∷ ys) (short f xs y)

pub shorter : {X Y : Type 0} (f : X → Y) (xs : List X) (x : X) (ys : List Y) → ys ≡ map f (xs ++ x ∷ []) → take (length xs) ys ≡ map f xs
shorter f xs x ys is = ap (take (length xs)) (is ∙ map-append f xs (x ∷ [])) ∙ short f xs (f x)

below_short : (k n : ℕ) (ns : List ℕ) → IsBelow k ns → IsBelow k (take n ns)
below_short k zero ns b = tt
below_short k (suc n) [] b = tt
below_short k (suc n) (m ∷ ns) b = (b.0, below_short k n ns b.1)

pub stand_short : (ts : List PlainTree) (entries : List (List ℕ × scope.Standing)) (e : List ℕ × scope.Standing) (ns : List ℕ) → AllStand ts ns (map plain_entry (entries ++ e ∷ [])) → AllStand ts (take (length entries) ns) (map plain_entry entries)
stand_short ts entries e ns all = record {
  all_there = below_short (length ts) (length entries) ns all.all_there;
  trees_are = sym (take-map (tree_at ts) (length entries) ns) ∙ shorter plain_entry entries e (map (tree_at ts) ns) all.trees_are;
}

-- how many there are
pub one_fewer : (ts : List PlainTree) (entries : List (List ℕ × scope.Standing)) (e : List ℕ × scope.Standing) (ns : List ℕ) → AllStand ts ns (map plain_entry (entries ++ e ∷ [])) → length ns - 1 ≡ length entries
one_fewer ts entries e ns all =
    let a = length-map ns (tree_at ts) in
    let b = ap length all.trees_are in
    let c = length-map (entries ++ e ∷ []) plain_entry in
    let d = length-append entries (e ∷ []) in
    omega (arith, a, b, c, d)
