-- Ids of which no two are the same, and maps by them.
use Rattle.std.proofs.Common.{◌≡◌, ◌≢◌, ◌++◌, ◌∷◌, [], ◌⊎◌, inl, inr, List, ℕ, zero, suc, Bool, true, false, Option, Some, refl, sym, ◌∙◌, ap, length, take, map, arith}
use Rattle.std.specs.Prelude.{slice_get, if◌then◌else◌, ◌||◌}
use Rattle.std.specs.List.{list_any}
use Rattle.indexmap.specs.IndexMap.{insert_entry}
use Rattle.warg_info.specs.declared.package.PackageInfo.{PackageInfo}
use Rattle.warg_page.specs.Logs.{tokens_of}
use Rattle.warg_page.specs.Steps.{id_of, AreDistinct, IsTwice}
use Rattle.warg_page.specs.Views.{package_view}
use Rattle.warg_page.proofs.PlaceLaws.{in-front}

pub distinct-none : AreDistinct []
distinct-none i j id at_i at_j = absurd cc

-- an item of a list with one item more stands in the list, or is the one more
item-of : (ks : List (List ℕ)) (k : List ℕ) (i : ℕ) (id : List ℕ) → slice_get (ks ++ k ∷ []) i ≡ Some id → (slice_get ks i ≡ Some id) ⊎ ((id ≡ k) × (i ≡ length ks))
item-of [] k zero id e = let same : id ≡ k = cc in inr (same, refl)
item-of [] k (suc i) id e = absurd cc
item-of (x ∷ ks) k zero id e = inl e
item-of (x ∷ ks) k (suc i) id e = behind (item-of ks k i id e)
  where
    behind : (slice_get ks i ≡ Some id) ⊎ ((id ≡ k) × (i ≡ length ks)) → (slice_get ks i ≡ Some id) ⊎ ((id ≡ k) × (suc i ≡ length (x ∷ ks)))
    behind (inl here) = inl here
    behind (inr last) = let n : i ≡ length ks = last.1 in inr (last.0, omega (arith, n))

pub distinct-push : (ks : List (List ℕ)) (k : List ℕ) → AreDistinct ks → ((i : ℕ) → slice_get ks i ≢ Some k) → AreDistinct (ks ++ k ∷ [])
distinct-push ks k distinct absent i j id at_i at_j = by_place (item-of ks k i id at_i) (item-of ks k j id at_j)
  where
    by_place : (slice_get ks i ≡ Some id) ⊎ ((id ≡ k) × (i ≡ length ks)) → (slice_get ks j ≡ Some id) ⊎ ((id ≡ k) × (j ≡ length ks)) → i ≡ j
    by_place (inl here) (inl there) = distinct i j id here there
    by_place (inl here) (inr last) = absurd (absent i (here ∙ ap (λ (x : List ℕ). Some x) last.0))
    by_place (inr last) (inl there) = absurd (absent j (there ∙ ap (λ (x : List ℕ). Some x) last.0))
    by_place (inr first) (inr second) = first.1 ∙ sym second.1

-- an id that stands at a place and before it stands twice
pub twice-behind : (ks : List (List ℕ)) (n : ℕ) (k : List ℕ) (i : ℕ) → slice_get ks n ≡ Some k → slice_get (take n ks) i ≡ Some k → IsTwice ks k
twice-behind ks n k i there before = let front = in-front ks n i k before in (i, n, front.0, front.1, there)

-- where an item passes a test that one item alone passes, that item is there
pub any-place : (t : List ℕ → Bool) (keys : List (List ℕ)) (k : List ℕ) → ((x : List ℕ) → t x ≡ true → k ≡ x) → list_any t keys ≡ true → (i : ℕ) × (slice_get keys i ≡ Some k)
any-place t [] k sound some = absurd cc
any-place t (x ∷ xs) k sound some = by_test (t x) refl some (λ any. any-place t xs k sound any)
  where
    by_test : (b : Bool) → t x ≡ b → (b || list_any t xs) ≡ true → (list_any t xs ≡ true → (i : ℕ) × (slice_get xs i ≡ Some k)) → (i : ℕ) × (slice_get (x ∷ xs) i ≡ Some k)
    by_test true is any rest = (0, ap (λ (y : List ℕ). Some y) (sym (sound x is)))
    by_test false is any rest = let there = rest any in (suc there.0, there.1)

-- an entry with a new key goes last
pub insert-last : {V : Type 0} (eq : List ℕ → List ℕ → Bool) (es : List (List ℕ × V)) (k : List ℕ) (v : V) → ((x : List ℕ) → eq k x ≡ true → k ≡ x)
    → ((i : ℕ) → slice_get (map (λ (e : List ℕ × V). e.0) es) i ≢ Some k) → insert_entry eq es k v ≡ es ++ (k, v) ∷ []
insert-last eq [] k v sound absent = refl
insert-last {V = V} eq (e ∷ es) k v sound absent = by_test (eq k e.0) refl (insert-last eq es k v sound (λ i. absent (suc i)))
  where
    by_test : (b : Bool) → eq k e.0 ≡ b → insert_entry eq es k v ≡ es ++ (k, v) ∷ [] → (if b then (e.0, v) ∷ es else e ∷ insert_entry eq es k v) ≡ e ∷ (es ++ (k, v) ∷ [])
    by_test true is rest = absurd (absent 0 (ap (λ (y : List ℕ). Some y) (sym (sound e.0 is))))
    by_test false is rest = ap (λ (l : List (List ℕ × V)). e ∷ l) rest

-- tokens stand by the ids of their packages
pub tokens-keys : (xs : List PackageInfo) → map (λ (e : List ℕ × Option (List ℕ)). e.0) (tokens_of (map package_view xs)) ≡ map id_of xs
tokens-keys [] = refl
tokens-keys (x ∷ xs) = ap (λ (l : List (List ℕ)). id_of x ∷ l) (tokens-keys xs)
