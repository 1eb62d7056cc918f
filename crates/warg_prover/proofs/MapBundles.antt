-- Bundles of paths of a map.
use Rattle.std.proofs.Common.{◌≡◌, ℕ, zero, suc, ◌<◌, ◌^◌, List, [], ◌∷◌, length, map, slice_get, Some, refl, sym, ap, subst, ◌∙◌}
use Rattle.std.specs.List.{All, AllByRecursion}
use Rattle.std.proofs.lemmas.List.{length-map}
use Rattle.std.proofs.lemmas.List.Elements.{All-head, All-tail}
use Rattle.std.proofs.lemmas.Option.{none-some, same_Some}
use Rattle.warg_proof.specs.MapTree.{Entries}
use Rattle.warg_proof.specs.MapProofs.{MapPath, IsMapPath, path_of, siblings, log_key}
use Rattle.warg_proof.specs.TrueProofs.{true_siblings}
use Rattle.warg_proof.specs.declared.map_bundle.SiblingPath.{SiblingPath}
use Rattle.warg_prover.specs.Maps.{IsMapBundleOf}

-- a path as a clause sees it
abbrev pub seen : SiblingPath → MapPath
seen path = path_of path.given path.siblings.items

heads : {A : Type 0} (x y : A) (xs ys : List A) → x ∷ xs ≡ y ∷ ys → (x ≡ y) × (xs ≡ ys)
heads x y xs ys e = (cc, cc)

-- the path of a number is that of the log of the same number
pub path_at : (m : Entries) (paths : List MapPath) (logs : List (List ℕ)) (at : ℕ) (log : List ℕ) → map siblings paths ≡ map (λ log. true_siblings m (log_key log)) logs → slice_get logs at ≡ Some log
    → (path : MapPath) × (slice_get paths at ≡ Some path) × (siblings path ≡ true_siblings m (log_key log))
path_at m paths [] at log same asked = absurd (none-some log asked)
path_at m [] (l ∷ logs) at log same asked = absurd cc
path_at m (p ∷ paths) (l ∷ logs) zero log same asked =
    let e = heads (siblings p) (true_siblings m (log_key l)) (map siblings paths) (map (λ log. true_siblings m (log_key log)) logs) same in
    (p, refl, e.0 ∙ ap (λ (x : List ℕ). true_siblings m (log_key x)) (same_Some l log asked))
path_at m (p ∷ paths) (l ∷ logs) (suc at) log same asked =
    let e = heads (siblings p) (true_siblings m (log_key l)) (map siblings paths) (map (λ log. true_siblings m (log_key log)) logs) same in
    path_at m paths logs at log e.1 asked

pub each_at : {A : Type 0} (P : A → Type 0) (xs : List A) (at : ℕ) (x : A) → AllByRecursion P xs → slice_get xs at ≡ Some x → P x
each_at P [] at x all is = absurd (none-some x is)
each_at P (y ∷ xs) zero x all is = subst P (same_Some y x is) all.0
each_at P (y ∷ xs) (suc at) x all is = each_at P xs at x all.1 is

all_seen : (paths : List SiblingPath) → All (λ path. IsMapPath (seen path)) paths → AllByRecursion IsMapPath (map seen paths)
all_seen [] all = tt
all_seen (p ∷ paths) all = (All-head (λ path. IsMapPath (seen path)) p paths all, all_seen paths (All-tail (λ path. IsMapPath (seen path)) p paths all))

siblings_seen : (paths : List SiblingPath) → map siblings (map seen paths) ≡ map (λ path. siblings (seen path)) paths
siblings_seen [] = refl
siblings_seen (p ∷ paths) = ap (λ (xs : List (List (List ℕ))). siblings (seen p) ∷ xs) (siblings_seen paths)

-- paths that are those of logs make a bundle of them
pub bundled : (m : Entries) (paths : List SiblingPath) (logs : List (List ℕ)) → length logs < 2 ^ 32 → All (λ path. IsMapPath (seen path)) paths
    → map (λ path. siblings (seen path)) paths ≡ map (λ log. true_siblings m (log_key log)) logs → IsMapBundleOf (map seen paths) m logs
bundled m paths logs few formed truly =
    let counts : length (map (λ path. siblings (seen path)) paths) ≡ length (map (λ log. true_siblings m (log_key log)) logs) = ap length truly in
    let same : length (map seen paths) ≡ length logs = length-map paths seen ∙ sym (length-map paths (λ path. siblings (seen path))) ∙ counts ∙ length-map logs (λ log. true_siblings m (log_key log)) in
    record {
      bundle = record { few = subst (λ (n : ℕ). n < 2 ^ 32) (sym same) few; each = all_seen paths formed };
      truly = siblings_seen paths ∙ truly;
    }
