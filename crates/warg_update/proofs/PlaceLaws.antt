-- Where a package stands by the id of its log.
use Rattle.std.proofs.Common.{◌≡◌, ◌≢◌, ◌<◌, ◌≤◌, ◌∷◌, [], List, ℕ, zero, suc, Option, Some, None, sym, ◌∙◌, ap, length, map, get_or, arith}
use Rattle.std.specs.Borrow.{Bor}
use Rattle.std.specs.Prelude.{slice_get, Contains, IfSome, IfNone}
use Rattle.std.specs.Slice.{IsItemAt}
use Rattle.warg_hash.specs.Hash.{package_log_id}
use Rattle.warg_info.specs.Kept.{Kept}
use Rattle.warg_info.specs.declared.package.PackageInfo.{PackageInfo}
use Rattle.warg_page.specs.Steps.{id_of, HaveIds}
use Rattle.warg_page.specs.Views.{package_view}

some-is : {A : Type 0} (x y : A) → Some x ≡ Some y → x ≡ y
some-is x y e = cc e

id-here : (xs : List PackageInfo) (i : ℕ) (p : PackageInfo) → i < length xs → get_or xs i p ≡ p → slice_get (map id_of xs) i ≡ Some (id_of p)
id-here [] i p lt is = absurd (omega (arith, lt))
id-here (x ∷ xs) zero p lt is = ap (λ (q : PackageInfo). Some (id_of q)) is
id-here (x ∷ xs) (suc i) p lt is = id-here xs i p (omega (arith, lt)) is

view-here : (xs : List PackageInfo) (i : ℕ) (p : List ℕ × List Kept) → i < length (map package_view xs) → get_or (map package_view xs) i p ≡ p → slice_get (map id_of xs) i ≡ Some (package_log_id p.0)
view-here [] i p lt is = absurd (omega (arith, lt))
view-here (x ∷ xs) zero p lt is = ap (λ (q : List ℕ × List Kept). Some (package_log_id q.0)) is
view-here (x ∷ xs) (suc i) p lt is = view-here xs i p (omega (arith, lt)) is

past : (xs : List PackageInfo) (i : ℕ) (id : List ℕ) → length xs ≤ i → slice_get (map id_of xs) i ≡ Some id → ⊥
past [] i id le is = absurd cc
past (x ∷ xs) zero id le is = absurd (omega (arith, le))
past (x ∷ xs) (suc i) id le is = past xs i id (omega (arith, le)) is

there : (xs : List PackageInfo) (i : ℕ) (p : PackageInfo) → i < length xs → get_or xs i p ≡ p → Contains (map package_view xs) (package_view p)
there [] i p lt is = absurd (omega (arith, lt))
there (x ∷ xs) zero p lt is = (0, omega arith, ap package_view is)
there (x ∷ xs) (suc i) p lt is = let rest = there xs i p (omega (arith, lt)) is in let less = rest.1 in (suc rest.0, omega (arith, less), rest.2)

pub found-id : (keys : List (List ℕ)) (xs : List PackageInfo) (id : List ℕ) (at : ℕ) (r : Option (Bor PackageInfo)) → slice_get keys at ≡ Some id → IsItemAt xs at r → IfSome r (λ info. HaveIds keys xs → id_of info.now ≡ id)
found-id keys xs id at None found item = tt
found-id keys xs id at (Some x) found item = λ ids.
    some-is (id_of x.now) id (sym (id-here xs at x.now item.3.0 (sym item.1)) ∙ ap (λ (l : List (List ℕ)). slice_get l at) (sym ids.in_order) ∙ found)

pub found-view : (xs : List PackageInfo) (at : ℕ) (r : Option (Bor PackageInfo)) → IsItemAt xs at r → IfSome r (λ info. Contains (map package_view xs) (package_view info.now))
found-view xs at None item = tt
found-view xs at (Some x) item = there xs at x.now item.3.0 (sym item.1)

-- an id that stands nowhere is that of no package
pub no-package : (keys : List (List ℕ)) (xs : List PackageInfo) (id : List ℕ) → ((i : ℕ) → slice_get keys i ≢ Some id) → HaveIds keys xs → (p : List ℕ × List Kept) → Contains (map package_view xs) p → package_log_id p.0 ≢ id
no-package keys xs id absent ids p has same =
    absent has.0 (ap (λ (l : List (List ℕ)). slice_get l has.0) ids.in_order ∙ view-here xs has.0 p has.1 has.2 ∙ ap (λ (k : List ℕ). Some k) same)

-- at the place of an id a package stands
pub always-found : (keys : List (List ℕ)) (xs : List PackageInfo) (id : List ℕ) (at : ℕ) (r : Option (Bor PackageInfo)) → slice_get keys at ≡ Some id → IsItemAt xs at r
    → IfNone r (HaveIds keys xs → (p : List ℕ × List Kept) → Contains (map package_view xs) p → package_log_id p.0 ≢ id)
always-found keys xs id at None found item = λ ids p has. absurd (past xs at id item.3 (ap (λ (l : List (List ℕ)). slice_get l at) (sym ids.in_order) ∙ found))
always-found keys xs id at (Some x) found item = tt
