-- Infos of packages, found by the ids of their logs.
use Rattle.std.proofs.Common.{◌≡◌, ◌≢◌, ◌∷◌, [], List, ℕ, zero, suc, Some, sym, ◌∙◌, ap, subst, map, get_or}
use Rattle.std.specs.Prelude.{slice_get, slice_set, option_map, Contains}
use Rattle.std.proofs.lemmas.List.{map-set}
use Rattle.std.proofs.Math.Seq.{map-set_same}
use Rattle.std.proofs.lemmas.Option.{slice_get-map, slice_get_within, get_or_from_slice_get}
use Rattle.warg_hash.specs.Hash.{package_log_id}
use Rattle.warg_record.specs.Record.{Package}
use Rattle.warg_exchange.specs.declared.logs.PublishedRecord.{PublishedRecord}
use Rattle.warg_info.specs.declared.package.PackageInfo.{PackageInfo}
use Rattle.warg_info.specs.Kept.{Kept, Grows}
use Rattle.warg_info.specs.Info.{package_log}
use Rattle.warg_page.specs.Logs.{EachGrows}
use Rattle.warg_page.specs.Steps.{id_of, HaveIds}
use Rattle.warg_log.specs.Rules.{Accepts}
use Rattle.warg_page.specs.declared.page.PageError.{PageError}
use Rattle.warg_page.specs.declared.page.PageError.TheVariants as error
use Rattle.warg_page.specs.PageFaults.{IsPackageFault, IsListedFault}
use Rattle.warg_page.specs.Views.{package_view}
use Rattle.warg_page.proofs.ListedLaws.{each-one, each-other}

pub id-at : (xs : List PackageInfo) (i : ℕ) (r : List ℕ × List Kept) → slice_get (map package_view xs) i ≡ Some r → slice_get (map id_of xs) i ≡ Some (package_log_id r.0)
id-at [] i r there = absurd cc
id-at (x ∷ xs) zero r there = let same : package_view x ≡ r = cc in ap (λ (l : List ℕ × List Kept). Some (package_log_id l.0)) same
id-at (x ∷ xs) (suc i) r there = id-at xs i r there

-- the info at the place of an id takes what is listed for it
pub listed-one : (keys : List (List ℕ)) (xs : List PackageInfo) (id : List ℕ) (ps : List PublishedRecord) (at : ℕ) (p q : PackageInfo) → HaveIds keys xs → slice_get keys at ≡ Some id → slice_get xs at ≡ Some p
    → q.name ≡ p.name → Grows Package (package_log p) ps (package_log q) → EachGrows ((id, ps) ∷ []) (map package_view xs) (map package_view (slice_set xs at q))
listed-one keys xs id ps at p q ids found there same_name grows =
    let logs = map package_view xs in
    let view_there : slice_get logs at ≡ Some (package_view p) = slice_get-map package_view xs at ∙ ap (option_map package_view) there in
    let key_there : slice_get keys at ≡ Some (package_log_id p.name) = ap (λ (l : List (List ℕ)). slice_get l at) ids.in_order ∙ id-at xs at (package_view p) view_there in
    let named : id ≡ package_log_id p.name = cc in
    subst (EachGrows ((id, ps) ∷ []) logs) (sym (map-set package_view xs at q))
    (each-one id ps logs at (package_view p) (package_view q) view_there named same_name grows
    (λ i r at_i e. ids.distinct i at id (ap (λ (l : List (List ℕ)). slice_get l i) ids.in_order ∙ id-at xs i r at_i ∙ ap (λ (k : List ℕ). Some k) (sym e)) found))

pub no-id : (keys : List (List ℕ)) (xs : List PackageInfo) (id : List ℕ) → HaveIds keys xs → ((i : ℕ) → slice_get keys i ≢ Some id) → (i : ℕ) (r : List ℕ × List Kept) → slice_get (map package_view xs) i ≡ Some r → id ≢ package_log_id r.0
no-id keys xs id ids absent i r there e = absent i (ap (λ (l : List (List ℕ)). slice_get l i) ids.in_order ∙ id-at xs i r there ∙ ap (λ (k : List ℕ). Some k) (sym e))

-- what is listed for an id that none has changes nothing
pub listed-none : (keys : List (List ℕ)) (xs : List PackageInfo) (id : List ℕ) (ps : List PublishedRecord) → HaveIds keys xs → ((i : ℕ) → slice_get keys i ≢ Some id) → EachGrows ((id, ps) ∷ []) (map package_view xs) (map package_view xs)
listed-none keys xs id ps ids absent = each-other id ps (map package_view xs) (no-id keys xs id ids absent)

-- an info in the place of another of its name
pub ids-set : (keys : List (List ℕ)) (xs : List PackageInfo) (at : ℕ) (p q : PackageInfo) → HaveIds keys xs → p ≡ get_or xs at p → q.name ≡ p.name → HaveIds keys (slice_set xs at q)
ids-set keys xs at p q ids is same_name = record {
  in_order = ids.in_order ∙ sym (map-set_same id_of xs at q p (ap package_log_id same_name ∙ ap id_of is));
  distinct = ids.distinct;
}

-- the package at the place of an id
pub package-at : (keys : List (List ℕ)) (xs : List PackageInfo) (id : List ℕ) (at : ℕ) (p : PackageInfo) → HaveIds keys xs → slice_get keys at ≡ Some id → slice_get xs at ≡ Some p
    → (q : List ℕ × List Kept) × Contains (map package_view xs) q × (package_log_id q.0 ≡ id)
package-at keys xs id at p ids found there =
    let logs = map package_view xs in
    let view_there : slice_get logs at ≡ Some (package_view p) = slice_get-map package_view xs at ∙ ap (option_map package_view) there in
    let key_there : slice_get keys at ≡ Some (package_log_id p.name) = ap (λ (l : List (List ℕ)). slice_get l at) ids.in_order ∙ id-at xs at (package_view p) view_there in
    let named : package_log_id p.name ≡ id = cc in
    (package_view p, (at, slice_get_within logs at (package_view p) view_there, get_or_from_slice_get logs at (package_view p) (package_view p) view_there), named)

-- the fault of a package's records is one of what is listed for its id
pub listed-fault : (e : PageError) (accepts : Accepts) (keys : List (List ℕ)) (xs : List PackageInfo) (id : List ℕ) (ps : List PublishedRecord) (at : ℕ) (p : PackageInfo) → HaveIds keys xs → slice_get keys at ≡ Some id → slice_get xs at ≡ Some p
    → IsPackageFault e accepts p.name (package_log p) ps → IsListedFault e accepts (map package_view xs) (id, ps)
listed-fault (error.UnknownLog other) accepts keys xs id ps at p ids found there fault = absurd fault
listed-fault (error.Operator e) accepts keys xs id ps at p ids found there fault = absurd fault
listed-fault error.Memory accepts keys xs id ps at p ids found there fault = tt
listed-fault (error.Package name e) accepts keys xs id ps at p ids found there fault =
    let logs = map package_view xs in
    let view_there : slice_get logs at ≡ Some (package_view p) = slice_get-map package_view xs at ∙ ap (option_map package_view) there in
    let key_there : slice_get keys at ≡ Some (package_log_id p.name) = ap (λ (l : List (List ℕ)). slice_get l at) ids.in_order ∙ id-at xs at (package_view p) view_there in
    let named : package_log_id p.name ≡ id = cc in
    let has : Contains logs (p.name, package_log p) = (at, slice_get_within logs at (package_view p) view_there, get_or_from_slice_get logs at (package_view p) (package_view p) view_there) in
    (fault.1, package_log p, subst (λ (n : List ℕ). Contains logs (n, package_log p)) (sym fault.0) has, ap package_log_id fault.0 ∙ named, fault.2, fault.3)
