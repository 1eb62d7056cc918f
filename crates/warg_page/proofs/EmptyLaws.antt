-- Packages that a page lists, and their records.
use Rattle.std.proofs.Common.{◌≡◌, ◌<◌, ◌∷◌, [], ◌⊎◌, inl, inr, List, ℕ, zero, suc, Some, sym, ◌∙◌, ap, subst, map, length, arith, get_or}
use Rattle.std.specs.Prelude.{slice_get, option_map, Contains}
use Rattle.std.specs.List.{All}
use Rattle.std.proofs.lemmas.Option.{slice_get-map, slice_get_within, get_or_from_slice_get}
use Rattle.warg_hash.specs.Hash.{package_log_id}
use Rattle.warg_exchange.specs.declared.logs.PublishedRecord.{PublishedRecord}
use Rattle.warg_info.specs.declared.package.PackageInfo.{PackageInfo}
use Rattle.warg_info.specs.Kept.{Kept}
use Rattle.warg_info.specs.Info.{package_log}
use Rattle.warg_page.specs.Logs.{LeavesNoneEmpty}
use Rattle.warg_page.specs.Presence.{IsListedEmpty}
use Rattle.warg_page.specs.Steps.{id_of}
use Rattle.warg_page.specs.Views.{package_view}
use Rattle.warg_page.specs.declared.presence.PresenceError.{PresenceError}
use Rattle.warg_page.specs.declared.presence.PresenceError.TheVariants as error

-- a package without a record is not listed
abbrev pub IsKept : List (List ℕ × List PublishedRecord) → PackageInfo → Type 0
IsKept listed info = package_log info ≡ [] → (records : List PublishedRecord) → Contains listed (id_of info, records) → ⊥

-- of packages that are kept, none that is listed is without a record
none-at : (listed : List (List ℕ × List PublishedRecord)) (xs : List PackageInfo) (i : ℕ) (name : List ℕ) (records : List PublishedRecord) → All (IsKept listed) xs → Contains listed (package_log_id name, records)
    → i < length (map package_view xs) → get_or (map package_view xs) i (name, []) ≡ (name, []) → ⊥
none-at listed [] i name records kept known lt is = absurd (omega (arith, lt))
none-at listed (x ∷ xs) zero name records kept known lt is =
    kept 0 x (omega arith) (ap (λ (p : List ℕ × List Kept). p.1) is) records (subst (λ (n : List ℕ). Contains listed (package_log_id n, records)) (sym (ap (λ (p : List ℕ × List Kept). p.0) is)) known)
none-at listed (x ∷ xs) (suc i) name records kept known lt is = none-at listed xs i name records (λ k d less. kept (suc k) d (omega (arith, less))) known (omega (arith, lt)) is

pub leaves-none : (listed : List (List ℕ × List PublishedRecord)) (xs : List PackageInfo) → All (IsKept listed) xs → LeavesNoneEmpty (map package_view xs) listed
leaves-none listed xs kept name records known there = none-at listed xs there.0 name records kept known there.1 there.2

-- a package that is listed, and has no record
pub listed-empty : (e : PresenceError) (info : PackageInfo) (infos : List PackageInfo) (listed : List (List ℕ × List PublishedRecord)) (at : ℕ) → (e ≡ error.Memory) ⊎ (e ≡ error.PackageLogEmpty info.name)
    → slice_get infos at ≡ Some info → package_log info ≡ [] → (records : List PublishedRecord) × Contains listed (id_of info, records) → IsListedEmpty e (map package_view infos) listed
listed-empty e info infos listed at (inl is) there none known = subst (λ (x : PresenceError). IsListedEmpty x (map package_view infos) listed) (sym is) tt
listed-empty e info infos listed at (inr is) there none known =
    let logs = map package_view infos in
    let view_there : slice_get logs at ≡ Some (info.name, []) = slice_get-map package_view infos at ∙ ap (option_map package_view) there ∙ ap (λ (l : List Kept). Some (info.name, l)) none in
    let has : Contains logs (info.name, []) = (at, slice_get_within logs at (info.name, []) view_there, get_or_from_slice_get logs at (info.name, []) (info.name, []) view_there) in
    subst (λ (x : PresenceError). IsListedEmpty x logs listed) (sym is) (has, known.0, known.1)
