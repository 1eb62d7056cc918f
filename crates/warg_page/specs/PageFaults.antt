-- Why a page is refused: the first fault, and want of memory.
use Rattle.std.specs.Prelude.{◌≡◌, ◌≢◌, ◌⊎◌, ◌<◌, ℕ, List, [], ◌∷◌, length, Contains}
use Rattle.warg_hash.specs.Hash.{package_log_id}
use Rattle.warg_record.specs.Record.{Package, Operator}
use Rattle.warg_log.specs.Rules.{Accepts}
use Rattle.warg_exchange.specs.declared.logs.PublishedRecord.{PublishedRecord}
use Rattle.warg_exchange.specs.Views.{Page}
use Rattle.warg_info.specs.declared.error.TakeError.TheVariants as take
use Rattle.warg_info.specs.Kept.{Kept, Grows}
use Rattle.warg_info.specs.Faults.{FirstFault}
use Rattle.warg_page.specs.Logs.{Logs, EachGrows}
use Rattle.warg_page.specs.declared.page.PageError.{PageError}
use Rattle.warg_page.specs.declared.page.PageError.TheVariants as error

-- the records that are listed for this id are of a log that was not asked for; or they have this fault behind the log of
-- the package with this name. Want of memory says nothing
abbrev pub IsListedFault : PageError → Accepts → List (List ℕ × List Kept) → List ℕ × List PublishedRecord → Type 0
IsListedFault (error.UnknownLog id) accepts packages listed =
    (id ≡ listed.0) × (0 < length listed.1)
    × ((p : List ℕ × List Kept) → Contains packages p → package_log_id p.0 ≢ id)
IsListedFault (error.Package name e) accepts packages listed =
    (e ≢ take.Memory) × (log : List Kept) × Contains packages (name, log) × (package_log_id name ≡ listed.0)
    × (kept : List Kept) × FirstFault e Package accepts log listed.1 kept
IsListedFault (error.Operator e) accepts packages listed = ⊥
IsListedFault error.Memory accepts packages listed = Unit {0}

-- the first list that has a fault has this one, behind the logs with the lists before it
abbrev pub FirstListedFault : PageError → Accepts → List (List ℕ × List Kept) → List (List ℕ × List PublishedRecord) → Type 0
FirstListedFault e accepts packages [] = ⊥
FirstListedFault e accepts packages (l ∷ listed) =
    IsListedFault e accepts packages l
    ⊎ ((mid : List (List ℕ × List Kept)) × EachGrows (l ∷ []) packages mid × FirstListedFault e accepts mid listed)

-- the operator's records have this fault; or they have none, and the packages' lists have this one
abbrev pub IsPageFault : PageError → Accepts → Logs → Page → Type 0
IsPageFault (error.Operator e) accepts logs page =
    (e ≢ take.Memory) × (kept : List Kept) × FirstFault e Operator accepts logs.operator page.operator kept
IsPageFault (error.UnknownLog id) accepts logs page =
    (operator : List Kept) × Grows Operator logs.operator page.operator operator
    × FirstListedFault (error.UnknownLog id) accepts logs.packages page.packages
IsPageFault (error.Package name e) accepts logs page =
    (operator : List Kept) × Grows Operator logs.operator page.operator operator
    × FirstListedFault (error.Package name e) accepts logs.packages page.packages
IsPageFault error.Memory accepts logs page = Unit {0}

-- the records of a package have this fault behind its log
abbrev pub IsPackageFault : PageError → Accepts → List ℕ → List Kept → List PublishedRecord → Type 0
IsPackageFault (error.Package name e) accepts known log records =
    (name ≡ known) × (e ≢ take.Memory) × (kept : List Kept) × FirstFault e Package accepts log records kept
IsPackageFault (error.UnknownLog id) accepts known log records = ⊥
IsPackageFault (error.Operator e) accepts known log records = ⊥
IsPackageFault error.Memory accepts known log records = Unit {0}
