-- An honest registry's page leaves logs, and they are lawful where they are whole.
use Rattle.std.proofs.Common.{◌≡◌, ◌++◌, ◌∷◌, [], inl, inr, List, ℕ, Bool, refl, sym, ◌∙◌, subst, take, arith}
use Rattle.std.specs.Prelude.{Contains, ◌≢◌}
use Rattle.std.specs.List.{AllByRecursion}
use Rattle.warg_hash.specs.Hash.{operator_log_id, package_log_id}
use Rattle.warg_record.specs.Record.{Kind, Package, Operator}
use Rattle.warg_log.specs.Rules.{Accepts}
use Rattle.warg_exchange.specs.declared.exchange.Exchange.{Exchange}
use Rattle.warg_exchange.specs.declared.logs.PublishedRecord.{PublishedRecord}
use Rattle.warg_exchange.specs.Requests.{Asker}
use Rattle.warg_exchange.specs.Views.{Page}
use Rattle.warg_info.specs.Info.{IsLawfulLog}
use Rattle.warg_info.specs.Kept.{Kept, Ascends, Grows}
use Rattle.warg_page.specs.Logs.{Logs, Brings, EachGrows, IsOfPackage, IsLawfulPackage, AreLawful, brought}
use Rattle.warg_update.specs.Proved.{page_request, Turns}
use Rattle.warg_ledger.specs.Registry.{Registry, IsRegistry, BringsBehind, IsPageOf, log_below}
use Rattle.warg_ledger.specs.Replies.{AreWhole}
use Rattle.warg_ledger.specs.Honest.{HaveRecords, GivesPage}
use Rattle.warg_ledger.proofs.AscendLaws.{log-ascends, honest-grows}
use Rattle.warg_ledger.proofs.LeftLaws.{none-left-empty}
use Rattle.warg_ledger.proofs.OpenLaws.{further, all-contained}
use Rattle.warg_ledger.proofs.TakenLaws.{Laws}

-- ---- the logs that a page leaves

log-grows : (kind : Kind) (w : Registry) (n : ℕ) (id : List ℕ) (before : List Kept) (ps : List PublishedRecord) (more : Bool) → (b : BringsBehind kind (log_below w n id) before ps more) → Grows kind before ps (before ++ b.next)
log-grows kind w n id before ps more b = honest-grows kind before b.next b.after ps (subst Ascends b.parts (log-ascends w.token id (take n w.entries))) b.published

abbrev EachBrings : Registry → ℕ → List (List ℕ × List PublishedRecord) → Bool → List (List ℕ × List Kept) → Type 0
EachBrings w n listed more packages =
    (name : List ℕ) (log : List Kept) → Contains packages (name, log) → BringsBehind Package (log_below w n (package_log_id name)) log (brought (package_log_id name) listed) more

packages-grow : (w : Registry) (n : ℕ) (listed : List (List ℕ × List PublishedRecord)) (more : Bool) (packages : List (List ℕ × List Kept)) → EachBrings w n listed more packages → (after : List (List ℕ × List Kept)) × EachGrows listed packages after
packages-grow w n listed more [] each = ([], tt)
packages-grow w n listed more (p ∷ packages) each =
    let id = package_log_id p.0 in
    let b = each p.0 p.1 (0, omega arith, refl) in
    let rest = packages-grow w n listed more packages (λ name log there. each name log (further p (name, log) packages there)) in
    ((p.0, p.1 ++ b.next) ∷ rest.0, (refl, log-grows Package w n id p.1 (brought id listed) more b, rest.1))

page-brings : (w : Registry) (n : ℕ) (before : Logs) (page : Page) → IsPageOf w n before page → (after : Logs) × Brings before page after
page-brings w n before page is =
    let b = is.operator_records in
    let grown = packages-grow w n page.packages page.more before.packages is.package_records in (
      record { operator = before.operator ++ b.next; packages = grown.0 },
      record {
        operator = log-grows Operator w n operator_log_id before.operator page.operator page.more b;
        asked = all-contained (IsOfPackage before.packages) page.packages (λ l there some. let known = is.only_asked l.0 l.1 there in ((known.0, known.1), known.2, known.3));
        packages = grown.1;
      },
    )

-- a page that is asked for and comes from the registry turns
pub page-turns : Laws → (accepts : Accepts) (w : Registry) (a : Asker) (n : ℕ) (before : Logs) (x : Exchange) → IsRegistry accepts w → x.request ≡ page_request a n before → GivesPage w n before x.reply
    → (after : Logs) × (more : Bool) × Turns a n before x after more
page-turns laws accepts w a n before x registry asked g =
    let brought = page-brings w n before g.page g.is in (
      brought.0,
      g.page.more,
      record {
        asked = asked;
        page = g.page;
        came = g.came;
        brings = brought.1;
        kept = none-left-empty laws accepts w n before g.page brought.0 registry g.is brought.1;
        said = refl;
      },
    )

-- ---- whole logs are lawful

packages-lawful : (accepts : Accepts) (w : Registry) (n : ℕ) (packages : List (List ℕ × List Kept)) → IsRegistry accepts w
    → ((name : List ℕ) (log : List Kept) → Contains packages (name, log) → log_below w n (package_log_id name) ≢ [])
    → AllByRecursion (λ (p : List ℕ × List Kept). p.1 ≡ log_below w n (package_log_id p.0)) packages → AllByRecursion (IsLawfulPackage accepts) packages
packages-lawful accepts w n [] registry there are = tt
packages-lawful accepts w n (p ∷ packages) registry there are =
    let id = package_log_id p.0 in (
      (λ none. there p.0 p.1 (0, omega arith, refl) (sym are.0 ∙ none), subst (IsLawfulLog Package accepts) (sym are.0) (registry.lawful Package id n (inr (refl, p.0, refl)))),
      packages-lawful accepts w n packages registry (λ name log has. there name log (further p (name, log) packages has)) are.1,
    )

pub whole-lawful : (accepts : Accepts) (w : Registry) (n : ℕ) (logs : Logs) → IsRegistry accepts w → HaveRecords w n logs → AreWhole w n logs → AreLawful accepts logs
whole-lawful accepts w n logs registry there whole = record {
  operator = (λ none. there.operator (sym whole.operator ∙ none), subst (IsLawfulLog Operator accepts) (sym whole.operator) (registry.lawful Operator operator_log_id n (inl (refl, refl))));
  packages = packages-lawful accepts w n logs.packages registry there.packages whole.packages;
}
