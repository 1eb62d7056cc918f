-- Lawful logs have records.
use Rattle.std.proofs.Common.{◌≡◌, ◌<◌, ◌∷◌, [], List, ℕ, zero, suc, ap, length, arith, get_or}
use Rattle.std.specs.List.{AllByRecursion}
use Rattle.warg_log.specs.Rules.{Accepts}
use Rattle.warg_exchange.specs.declared.logs.PublishedRecord.{PublishedRecord}
use Rattle.warg_info.specs.Kept.{Kept}
use Rattle.warg_page.specs.Logs.{Logs, AreLawful, IsLawfulPackage, LeavesNoneEmpty}

pub none-empty : (accepts : Accepts) (packages : List (List ℕ × List Kept)) (name : List ℕ) (i : ℕ) → AllByRecursion (IsLawfulPackage accepts) packages
    → i < length packages → get_or packages i (name, []) ≡ (name, []) → ⊥
none-empty accepts [] name i lawful lt is = absurd (omega (arith, lt))
none-empty accepts (p ∷ packages) name zero lawful lt is = lawful.0.0 (ap (λ (q : List ℕ × List Kept). q.1) is)
none-empty accepts (p ∷ packages) name (suc i) lawful lt is = none-empty accepts packages name i lawful.1 (omega (arith, lt)) is

-- whatever a page lists, no lawful log is without a record
pub lawful-kept : (accepts : Accepts) (logs : Logs) (listed : List (List ℕ × List PublishedRecord)) → AreLawful accepts logs → LeavesNoneEmpty logs.packages listed
lawful-kept accepts logs listed lawful name records known there = none-empty accepts logs.packages name there.0 lawful.packages there.1 there.2
