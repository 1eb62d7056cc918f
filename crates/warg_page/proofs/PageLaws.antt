-- The fault of a page, by that of its packages' lists.
use Rattle.std.proofs.Common.{◌∷◌, [], inl, inr, List, ℕ}
use Rattle.warg_record.specs.Record.{Operator}
use Rattle.warg_log.specs.Rules.{Accepts}
use Rattle.warg_exchange.specs.declared.logs.PublishedRecord.{PublishedRecord}
use Rattle.warg_exchange.specs.Views.{Page}
use Rattle.warg_info.specs.declared.error.TakeError.{TakeError}
use Rattle.warg_info.specs.Kept.{Kept, Grows}
use Rattle.warg_page.specs.declared.page.PageError.{PageError}
use Rattle.warg_page.specs.declared.page.PageError.TheVariants as error
use Rattle.warg_page.specs.Logs.{Logs}
use Rattle.warg_page.specs.PageFaults.{FirstListedFault, IsPageFault}

not_operator : (e : TakeError) (accepts : Accepts) (packages : List (List ℕ × List Kept)) (listed : List (List ℕ × List PublishedRecord)) → FirstListedFault (error.Operator e) accepts packages listed → ⊥
not_operator e accepts packages [] fault = fault
not_operator e accepts packages (l ∷ listed) (inl here) = here
not_operator e accepts packages (l ∷ listed) (inr later) = not_operator e accepts later.0 listed later.2

pub page-fault : (e : PageError) (accepts : Accepts) (logs : Logs) (page : Page) (operator : List Kept) → Grows Operator logs.operator page.operator operator → FirstListedFault e accepts logs.packages page.packages → IsPageFault e accepts logs page
page-fault (error.Operator e) accepts logs page operator grows fault = absurd (not_operator e accepts logs.packages page.packages fault)
page-fault (error.UnknownLog id) accepts logs page operator grows fault = (operator, grows, fault)
page-fault (error.Package name e) accepts logs page operator grows fault = (operator, grows, fault)
page-fault error.Memory accepts logs page operator grows fault = tt
