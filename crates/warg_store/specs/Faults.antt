-- Calls of a store that are to fail, and what they leave.
use Rattle.std.specs.Prelude.{ℕ, nat_eq, Bool, true, false, if◌then◌else◌, List, Option, Some, None, Result, Ok, Err}
use Rattle.std.specs.Map.{lookup}
use Rattle.warg_values.specs.Faults.{one_more}
use Rattle.warg_values.specs.declared.memory.Memory.{Memory}
use Rattle.warg_store.specs.declared.after.After.{After}
use Rattle.warg_store.specs.declared.error.StoreError.{StoreError}
use Rattle.warg_store.specs.declared.error.StoreError.TheVariants as error

-- how many calls there were, which are to fail, counted from 1, with what they leave, and how many did fail
pub record Schedule : Type 0 where
  pub calls : ℕ
  pub failing : List (ℕ × After)
  pub faults : ℕ

-- what the next call leaves, where it is to fail: of several that are listed for it the first counts
abbrev pub planned : Schedule → Option After
planned s = lookup (λ call. nat_eq call (one_more s.calls)) s.failing

-- the schedule after one more call, which failed or did not
abbrev pub after_call : Schedule → Bool → Schedule
after_call s failed = record s { calls = one_more s.calls; faults = (if failed then one_more s.faults else s.faults) }

-- whether a call of a store failed
abbrev pub has_store_failed : {X : Type 0} → Result X StoreError → Bool
has_store_failed (Ok x) = false
has_store_failed (Err error.Failed) = true
has_store_failed (Err (error.Damaged kind)) = false
has_store_failed (Err (error.IncorrectContent digest expected)) = false
has_store_failed (Err error.Memory) = false

-- what a call that changes entries answers: whether it was to fail, and whether there was memory for what it leaves
abbrev pub answer_of : {X : Type 0} → Option After → Result X Memory → Result X StoreError
answer_of None (Ok x) = Ok x
answer_of (Some after) (Ok x) = Err error.Failed
answer_of failing (Err memory) = Err error.Memory
