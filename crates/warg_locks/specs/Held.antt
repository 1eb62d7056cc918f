-- What locks in memory hold, and which answers of them are faults.
use Rattle.std.specs.Prelude.{ℕ, Bool, true, false, List, Option, Some, None, Result, Ok, Err, bytes_eq, if◌then◌else◌}
use Rattle.std.specs.List.{list_any}
use Rattle.warg_values.specs.Faults.{Schedule, after_call, one_more}
use Rattle.warg_locks.specs.declared.locks.LockError.{LockError}
use Rattle.warg_locks.specs.declared.locks.LockError.TheVariants as lock

-- whether somebody else holds a path
abbrev pub is_held : List (List ℕ) → List ℕ → Bool
is_held held path = list_any (λ other. bytes_eq other path) held

-- the paths that somebody else holds, how often one of them was met, and the calls
pub record LocksHeld : Type 0 where
  pub held : List (List ℕ)
  pub met : ℕ
  pub schedule : Schedule

-- whether a call failed
abbrev pub has_failed : {X : Type 0} → Result X LockError → Bool
has_failed (Ok x) = false
has_failed (Err lock.Failed) = true
has_failed (Err lock.Memory) = false

-- whether it met a path that is held
abbrev pub is_met : {X : Type 0} → Result (Option X) LockError → Bool
is_met (Ok None) = true
is_met (Ok (Some x)) = false
is_met (Err e) = false

-- what is held after one more call, which met a held path or not, and failed or not
abbrev pub after_meeting : LocksHeld → Bool → Bool → LocksHeld
after_meeting h met failed = record h {
  met = (if met then one_more h.met else h.met);
  schedule = after_call h.schedule failed;
}
