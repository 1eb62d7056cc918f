-- Counts of faults, and the calls that are to fail.
use Rattle.std.specs.Prelude.{ℕ, ◌+◌, ◌-◌, ◌^◌, ◌≤◌, min, Bool, if◌then◌else◌, List, refl}
use Rattle.std.specs.Coded.{Coded, code_by, coded×, coded_list, coded_ℕ}

-- The count after one more. It stays at the last value of its type.
abbrev pub one_more : ℕ → ℕ
one_more count = min (count + 1) (2 ^ 64 - 1)

-- A count rose between two moments. One that stands at the last value of its type is taken as risen.
abbrev pub Rose : ℕ → ℕ → Type 0
Rose old new = one_more old ≤ new

-- how many calls there were, which are to fail, counted from 1, and how many did
pub record Schedule : Type 0 where
  pub calls : ℕ
  pub failing : List ℕ
  pub faults : ℕ

-- the schedule after one more call, which failed or did not
abbrev pub after_call : Schedule → Bool → Schedule
after_call s failed = record s { calls = one_more s.calls; faults = (if failed then one_more s.faults else s.faults) }

-- a schedule is stored as its parts
abbrev pub schedule_code : Coded Schedule
schedule_code = code_by (ℕ × (List ℕ × ℕ)) (coded× coded_ℕ (coded× (coded_list coded_ℕ) coded_ℕ)) (λ s. (s.calls, (s.failing, s.faults))) (λ p. record { calls = p.0; failing = p.1.0; faults = p.1.1 }) (λ _. refl)
