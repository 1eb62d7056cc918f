-- Lawful logs.
use Rattle.std.specs.Prelude.{◌≡◌, ◌<◌, ◌^◌, List, ◌∷◌, ◌++◌, length, None}
use Rattle.std.specs.List.{AllByRecursion}
use Rattle.warg_record.specs.Record.{Kind}
use Rattle.warg_log.specs.Rules.{Accepts, breach_of}
use Rattle.warg_record.specs.Envelope.{Signed, IsMessageOf}

-- each record obeys the rules against those before it
abbrev pub IsLawful : Kind → Accepts → List Signed → Type 0
IsLawful kind accepts log = (before after : List Signed) (s : Signed) → log ≡ before ++ s ∷ after → breach_of kind accepts before s ≡ None

-- the record of an envelope is the one that was signed: its contents are the record's message
pub record IsRead (kind : Kind) (s : Signed) : Type 0 where
  pub message : IsMessageOf kind s.contents s.rec
  pub short : length s.contents < 2 ^ 64

-- each envelope is as it is read. Rules speak of records and of contents apart, so only of such lists do they say that
-- what the records say was signed
abbrev pub AreRead : Kind → List Signed → Type 0
AreRead kind log = AllByRecursion (IsRead kind) log
