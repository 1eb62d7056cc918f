-- What a command makes: it is written to its file, where it has one, and told by lines.
use Rattle.std.specs.Prelude.{◌≡◌, ◌⊎◌, ℕ, List, Option, Some, None}
use Rattle.warg_values.specs.Faults.{Rose}
use Rattle.warg_program.specs.World.{SeenFiles, SeenOutput, World, SameFiles, Writes, WritesPartly, PrintsNothing, Prints, PrintsPartly}
use Rattle.warg_program.specs.declared.stop.Stop.{Stop}
use Rattle.warg_program.specs.declared.stop.Stop.TheVariants as stop
use Rattle.warg_program.specs.declared.stop.Access.TheVariants as access

-- the path has these bytes, where there is one, and each other file is as it was
abbrev pub IsWritten : (before after : World) → (out : Option (List ℕ)) → (bytes : List ℕ) → Type 0
IsWritten before after None bytes = SameFiles before after
IsWritten before after (Some out) bytes = Writes before after out bytes

-- that, and the lines were printed
pub record IsDelivered (out : Option (List ℕ)) (bytes lines : List ℕ) (before after : World) : Type 0 where
  pub written : IsWritten before after out bytes
  pub printed : Prints before after lines

-- why the file was not written whole
abbrev pub IsWriteCause : Stop → (out : List ℕ) → (before after : SeenFiles) → Type 0
IsWriteCause (stop.Fault (access.Written path)) out before after = (path.now ≡ out) × Rose before.faults after.faults
IsWriteCause stop.Memory out before after = Unit {0}
IsWriteCause _ out before after = ⊥

-- why the lines were not printed whole
abbrev pub IsPrintCause : Stop → (before after : SeenOutput) → Type 0
IsPrintCause (stop.Fault access.Printed) before after = Rose before.faults after.faults
IsPrintCause stop.Memory before after = Unit {0}
IsPrintCause _ before after = ⊥

-- The command stopped while the file was written.
pub record StopsAtFile (s : Stop) (out bytes : List ℕ) (before after : World) : Type 0 where
  pub cause : IsWriteCause s out before.files after.files
  pub written : WritesPartly before after out bytes
  pub printed : PrintsNothing before after

-- The command stopped while the lines were printed: the file is written, where there is one.
pub record StopsAtLines (s : Stop) (out : Option (List ℕ)) (bytes lines : List ℕ) (before after : World) : Type 0 where
  pub cause : IsPrintCause s before.output after.output
  pub written : IsWritten before after out bytes
  pub printed : PrintsPartly before after lines

-- the command stopped while its file was written
abbrev pub StopsAtOut : Stop → (out : Option (List ℕ)) → (bytes : List ℕ) → (before after : World) → Type 0
StopsAtOut s None bytes before after = ⊥
StopsAtOut s (Some out) bytes before after = StopsAtFile s out bytes before after

abbrev pub IsUndelivered : Stop → (out : Option (List ℕ)) → (bytes lines : List ℕ) → (before after : World) → Type 0
IsUndelivered s out bytes lines before after = StopsAtOut s out bytes before after ⊎ StopsAtLines s out bytes lines before after

-- the path, where there is one, has a front of these bytes or is as it was, and each other file is as it was
abbrev pub IsWrittenPartly : (before after : World) → (out : Option (List ℕ)) → (bytes : List ℕ) → Type 0
IsWrittenPartly before after None bytes = ⊥
IsWrittenPartly before after (Some out) bytes = WritesPartly before after out bytes

-- The command stopped before it made anything, for this reason: nothing was done.
pub record StopsAtOnce (Cause : SeenFiles → SeenFiles → Type 0) (before after : World) : Type 0 where
  pub cause : Cause before.files after.files
  pub files : SameFiles before after
  pub printed : PrintsNothing before after

-- of what a command makes of files: the bytes of its file, and the lines that tell of them
module _ (Makes : SeenFiles → List ℕ → List ℕ → Type 0) (out : Option (List ℕ)) (before after : World) where
  -- what it makes is delivered
  pub record Delivers : Type 0 where
    pub bytes : List ℕ
    pub lines : List ℕ
    pub makes : Makes before.files bytes lines
    pub delivered : IsDelivered out bytes lines before after

  -- it stopped while this was delivered
  pub record Undelivers (s : Stop) : Type 0 where
    pub bytes : List ℕ
    pub lines : List ℕ
    pub makes : Makes before.files bytes lines
    pub undelivered : IsUndelivered s out bytes lines before after

  -- the path, where there is one, has what it makes or a front of that, and each other file is as it was
  pub record HoldsMade : Type 0 where
    pub bytes : List ℕ
    pub lines : List ℕ
    pub makes : Makes before.files bytes lines
    pub written : IsWrittenPartly before after out bytes ⊎ IsWritten before after out bytes
