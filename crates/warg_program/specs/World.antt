-- What a run sees of the outside, and what it changes there.
use Rattle.std.specs.Prelude.{◌≡◌, ℕ, List, ◌++◌, Option, Some, None, IfSome}
use Rattle.warg_values.specs.Faults.{Rose}
use Rattle.warg_base.specs.Files.{FileMap, LeavesPartlyWritten, file_at, with_file}
use Rattle.warg_base.specs.Out.{LeavesPartlyAdded}

-- Files at one moment: what they hold, where they are told, and how many calls failed so far.
pub record SeenFiles : Type 0 where
  pub held : Option FileMap
  pub faults : ℕ

-- an output at one moment: what it took, where it is told, and how many calls failed so far
pub record SeenOutput : Type 0 where
  pub printed : Option (List ℕ)
  pub faults : ℕ

-- the outside at one moment
pub record World : Type 0 where
  pub files : SeenFiles
  pub output : SeenOutput

-- files that tell this and have failed so often
abbrev pub seen_files : Option FileMap → ℕ → SeenFiles
seen_files held faults = record { held = held; faults = faults }

-- an output that tells this and has failed so often
abbrev pub seen_output : Option (List ℕ) → ℕ → SeenOutput
seen_output printed faults = record { printed = printed; faults = faults }

abbrev pub world : SeenFiles → SeenOutput → World
world files output = record { files = files; output = output }

-- files and an output that tell this and have failed so often
abbrev pub seen_world : Option FileMap → ℕ → Option (List ℕ) → ℕ → World
seen_world held file_faults printed output_faults =
    world (seen_files held file_faults) (seen_output printed output_faults)

-- no call of the files or of the output failed between two moments
pub record IsUnfailing (before after : World) : Type 0 where
  pub files : ¬ Rose before.files.faults after.files.faults
  pub output : ¬ Rose before.output.faults after.output.faults

-- a path has a file of these bytes
abbrev pub HasFile : SeenFiles → List ℕ → List ℕ → Type 0
HasFile f path bytes = IfSome f.held (λ files. file_at files path ≡ Some bytes)

-- a path has no file
abbrev pub HasNoFile : SeenFiles → List ℕ → Type 0
HasNoFile f path = IfSome f.held (λ files. file_at files path ≡ None)

-- no file changed
abbrev pub SameFiles : World → World → Type 0
SameFiles before after = after.files.held ≡ before.files.held

-- one path has these bytes now, and each other file is as it was
abbrev pub Writes : World → World → List ℕ → List ℕ → Type 0
Writes before after path bytes = IfSome before.files.held (λ files. after.files.held ≡ Some (with_file files path bytes))

-- the file at one path is as it was or has a front of these bytes, and each other file is as it was
abbrev pub WritesPartly : World → World → List ℕ → List ℕ → Type 0
WritesPartly before after path bytes = LeavesPartlyWritten before.files.held after.files.held path bytes

-- nothing was printed
abbrev pub PrintsNothing : World → World → Type 0
PrintsNothing before after = after.output.printed ≡ before.output.printed

-- the output took these bytes
abbrev pub Prints : World → World → List ℕ → Type 0
Prints before after bytes = IfSome before.output.printed (λ printed. after.output.printed ≡ Some (printed ++ bytes))

-- the output took a front of these bytes
abbrev pub PrintsPartly : World → World → List ℕ → Type 0
PrintsPartly before after bytes = LeavesPartlyAdded before.output.printed after.output.printed bytes
