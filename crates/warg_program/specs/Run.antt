-- A run of the program: what it does for its words, and why it stops.
use Rattle.std.specs.Prelude.{◌≡◌, ◌⊎◌, ℕ, List, ◌≤◌}
use Rattle.warg_program.specs.World.{SeenFiles, World, SameFiles, PrintsNothing, PrintsPartly}
use Rattle.warg_program.specs.Command.{Asked, Link, Compose, Assemble, Demo, IsCommand, IsNoCommand, out_of}
use Rattle.warg_program.specs.Link.{IsLink, IsLinkCause}
use Rattle.warg_program.specs.Compose.{IsComposition, IsCompositionCause}
use Rattle.warg_program.specs.Assembly.{IsAssembly, IsAssemblyCause}
use Rattle.warg_program.specs.Demo.{IsDemonstration, IsDemonstrationCause}
use Rattle.warg_program.specs.Delivery.{Delivers, Undelivers, HoldsMade, StopsAtOnce}
use Rattle.warg_program.specs.Stop.{line_of}
use Rattle.warg_program.specs.declared.stop.Stop.{Stop}
use Rattle.warg_program.specs.declared.stop.Stop.TheVariants as stop

-- what a command makes of files: a component, and the lines that tell of it
abbrev pub Makes : Asked → SeenFiles → (bytes lines : List ℕ) → Type 0
Makes (Link root out) files bytes lines = IsLink root files bytes lines
Makes (Compose root config out) files bytes lines = IsComposition root config files bytes lines
Makes (Assemble sources out) files bytes lines = IsAssembly sources files bytes lines
Makes (Demo seed count) files bytes lines = IsDemonstration seed count bytes lines

-- why it makes nothing
abbrev pub IsUnmade : Stop → Asked → (before after : SeenFiles) → Type 0
IsUnmade s (Link root out) before after = IsLinkCause s root out before after
IsUnmade s (Compose root config out) before after = IsCompositionCause s root config before after
IsUnmade s (Assemble sources out) before after = IsAssemblyCause s sources before after
IsUnmade s (Demo seed count) before after = IsDemonstrationCause s seed count

-- the command did what it is for
abbrev pub Does : Asked → (before after : World) → Type 0
Does c before after = Delivers (Makes c) (out_of c) before after

-- the command stopped, for this reason
abbrev pub Stops : Stop → Asked → (before after : World) → Type 0
Stops s c before after = StopsAtOnce (IsUnmade s c) before after ⊎ Undelivers (Makes c) (out_of c) before after s

-- what the files hold, however the command ended
abbrev pub Holds : Asked → (before after : World) → Type 0
Holds c before after = SameFiles before after ⊎ HoldsMade (Makes c) (out_of c) before after

-- The words are no command, and nothing was done.
pub record RefusesWords (s : Stop) (words : List (List ℕ)) (before after : World) : Type 0 where
  pub usage : s ≡ stop.Usage
  pub no_command : IsNoCommand words
  pub files : SameFiles before after
  pub printed : PrintsNothing before after

-- The words are a command, which stopped.
pub record StopsCommand (s : Stop) (words : List (List ℕ)) (before after : World) : Type 0 where
  pub command : Asked
  pub is_command : IsCommand words command
  pub stops : Stops s command before after

-- The line of a stop was printed, where the output took it: no file is touched, and the output has a front of the line.
pub record SaysStop (s : Stop) (before after : World) : Type 0 where
  pub files : SameFiles before after
  pub file_faults : after.files.faults ≡ before.files.faults
  pub printed : PrintsPartly before after (line_of s)
  pub never_falls : before.output.faults ≤ after.output.faults

-- The words are no command, or they are one that stopped.
abbrev pub IsStopped : Stop → List (List ℕ) → (before after : World) → Type 0
IsStopped s words before after = RefusesWords s words before after ⊎ StopsCommand s words before after

-- A run of these words stopped, and then the line of the stop was printed.
pub record IsStop (s : Stop) (words : List (List ℕ)) (before after : World) : Type 0 where
  pub stopped : World
  pub why : IsStopped s words before stopped
  pub says : SaysStop s stopped after

-- the stop is want of memory
abbrev pub IsShortOfMemory : Stop → Type 0
IsShortOfMemory stop.Memory = Unit {0}
IsShortOfMemory _ = ⊥

-- A run of these words did what their command is for.
pub record IsDone (words : List (List ℕ)) (before after : World) : Type 0 where
  pub command : Asked
  pub is_command : IsCommand words command
  pub does : Does command before after

-- Whatever the status: no file changed, or the words are a command and the files hold what that may leave.
abbrev pub MayHold : List (List ℕ) → (before after : World) → Type 0
MayHold words before after = SameFiles before after ⊎ ((command : Asked) × IsCommand words command × Holds command before after)
