-- Why the walk stops: what it asks for, or why there is no plan.
use Rattle.std.specs.Prelude.{◌≡◌, ℕ, true, false, List, length, map, Some, None, Ok}
use Rattle.semver.specs.Parse.{Parts}
use Rattle.warg_names.specs.Import.{ImportTree, import_of}
use Rattle.compose_config.specs.Arguments.{is_among}
use Rattle.compose_config.specs.Plan.{Settings, Argument}
use Rattle.warg_plan.specs.Keys.{Key, Release, asked, choice_for}
use Rattle.warg_plan.specs.Walk.{Facts, Content, log_in, content_in, Stop, NeedsLog, NeedsContent, NoPackage, NoRelease, BadImportName, NoSuchImport, Cycle, TooDeep, Node, given, node_of}
use Rattle.warg_plan.specs.Plan.{HasLog, Chooses, IsTrail, Needs, NeedsItself}

-- the content of the release that is chosen for a key
pub record HasContent (s : Settings) (f : Facts) (k : Key) (c : Content) : Type 0 where
  pub name : List ℕ
  pub version : Parts
  pub digest : List ℕ
  pub chooses : Chooses s f k name version digest
  pub known : content_in f digest ≡ Some c

-- what the entry of a key is, before its arguments have numbers
abbrev pub IsNode : Settings → Facts → Key → Node → Type 0
IsNode s f k x = node_of s f k ≡ Ok x

-- the names of arguments
abbrev pub names_of : List (List ℕ × Argument) → List (List ℕ)
names_of args = map (λ (a : List ℕ × Argument). a.0) args

-- The cause of a stop at a key, where at most so many keys may be open.
abbrev pub IsCauseAt : Settings → Facts → Key → ℕ → Key → Stop → Type 0
-- the key asks for a package of which no log is known
IsCauseAt s f root n k (NeedsLog name) = (i : ImportTree) × (asked s k ≡ Some i) × (i.name ≡ name) × (log_in f name ≡ None)
-- the content of the release that is chosen is not known
IsCauseAt s f root n k (NeedsContent name digest) = (version : Parts) × Chooses s f k name version digest × (content_in f digest ≡ None)
-- the key asks for no package
IsCauseAt s f root n k (NoPackage j) = (j ≡ k) × (asked s k ≡ None)
-- no release is chosen of the package's log
IsCauseAt s f root n k (NoRelease name) = (i : ImportTree) × (log : List Release) × HasLog s f k name i log × (choice_for i log ≡ None)
-- an import of the content has a name that is none
IsCauseAt s f root n k (BadImportName name) = (c : Content) × HasContent s f k c × (is_among c.imports name ≡ true) × (import_of name ≡ None)
-- an argument in the text names no import of the content
IsCauseAt s f root n k (NoSuchImport j name) = (j ≡ k) × (c : Content) × HasContent s f k c × (is_among (names_of (given s k)) name ≡ true) × (is_among c.imports name ≡ false)
-- the key needs itself
IsCauseAt s f root n k (Cycle j) = (j ≡ k) × NeedsItself (IsNode s f) k
-- as many keys are open
IsCauseAt s f root n k TooDeep = (path : List Key) × IsTrail (IsNode s f) root path k × (length path ≡ n)

-- The cause of a stop of the walk from a root: it stands at a key that the root needs.
abbrev pub IsCause : Settings → Facts → Key → ℕ → Stop → Type 0
IsCause s f root n stop = (k : Key) × Needs (IsNode s f) root k × IsCauseAt s f root n k stop
