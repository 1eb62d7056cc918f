-- Words that name a command which files let do what it is for.
use Rattle.std.specs.Prelude.{◌≡◌, ◌⊎◌, ℕ, ◌<◌, ◌^◌, true, List, Some, Ok, IsUtf8}
use Rattle.std.specs.List.Sorted.{IsPermutation}
use Rattle.comp_entity.specs.Entity.{ShapeTree}
use Rattle.comp_shape.specs.Shape.{HasShape}
use Rattle.compose_encode.specs.Encoded.{IsOfWritten}
use Rattle.compose_encode.specs.Whole.{CanBeEncoded}
use Rattle.compose_files.specs.Composable.{IsComposable}
use Rattle.compose_graph.specs.Composed.{composed}
use Rattle.compose_graph.specs.Encoding.{export_place}
use Rattle.compose_order.specs.Needs.{LeftTree}
use Rattle.warg_base.specs.Files.{FileMap, file_at}
use Rattle.warg_exchange.specs.declared.exchange.Reply.{Reply}
use Rattle.warg_recorded.specs.Files.{replies_in, signatures_in}
use Rattle.warg_replay.specs.Replay.{IsReplayable, accepts_listed}
use Rattle.warg_program.specs.Assembly.{Listed}
use Rattle.warg_program.specs.Command.{Assemble, Compose, Link, Sources, IsCommand}
use Rattle.warg_program.specs.Compose.{IsByConfig}
use Rattle.warg_program.specs.Link.{root_graph, root_options}
use Rattle.warg_program.specs.World.{SeenFiles}

-- files tell what they hold, and a path has these bytes
pub record Has (files : SeenFiles) (path bytes : List ℕ) : Type 0 where
  pub held : FileMap
  pub told : files.held ≡ Some held
  pub there : file_at held path ≡ Some bytes

-- ROOT is a component; what it imports and exports agrees, as its one instance imports and exports it; and each number that
-- would be written is below 2 ^ 32
pub record CanLink (words : List (List ℕ)) (files : SeenFiles) : Type 0 where
  pub root : List ℕ
  pub out : List ℕ
  pub command : IsCommand words (Link root out)
  pub bytes : List ℕ
  pub has : Has files root bytes
  pub tree : ShapeTree
  pub has_shape : HasShape bytes tree
  pub order : List ℕ
  pub lefts : List LeftTree
  pub possible : CanBeEncoded (composed (root_graph bytes tree)) true (export_place (root_graph bytes tree) root_options)
      order lefts
  pub small : (n : ℕ) → IsOfWritten n (composed (root_graph bytes tree)) true
      (export_place (root_graph bytes tree) root_options) order lefts → n < 2 ^ 32

-- CONFIG holds settings, by which and by what the files hold a component can be composed of ROOT
pub record CanCompose (words : List (List ℕ)) (files : SeenFiles) : Type 0 where
  pub root : List ℕ
  pub config : List ℕ
  pub out : List ℕ
  pub command : IsCommand words (Compose root config out)
  pub held : FileMap
  pub told : files.held ≡ Some held
  pub composable : IsByConfig config (IsComposable root) held

-- PLAN is a text, REPLIES are replies and CHECKED signatures, by which, in whatever order they are taken, the text can be
-- replayed
pub record CanAssemble (words : List (List ℕ)) (files : SeenFiles) : Type 0 where
  pub sources : Sources
  pub out : List ℕ
  pub command : IsCommand words (Assemble sources out)
  pub text : List ℕ
  pub has_plan : Has files sources.plan text
  pub is_text : IsUtf8 text
  pub reply_bytes : List ℕ
  pub has_replies : Has files sources.replies reply_bytes
  pub replies : List Reply
  pub are_replies : replies_in reply_bytes ≡ Ok replies
  pub checked_bytes : List ℕ
  pub has_checked : Has files sources.checked checked_bytes
  pub inside : List Listed
  pub are_signatures : signatures_in checked_bytes ≡ Ok inside
  pub replayable : (listed : List Listed) → IsPermutation inside listed
      → IsReplayable (accepts_listed listed) replies text

-- the words are a command that can do what it is for
abbrev pub IsAble : List (List ℕ) → SeenFiles → Type 0
IsAble words files = CanLink words files ⊎ CanCompose words files ⊎ CanAssemble words files
