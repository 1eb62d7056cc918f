-- Of what a component can be composed.
use Rattle.std.specs.Prelude.{◌≡◌, ℕ, ◌<◌, ◌^◌, false, List}
use Rattle.compose_complete.specs.Unwritten.{IsExported}
use Rattle.compose_encode.specs.Encoded.{IsOfWritten}
use Rattle.compose_encode.specs.Whole.{CanBeEncoded}
use Rattle.compose_graph.specs.Composed.{composed}
use Rattle.compose_graph.specs.Encoding.{export_place}
use Rattle.compose_graph.specs.Graph.{GraphTree}
use Rattle.compose_graph.specs.Kept.{IsGraph}
use Rattle.compose_graph.specs.declared.options.EncodeOptions.{EncodeOptions}
use Rattle.compose_order.specs.Needs.{LeftTree}
use Rattle.compose_files.specs.Built.{Sources}
use Rattle.compose_files.specs.Composed.{options_of}
use Rattle.compose_files.specs.Refused.{IsComplete}
use Rattle.compose_files.specs.declared.error.ComposerError.{ComposerError}
use Rattle.compose_files.specs.declared.error.ComposerError.TheVariants as error

-- A graph is as the calls of a graph keep it; it can be encoded by options, by which it is not read again; and each number
-- that would be written is below 2 ^ 32.
pub record IsEncodable (g : GraphTree) (o : EncodeOptions) : Type 0 where
  pub is_graph : IsGraph g
  pub exported : IsExported g o
  pub unread : o.validate ≡ false
  pub order : List ℕ
  pub lefts : List LeftTree
  pub possible : CanBeEncoded (composed g) o.define_components (export_place g o) order lefts
  pub small : (n : ℕ) → IsOfWritten n (composed g) o.define_components (export_place g o) order lefts → n < 2 ^ 32

-- A component can be composed of a configuration and files: their graph has all that is to be written, and can be encoded.
pub record IsComposable (root : List ℕ) (s : Sources) : Type 0 where
  pub graph : GraphTree
  pub is_complete : IsComplete root s graph
  pub encodable : IsEncodable graph (options_of s.settings)

-- want of memory
abbrev pub IsShortOfMemory : ComposerError → Type 0
IsShortOfMemory error.Memory = Unit {0}
IsShortOfMemory _ = ⊥
