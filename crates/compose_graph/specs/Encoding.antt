-- Composition graphs as components, and why there are none.
use Rattle.std.specs.Prelude.{◌≡◌, ℕ, true, List, Option, Some, None, option_map}
use Rattle.comp_shape.specs.Refusal.{IsRefused}
use Rattle.comp_shape.specs.declared.error.ShapeError.{ShapeError}
use Rattle.compose_check.specs.declared.error.CheckError.{CheckError}
use Rattle.compose_check.specs.declared.error.CheckError.TheVariants as check
use Rattle.compose_check.specs.declared.error.Why.TheVariants as why
use Rattle.compose_encode.specs.Whole.{IsHidden, IsNameClash, IsTooLargeIn, IsWhole}
use Rattle.compose_graph.specs.Composed.{composed}
use Rattle.compose_graph.specs.Graph.{GraphTree, instance_at}
use Rattle.compose_graph.specs.Judged.{IsJudgement}
use Rattle.compose_graph.specs.Wiring.{place_of}
use Rattle.compose_graph.specs.declared.compose_error.ComposeError.{ComposeError}
use Rattle.compose_graph.specs.declared.compose_error.ComposeError.TheVariants as refusal
use Rattle.compose_graph.specs.declared.ids.InstanceId.{InstanceId}
use Rattle.compose_graph.specs.declared.options.EncodeOptions.{EncodeOptions}

abbrev pub place_exported : GraphTree → InstanceId → ℕ
place_exported g id = place_of g.instances id.0

-- the place of the instance that is exported
abbrev pub export_place : GraphTree → EncodeOptions → Option ℕ
export_place g o = option_map (place_exported g) o.export

-- The bytes are the graph as one component: its composition, written with these options.
abbrev pub IsEncoding : GraphTree → EncodeOptions → List ℕ → Type 0
IsEncoding g o bytes = IsWhole (composed g) o.define_components (export_place g o) bytes

-- ---- refusals

pub record HasNoExport (g : GraphTree) (o : EncodeOptions) : Type 0 where
  pub id : InstanceId
  pub asked : o.export ≡ Some id
  pub absent : instance_at g.instances id.0 ≡ None

-- the graph is encoded, and the bytes are refused where they are read again
pub record IsInvalid (g : GraphTree) (o : EncodeOptions) (e : ShapeError) : Type 0 where
  pub asked : o.validate ≡ true
  pub bytes : List ℕ
  pub encoded : IsEncoding g o bytes
  pub refused : IsRefused e bytes

abbrev pub IsRefusedBy : GraphTree → EncodeOptions → CheckError → Type 0
IsRefusedBy g o (check.Incompatible (why.ExportNeeds name)) = IsHidden (composed g) o.define_components (export_place g o) name
IsRefusedBy g o check.Memory = ⊥
IsRefusedBy g o e = IsJudgement g e

-- why a graph is not encoded; want of memory has no cause here, and is told in one way alone
abbrev pub IsComposeRefusal : GraphTree → EncodeOptions → ComposeError → Type 0
IsComposeRefusal g o refusal.NoExportInstance = HasNoExport g o
IsComposeRefusal g o (refusal.Check e) = IsRefusedBy g o e
IsComposeRefusal g o (refusal.ImportNameClash name) = IsNameClash (composed g) o.define_components (export_place g o) name
IsComposeRefusal g o (refusal.TooLarge n) = IsTooLargeIn (composed g) o.define_components (export_place g o) n
IsComposeRefusal g o (refusal.InvalidOutput e) = IsInvalid g o e
IsComposeRefusal g o refusal.Memory = Unit {0}
