-- What is not written though it can be encoded: a number in it can't be, or memory is short.
use Rattle.std.specs.Prelude.{◌≡◌, ◌≤◌, ◌^◌, ℕ, Bool, true, List, Option, IfSome, is_some}
use Rattle.compose_check.specs.Composition.{CompositionTree}
use Rattle.compose_encode.specs.Encoded.{IsOfWritten}
use Rattle.compose_encode.specs.declared.refused.CompositionError.{CompositionError}
use Rattle.compose_encode.specs.declared.refused.CompositionError.TheVariants as refusal
use Rattle.compose_graph.specs.Composed.{composed}
use Rattle.compose_graph.specs.Encoding.{export_place}
use Rattle.compose_graph.specs.Graph.{GraphTree, instance_at}
use Rattle.compose_graph.specs.declared.compose_error.ComposeError.{ComposeError}
use Rattle.compose_graph.specs.declared.compose_error.ComposeError.TheVariants as error
use Rattle.compose_graph.specs.declared.ids.InstanceId.{InstanceId}
use Rattle.compose_graph.specs.declared.options.EncodeOptions.{EncodeOptions}
use Rattle.compose_order.specs.Needs.{LeftTree}

-- a number of what would be written that can't be
pub record IsLargeNumber (c : CompositionTree) (define : Bool) (export : Option ℕ) (order : List ℕ) (lefts : List LeftTree)
    (n : ℕ) : Type 0 where
  pub large : 2 ^ 32 ≤ n
  pub among : IsOfWritten n c define export order lefts

-- a composition is refused for such a number, or for want of memory
abbrev pub IsUnwritten : CompositionTree → Bool → Option ℕ → List ℕ → List LeftTree → CompositionError → Type 0
IsUnwritten c define export order lefts (refusal.TooLarge n) = IsLargeNumber c define export order lefts n
IsUnwritten c define export order lefts refusal.Memory = Unit {0}
IsUnwritten c define export order lefts _ = ⊥

-- the instance that is to be exported is there
abbrev pub IsThere : GraphTree → InstanceId → Type 0
IsThere g id = is_some (instance_at g.instances id.0) ≡ true

abbrev pub IsExported : GraphTree → EncodeOptions → Type 0
IsExported g o = IfSome o.export (IsThere g)

-- and so a graph
abbrev pub IsUnwrittenGraph : GraphTree → EncodeOptions → List ℕ → List LeftTree → ComposeError → Type 0
IsUnwrittenGraph g o order lefts (error.TooLarge n) =
    IsLargeNumber (composed g) o.define_components (export_place g o) order lefts n
IsUnwrittenGraph g o order lefts error.Memory = Unit {0}
IsUnwrittenGraph g o order lefts _ = ⊥
