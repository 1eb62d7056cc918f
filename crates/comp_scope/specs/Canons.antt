-- Canonical definitions (Component Model, Explainer.md, "Canonical Definitions"). Of core functions nothing is known
-- but how many there are, so no more is asked of what is lifted or lowered than that its indices are there, and that a
-- function is lifted to a type of functions.
use Rattle.std.specs.Prelude.{suc, List, [], ◌∷◌, Result, Ok, Err}
use Rattle.warg_values.specs.Reading.{◌>>=◌}
use Rattle.comp_format.specs.declared.types.Canon.{Canon}
use Rattle.comp_format.specs.declared.types.Canon.TheVariants as canon
use Rattle.comp_format.specs.declared.types.CanonOption.{CanonOption}
use Rattle.comp_format.specs.declared.types.CanonOption.TheVariants as option
use Rattle.comp_entity.specs.Entity.{Func, IsType, IsFunc}
use Rattle.comp_entity.specs.Bounds.{ShapeFault, Index, Bounds}
use Rattle.comp_scope.specs.Spaces.{Spaces, Standing, at_index, if_below, added}
use Rattle.comp_scope.specs.Values.{resource_of}

unfoldable pub with_option : Spaces → CanonOption → Result Spaces ShapeFault
with_option s (option.Encoding code) = Ok s
with_option s (option.Memory i) = if_below s.core.memories i s
with_option s (option.Realloc i) = if_below s.core.funcs i s
with_option s (option.PostReturn i) = if_below s.core.funcs i s

unfoldable pub with_options : Spaces → List CanonOption → Result Spaces ShapeFault
with_options s [] = Ok s
with_options s (o ∷ os) = with_option s o >>= λ s. with_options s os

abbrev pub with_one_core_func : Spaces → Spaces
with_one_core_func s = record s { core = record s.core { funcs = suc s.core.funcs } }

-- a function of a type, which has the naming bit where the type has it
abbrev pub lifted : Bounds → Spaces → Standing → Result Spaces ShapeFault
lifted b s (IsType (Func f), named) = added b s (IsFunc f) named
lifted b s _ = Err Index

unfoldable pub with_canon : Bounds → Spaces → Canon → Result Spaces ShapeFault
with_canon b s (canon.Lift f options ty) =
    if_below s.core.funcs f s >>= λ s. with_options s options >>= λ s. at_index s.types ty >>= lifted b s
with_canon b s (canon.Lower f options) =
    at_index s.funcs f >>= λ of. with_options s options >>= λ s. Ok (with_one_core_func s)
with_canon b s (canon.ResourceNew ty) = resource_of s ty >>= λ r. Ok (with_one_core_func s)
with_canon b s (canon.ResourceDrop ty) = resource_of s ty >>= λ r. Ok (with_one_core_func s)
with_canon b s (canon.ResourceRep ty) = resource_of s ty >>= λ r. Ok (with_one_core_func s)
