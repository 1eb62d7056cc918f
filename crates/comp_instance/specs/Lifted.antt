-- What canonical definitions make, before it is put into the index spaces.
use Rattle.std.specs.Prelude.{ℕ, List, Result, Ok, Err}
use Rattle.warg_values.specs.Reading.{◌>>=◌}
use Rattle.comp_entity.specs.Bounds.{ShapeFault, Index}
use Rattle.comp_entity.specs.Entity.{Func, IsType, IsFunc}
use Rattle.comp_format.specs.declared.types.CanonOption.{CanonOption}
use Rattle.comp_scope.specs.Canons.{with_one_core_func, with_options}
use Rattle.comp_scope.specs.Spaces.{Spaces, Standing, at_index, if_below}
use Rattle.comp_scope.specs.Values.{resource_of}

-- a function of a type, which has the naming bit where the type has it
abbrev pub lifted_of : Standing → Result Standing ShapeFault
lifted_of (IsType (Func f), named) = Ok (IsFunc f, named)
lifted_of _ = Err Index

-- the scope, where the core function and the options are there
abbrev pub lifting : Spaces → ℕ → List CanonOption → Result Spaces ShapeFault
lifting s func options = if_below s.core.funcs func s >>= λ s. with_options s options

-- a function that is lifted
abbrev pub lifted_at : Spaces → ℕ → List CanonOption → ℕ → Result Standing ShapeFault
lifted_at s func options ty = lifting s func options >>= λ s. at_index s.types ty >>= lifted_of

-- the scope, where the function that is lowered and the options are there
abbrev pub lowered_at : Spaces → ℕ → List CanonOption → Result Spaces ShapeFault
lowered_at s func options = at_index s.funcs func >>= λ of. with_options s options

-- one core function more, which works on a resource
abbrev pub with_built_in : Spaces → ℕ → Result Spaces ShapeFault
with_built_in s ty = resource_of s ty >>= λ r. Ok (with_one_core_func s)
