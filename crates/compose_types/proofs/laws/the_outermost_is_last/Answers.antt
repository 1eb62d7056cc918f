use Rattle.std.proofs.Common.{map, refl}
use Rattle.std.specs.Prelude.{reverse}
use Rattle.compose_types.specs.Scopes.{scope_of}
use Rattle.compose_types.proofs.laws.the_outermost_is_last.Goals as goal

pub returns : goal.returns
returns c = λ s. (reverse (map scope_of s.1), refl)
