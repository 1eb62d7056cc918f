use Rattle.std.proofs.Common.{take}
use Rattle.warg_model.specs.Held.{registry_of}
use Rattle.warg_model.proofs.TokenLaws.{token-is-place}
use Rattle.warg_model.proofs.laws.tokens_are_places.Goals as goal

pub returns : goal.returns
returns c h n id before rest parts = token-is-place id (take n (registry_of h).entries) before rest parts
