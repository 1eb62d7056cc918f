use Rattle.std.proofs.Common.{length}
use Rattle.compose_naming.proofs.scopes.+bit_in.Given as goal

abbrev pub decreases-bit_in : goal.decreases-bit_in
decreases-bit_in l = length l.scopes.now
