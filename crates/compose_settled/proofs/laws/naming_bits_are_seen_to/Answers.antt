use Rattle.std.proofs.Common.{[]}
use Rattle.compose_naming.specs.Bits.{opened}
use Rattle.compose_settled.specs.ReadBack.{first_import}
use Rattle.compose_settled.proofs.CallBits.{first_included, lefts_remain}
use Rattle.compose_settled.proofs.laws.naming_bits_are_seen_to.Goals as goal

pub returns : goal.returns
returns c = λ mean ls scopes passed so stay. lefts_remain mean ls first_import (opened 2) [] scopes (first_included mean) passed so stay
