use Rattle.std.proofs.Common.{◌≡◌, take}
use Rattle.warg_exchange.proofs.exchange.headers_clone.Given as goal

abbrev pub invariant-loop-name : goal.invariant-loop-name
invariant-loop-name l = l.copies.items ≡ take l.name-index l.headers
