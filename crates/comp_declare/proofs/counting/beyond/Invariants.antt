use Rattle.std.proofs.Common.{◌≡◌, take}
use Rattle.comp_entity.specs.Names.{beyond}
use Rattle.comp_declare.proofs.counting.beyond.Given as goal

abbrev pub invariant-loop-number : goal.invariant-loop-number
invariant-loop-number l = l.most ≡ beyond (take l.number-index l.numbers)
