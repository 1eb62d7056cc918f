use Rattle.std.proofs.Common.{List, ℕ, take}
use Rattle.warg_info.specs.Kept.{Kept}
use Rattle.warg_learn.specs.Gathered.{AreFound}
use Rattle.warg_learn.specs.Groups.{AreAnswers}
use Rattle.warg_learn.proofs.group.in_order.Given as goal

abbrev pub invariant-loop-name : goal.invariant-loop-name
invariant-loop-name l = (logs : List (List ℕ × List Kept)) → AreFound logs l.fn.found → AreFound logs l.found × AreAnswers logs (take l.name-index l.names) l.infos.items
