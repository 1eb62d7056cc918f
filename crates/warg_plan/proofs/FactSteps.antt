-- Facts of which one part is another.
use Rattle.std.proofs.Common.{ℕ, List}
use Rattle.warg_plan.specs.Keys.{Release}
use Rattle.warg_plan.specs.Walk.{Content, Facts}

-- facts with other logs, and with other contents
abbrev pub with_logs : Facts → List (List ℕ × List Release) → Facts
with_logs f logs = record f { logs = logs }

abbrev pub with_contents : Facts → List (List ℕ × Content) → Facts
with_contents f contents = record f { contents = contents }
