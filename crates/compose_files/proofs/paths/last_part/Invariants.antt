use Rattle.std.proofs.Common.{◌≡◌, length}
use denote.Shadow.{shadow}
use denote.Text.{Utf8}
use Rattle.compose_files.specs.Paths.{last_part, parts}
use Rattle.compose_files.proofs.paths.last_part.Given as goal

abbrev pub invariant-loop-cut : goal.invariant-loop-cut
invariant-loop-cut l = record { same : last_part (parts l.rest) ≡ last_part (parts l.path); text : shadow (Utf8 l.rest) }

abbrev pub decreases-loop-cut : goal.decreases-loop-cut
decreases-loop-cut l = length l.rest
