use Rattle.std.proofs.Common.{◌≡◌, ◌++◌, take, map}
use Rattle.std.specs.Prelude.{string_bytes}
use Rattle.semver.specs.Identifiers.{comparator_view}
use Rattle.warg_names.specs.Texts.{following}
use Rattle.warg_names.proofs.texts.push_following.Given as goal

abbrev pub invariant-loop-comparator : goal.invariant-loop-comparator
invariant-loop-comparator l = string_bytes l.text ≡ string_bytes l.fn.text ++ following (map comparator_view (take l.comparator-index l.comparators))
