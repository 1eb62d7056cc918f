use Rattle.std.proofs.Common.{◌≡◌, map}
use Rattle.comp_reader.specs.Views.{member_tree}
use Rattle.comp_reader.proofs.parts.args_of.Given as goal

abbrev pub invariant-loop-member : goal.invariant-loop-member
invariant-loop-member l = l.args ≡ map member_tree l.yielded
