use Rattle.std.proofs.Common.{◌≡◌, ◌++◌, length, take}
use Rattle.std.specs.List.{flat_map}
use Rattle.comp_format.specs.Numbers.{number_text}
use Rattle.comp_format.specs.Parts.{member_text}
use Rattle.comp_encoder.proofs.any_item.write_members.Given as goal

abbrev pub invariant-loop-member : goal.invariant-loop-member
invariant-loop-member l = l.out.bytes.items ≡ l.fn.out.bytes.items ++ (number_text (length l.members) ++ flat_map member_text (take l.member-index l.members))
