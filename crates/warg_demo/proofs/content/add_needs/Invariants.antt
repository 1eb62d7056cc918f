use Rattle.std.proofs.Common.{◌≡◌, ◌++◌, map, take}
use Rattle.comp_format.specs.declared.types.Sort.TheVariants as sort
use Rattle.comp_encoder.specs.Builder.{entries_of}
use Rattle.comp_encoder.specs.Writing.{Single, next_index}
use Rattle.warg_demo.specs.Content.{need_items}
use Rattle.warg_demo.proofs.content.add_needs.Given as goal

abbrev pub invariant-loop-need : goal.invariant-loop-need
invariant-loop-need l = entries_of l.builder ≡ entries_of l.initial.builder ++ map Single (need_items (next_index sort.Ty (entries_of l.initial.builder)) (take l.need-index l.needs))
