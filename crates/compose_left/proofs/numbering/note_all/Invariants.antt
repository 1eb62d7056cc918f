use Rattle.std.proofs.Common.{◌≡◌, take, Some, cond}
use Rattle.std.specs.List.{list_any}
use Rattle.std.specs.BTreeMap.{get}
use Rattle.compose_left.specs.declared.origin.Held.{Held}
use Rattle.compose_left.specs.Numbers.{held_cmp, same_held}
use Rattle.compose_left.proofs.numbering.note_all.Given as goal

abbrev pub invariant-loop-held : goal.invariant-loop-held
invariant-loop-held l = (h : Held) → get held_cmp l.numbers h ≡ cond (list_any (λ t. same_held t h) (take l.held-index l.things)) (Some l.number) (get held_cmp l.fn.numbers h)
