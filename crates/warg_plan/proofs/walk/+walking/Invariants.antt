use Rattle.std.proofs.Common.{◌≡◌, ◌+◌, ◌*◌, List, drop}
use Rattle.warg_plan.specs.Walk as spec
use Rattle.warg_plan.specs.Steps.{wires_view}
use Rattle.warg_plan.specs.Found.{found_entries, open_keys, nodes}
use Rattle.warg_plan.specs.Onward.{GoesAlong}
use Rattle.warg_plan.specs.Walk.{Entry}
use Rattle.warg_plan.proofs.walk.+walking.Given as goal

abbrev pub decreases-visit : goal.decreases-visit
decreases-visit l = 3 * l.left

abbrev pub decreases-visit_open : goal.decreases-visit_open
decreases-visit_open l = 3 * l.left + 2

abbrev pub decreases-visit_each : goal.decreases-visit_each
decreases-visit_each l = 3 * l.left + 1

abbrev pub invariant-visit_each-loop-wire : goal.invariant-visit_each-loop-wire
invariant-visit_each-loop-wire l = record {
  «open» : open_keys l.walk ≡ open_keys l.fn.walk;
  gives : spec.along (spec.visit (nodes l.question) l.left (open_keys l.walk)) (found_entries l.walk) (wires_view (drop l.wire-index l.wires)) ≡ spec.along (spec.visit (nodes l.fn.question) l.fn.left (open_keys l.fn.walk)) (found_entries l.fn.walk) (wires_view l.fn.wires);
  goes_on : (later : List Entry) → GoesAlong (nodes l.question) l.left (open_keys l.walk) (found_entries l.walk) later (wires_view (drop l.wire-index l.wires))
      → GoesAlong (nodes l.fn.question) l.fn.left (open_keys l.fn.walk) (found_entries l.fn.walk) later (wires_view l.fn.wires);
}
