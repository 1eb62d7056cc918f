use Rattle.std.proofs.Common.{rules, ◌≡◌, ap, sym}
use Rattle.semver.specs.Identifiers.{parts_of}
use Rattle.warg_plan.specs.View.{key_view}
use Rattle.warg_plan.specs.Steps.{node_view, wires_view}
use Rattle.warg_plan.proofs.FoundSteps.{built_of}
use Rattle.warg_plan.proofs.walk.found_of.Goals as goal

pub returns : goal.returns
returns c = λ key.
    let version : parts_of c.in_ok-clone.field-0 ≡ parts_of c.args.node.version.now = search rules in
    built_of (key_view key) (node_view c.args.node) c.args.entries.now.entries _ _ _ version c.in_ok-from_slice.ensures.items (ap wires_view c.as_slice.ensures.value) (sym c.in_ok-arguments.ensures)
