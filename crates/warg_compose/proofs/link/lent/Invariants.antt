use Rattle.std.proofs.Common.{◌≡◌, map, take}
use Rattle.compose_check.specs.Composition.{component_tree}
use Rattle.warg_compose.specs.Held.{held_component}
use Rattle.warg_compose.proofs.link.lent.Given as goal

abbrev pub invariant-loop-component : goal.invariant-loop-component
invariant-loop-component l = map component_tree l.list.items ≡ map held_component (take l.component-index l.components)
