use Rattle.std.proofs.Common.{sym}
use Rattle.warg_values.specs.Reading.{◌>>=◌}
use Rattle.comp_instance.specs.Instances.{AreSides, component_instance, sides_in}
use Rattle.comp_instance.specs.Items.{ShowsInstance}
use Rattle.comp_scope.specs.Instances.{given}
use Rattle.comp_scope.specs.Spaces.{entries_in}
use Rattle.comp_space.specs.Descriptions.{ShowsDescribed}
use Rattle.comp_space.specs.SpaceLaws.{space_kept}
use Rattle.comp_space.specs.StandingLaws.{at_found, fails_bind, found_bind, passed_on}
use Rattle.comp_table.specs.StandLaws.{stands_kept}
use Rattle.comp_instance.proofs.IndexLaws.{index_fails, index_found}
use Rattle.comp_instance.proofs.instances.instance_at.Goals as goal

pub returns-in_err-component-clause-found : goal.returns-in_err-component-clause-found
returns-in_err-component-clause-found c = λ s shows.
    index_fails (ShowsDescribed c.args.table.now) c.args.table.now c.args.space.now.components.items s.components c.args.component _ c.from_residual.result shows.components c.in_err-component.field-0.0 c.from_residual.ensures.1
    (rw (sym c.deref.ensures.value) c.in_err-component.ensures)

pub returns-in_err-arguments-clause-found : goal.returns-in_err-arguments-clause-found
returns-in_err-arguments-clause-found c = λ s shows.
    index_found (ShowsDescribed c.arguments.new.table) c.args.table.now c.args.space.now.components.items s.components c.args.component _ c.from_residual-in_err-arguments.result shows.components c.in_ok-component.component
    (rw (sym c.deref.ensures.value) c.in_ok-component.ensures) (λ e stands.
    passed_on (ShowsDescribed c.arguments.new.table) c.from_residual-in_err-arguments.result c.in_err-arguments.field-0.0 _ c.from_residual-in_err-arguments.ensures.1
    (fails_bind (given s c.args.args.now) (λ arguments. sides_in e >>= λ sides. component_instance s sides.0 sides.1 (entries_in arguments)) c.in_err-arguments.field-0.0 (c.in_err-arguments.ensures.found s shows)))

pub sides_of-requires : goal.sides_of-requires
sides_of-requires c =
    let f = at_found c.args.table.now c.args.space.now.components.items c.requires.0.components c.args.component c.in_ok-component.component c.requires.1.components (rw (sym c.deref.ensures.value) c.in_ok-component.ensures) in
    (f.value.0, stands_kept _ _ c.arguments.ensures.extends _ _ f.shown.stands)

pub returns-in_err-sides-clause-found : goal.returns-in_err-sides-clause-found
returns-in_err-sides-clause-found c = λ s shows.
    index_found (ShowsDescribed c.sides_of.new.table) c.args.table.now c.args.space.now.components.items s.components c.args.component _ c.from_residual-in_err-sides.result shows.components c.in_ok-component.component
    (rw (sym c.deref.ensures.value) c.in_ok-component.ensures) (λ e stands.
    found_bind (ShowsInstance c.arguments.new.table) (ShowsDescribed c.sides_of.new.table) c.in_ok-arguments.arguments (given s c.args.args.now) (λ arguments. sides_in e >>= λ sides. component_instance s sides.0 sides.1 (entries_in arguments)) c.from_residual-in_err-sides.result (c.in_ok-arguments.ensures.found s shows)
    (passed_on (ShowsDescribed c.sides_of.new.table) c.from_residual-in_err-sides.result c.in_err-sides.field-0.0 _ c.from_residual-in_err-sides.ensures.1
    (fails_bind (sides_in e) _ c.in_err-sides.field-0.0 (c.in_err-sides.ensures.found e (stands_kept _ _ c.arguments.ensures.extends _ _ stands)))))

pub component_instance-requires-clause-space : goal.component_instance-requires-clause-space
component_instance-requires-clause-space c =
    (c.requires.0, space_kept _ _ c.sides_of.ensures.extends c.args.space.now c.requires.0 (space_kept _ _ c.arguments.ensures.extends c.args.space.now c.requires.0 c.requires.1))

pub component_instance-requires-clause-sides : goal.component_instance-requires-clause-sides
component_instance-requires-clause-sides c =
    let f = at_found c.args.table.now c.args.space.now.components.items c.requires.0.components c.args.component c.in_ok-component.component c.requires.1.components (rw (sym c.deref.ensures.value) c.in_ok-component.ensures) in
    let sides = c.in_ok-sides.ensures.found f.value.0 (stands_kept _ _ c.arguments.ensures.extends _ _ f.shown.stands) in
    (sides.value.0, sides.value.1, sides.shown)

pub component_instance-requires-clause-arguments : goal.component_instance-requires-clause-arguments
component_instance-requires-clause-arguments c =
    let f = c.in_ok-arguments.ensures.found c.requires.0 c.requires.1 in
    (entries_in f.value, stands_kept _ _ c.sides_of.ensures.extends _ _ f.shown.stands)

pub returns-clause-found : goal.returns-clause-found
returns-clause-found c = λ s shows.
    let kept = space_kept _ _ c.sides_of.ensures.extends c.args.space.now s (space_kept _ _ c.arguments.ensures.extends c.args.space.now s shows) in
    let arguments = c.in_ok-arguments.ensures.found s shows in
    index_found (ShowsDescribed c.component_instance.new.table) c.args.table.now c.args.space.now.components.items s.components c.args.component _ c.component_instance.result shows.components c.in_ok-component.component
    (rw (sym c.deref.ensures.value) c.in_ok-component.ensures) (λ e stands.
    let sides = c.in_ok-sides.ensures.found e (stands_kept _ _ c.arguments.ensures.extends _ _ stands) in
    found_bind (ShowsInstance c.arguments.new.table) (ShowsDescribed c.component_instance.new.table) c.in_ok-arguments.arguments (given s c.args.args.now) (λ arguments. sides_in e >>= λ sides. component_instance s sides.0 sides.1 (entries_in arguments)) c.component_instance.result arguments
    (found_bind (AreSides c.sides_of.new.table) (ShowsDescribed c.component_instance.new.table) c.in_ok-sides.sides (sides_in e) (λ sides. component_instance s sides.0 sides.1 (entries_in arguments.value)) c.component_instance.result sides
    (c.component_instance.ensures.found s sides.value.0 sides.value.1 (entries_in arguments.value) kept sides.shown (stands_kept _ _ c.sides_of.ensures.extends _ _ arguments.shown.stands))))
