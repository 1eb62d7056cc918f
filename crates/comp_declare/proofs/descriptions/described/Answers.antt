use Rattle.std.proofs.Common.{sym}
use Rattle.comp_declare.specs.Naming.{new_names}
use Rattle.comp_scope.specs.Descriptions.{described, described_component, described_func, described_instance, described_type}
use Rattle.comp_space.specs.Descriptions.{ShowsDescribed}
use Rattle.comp_space.specs.SpaceLaws.{space_is_there}
use Rattle.comp_space.specs.StandingLaws.{number_there}
use Rattle.comp_declare.proofs.IndexLaws.{index_fails, index_found}
use Rattle.comp_declare.proofs.descriptions.described.Goals as goal

pub returns-in_err-standing-in-Func-clause-found : goal.returns-in_err-standing-in-Func-clause-found
unfolding described
returns-in_err-standing-in-Func-clause-found c = λ s shows. rw c.in-Func.is
    (index_fails (ShowsDescribed c.args.table.now) c.args.table.now c.args.space.now.types.items s.types c.in-Func.index described_func c.from_residual.result shows.types c.in_err-standing-in-Func.field-0.0 c.from_residual.ensures.1
    (rw (sym c.deref.ensures.value) c.in_err-standing-in-Func.ensures))

pub described_func-requires : goal.described_func-requires
described_func-requires c =
    number_there c.args.table.now c.args.space.now.types.items c.in-Func.index c.in_ok-standing-in-Func.standing (space_is_there c.args.table.now c.args.space.now c.requires.0 c.requires.1).types
    (rw (sym c.deref.ensures.value) c.in_ok-standing-in-Func.ensures)

pub returns-in_ok-standing-in-Func-clause-found : goal.returns-in_ok-standing-in-Func-clause-found
unfolding described
returns-in_ok-standing-in-Func-clause-found c = λ s shows. rw c.in-Func.is
    (index_found (ShowsDescribed c.described_func.new.table) c.args.table.now c.args.space.now.types.items s.types c.in-Func.index described_func c.described_func.result shows.types c.in_ok-standing-in-Func.standing
    (rw (sym c.deref.ensures.value) c.in_ok-standing-in-Func.ensures) c.described_func.ensures.found)

pub returns-in_err-standing-in-TyEqual-clause-found : goal.returns-in_err-standing-in-TyEqual-clause-found
unfolding described
returns-in_err-standing-in-TyEqual-clause-found c = λ s shows. rw c.in-TyEqual.is
    (index_fails (ShowsDescribed c.args.table.now) c.args.table.now c.args.space.now.types.items s.types c.in-TyEqual.index (described_type (new_names c.args.new.now)) c.from_residual-in_err-standing-in-TyEqual.result shows.types c.in_err-standing-in-TyEqual.field-0.0 c.from_residual-in_err-standing-in-TyEqual.ensures.1
    (rw (sym c.deref-in-TyEqual.ensures.value) c.in_err-standing-in-TyEqual.ensures))

pub described_type-requires : goal.described_type-requires
described_type-requires c =
    number_there c.args.table.now c.args.space.now.types.items c.in-TyEqual.index c.in_ok-standing-in-TyEqual.standing (space_is_there c.args.table.now c.args.space.now c.requires.0 c.requires.1).types
    (rw (sym c.deref-in-TyEqual.ensures.value) c.in_ok-standing-in-TyEqual.ensures)

pub returns-in_ok-standing-in-TyEqual-clause-found : goal.returns-in_ok-standing-in-TyEqual-clause-found
unfolding described
returns-in_ok-standing-in-TyEqual-clause-found c = λ s shows. rw c.in-TyEqual.is
    (index_found (ShowsDescribed c.described_type.new.table) c.args.table.now c.args.space.now.types.items s.types c.in-TyEqual.index (described_type (new_names c.args.new.now)) c.described_type.result shows.types c.in_ok-standing-in-TyEqual.standing
    (rw (sym c.deref-in-TyEqual.ensures.value) c.in_ok-standing-in-TyEqual.ensures) c.described_type.ensures.found)

pub returns-in_err-standing-in-Component-clause-found : goal.returns-in_err-standing-in-Component-clause-found
unfolding described
returns-in_err-standing-in-Component-clause-found c = λ s shows. rw c.in-Component.is
    (index_fails (ShowsDescribed c.args.table.now) c.args.table.now c.args.space.now.types.items s.types c.in-Component.index described_component c.from_residual-in_err-standing-in-Component.result shows.types c.in_err-standing-in-Component.field-0.0 c.from_residual-in_err-standing-in-Component.ensures.1
    (rw (sym c.deref-in-Component.ensures.value) c.in_err-standing-in-Component.ensures))

pub described_component-requires : goal.described_component-requires
described_component-requires c =
    number_there c.args.table.now c.args.space.now.types.items c.in-Component.index c.in_ok-standing-in-Component.standing (space_is_there c.args.table.now c.args.space.now c.requires.0 c.requires.1).types
    (rw (sym c.deref-in-Component.ensures.value) c.in_ok-standing-in-Component.ensures)

pub returns-in_ok-standing-in-Component-clause-found : goal.returns-in_ok-standing-in-Component-clause-found
unfolding described
returns-in_ok-standing-in-Component-clause-found c = λ s shows. rw c.in-Component.is
    (index_found (ShowsDescribed c.described_component.new.table) c.args.table.now c.args.space.now.types.items s.types c.in-Component.index described_component c.described_component.result shows.types c.in_ok-standing-in-Component.standing
    (rw (sym c.deref-in-Component.ensures.value) c.in_ok-standing-in-Component.ensures) c.described_component.ensures.found)

pub returns-in_err-standing-in-Instance-clause-found : goal.returns-in_err-standing-in-Instance-clause-found
unfolding described
returns-in_err-standing-in-Instance-clause-found c = λ s shows. rw c.in-Instance.is
    (index_fails (ShowsDescribed c.args.table.now) c.args.table.now c.args.space.now.types.items s.types c.in-Instance.index (described_instance (new_names c.args.new.now)) c.from_residual-in_err-standing-in-Instance.result shows.types c.in_err-standing-in-Instance.field-0.0 c.from_residual-in_err-standing-in-Instance.ensures.1
    (rw (sym c.deref-in-Instance.ensures.value) c.in_err-standing-in-Instance.ensures))

pub described_instance-requires : goal.described_instance-requires
described_instance-requires c =
    number_there c.args.table.now c.args.space.now.types.items c.in-Instance.index c.in_ok-standing-in-Instance.standing (space_is_there c.args.table.now c.args.space.now c.requires.0 c.requires.1).types
    (rw (sym c.deref-in-Instance.ensures.value) c.in_ok-standing-in-Instance.ensures)

pub returns-in_ok-standing-in-Instance-clause-found : goal.returns-in_ok-standing-in-Instance-clause-found
unfolding described
returns-in_ok-standing-in-Instance-clause-found c = λ s shows. rw c.in-Instance.is
    (index_found (ShowsDescribed c.described_instance.new.table) c.args.table.now c.args.space.now.types.items s.types c.in-Instance.index (described_instance (new_names c.args.new.now)) c.described_instance.result shows.types c.in_ok-standing-in-Instance.standing
    (rw (sym c.deref-in-Instance.ensures.value) c.in_ok-standing-in-Instance.ensures) c.described_instance.ensures.found)

pub returns-in-TyFresh-clause-found : goal.returns-in-TyFresh-clause-found
unfolding described
returns-in-TyFresh-clause-found c = λ s shows. rw c.in-TyFresh.is c.described_resource.ensures.found
