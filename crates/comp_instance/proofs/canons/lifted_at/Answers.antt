use Rattle.std.proofs.Common.{ap, sym, subst}
use Rattle.warg_values.specs.Reading.{◌>>=◌}
use Rattle.comp_instance.specs.Lifted.{lifted_of}
use Rattle.comp_scope.specs.Spaces.{at_index}
use Rattle.comp_space.specs.Faults.{Finds}
use Rattle.comp_space.specs.SpaceLaws.{space_is_there}
use Rattle.comp_space.specs.StandingLaws.{number_there}
use Rattle.comp_space.specs.Standings.{Shows}
use Rattle.comp_table.specs.Plain.{plain_entity}
use Rattle.comp_instance.proofs.IndexLaws.{index_fails, index_found}
use Rattle.comp_instance.proofs.canons.lifted_at.Goals as goal

pub returns-in_err-ty-clause-found : goal.returns-in_err-ty-clause-found
returns-in_err-ty-clause-found c = λ s shows.
    subst (Finds (Shows plain_entity c.args.table.now) c.from_residual-in_err-ty.result) (sym (ap (λ r. r >>= λ s. at_index s.types c.args.ty >>= lifted_of) (c.in_ok-check_lifted.ensures c.args.table.now s shows)))
    (index_fails (Shows plain_entity c.args.table.now) c.args.table.now c.args.space.now.types.items s.types c.args.ty lifted_of c.from_residual-in_err-ty.result shows.types c.in_err-ty.field-0.0 c.from_residual-in_err-ty.ensures.1
    (rw (sym c.deref.ensures.value) c.in_err-ty.ensures))

pub lifted-requires : goal.lifted-requires
lifted-requires c =
    number_there c.args.table.now c.args.space.now.types.items c.args.ty c.in_ok-ty.ty (space_is_there c.args.table.now c.args.space.now c.requires.0 c.requires.1).types
    (rw (sym c.deref.ensures.value) c.in_ok-ty.ensures)

pub returns-clause-found : goal.returns-clause-found
returns-clause-found c = λ s shows.
    subst (Finds (Shows plain_entity c.lifted.new.table) c.lifted.result) (sym (ap (λ r. r >>= λ s. at_index s.types c.args.ty >>= lifted_of) (c.in_ok-check_lifted.ensures c.args.table.now s shows)))
    (index_found (Shows plain_entity c.lifted.new.table) c.args.table.now c.args.space.now.types.items s.types c.args.ty lifted_of c.lifted.result shows.types c.in_ok-ty.ty
    (rw (sym c.deref.ensures.value) c.in_ok-ty.ensures) c.lifted.ensures.found)
