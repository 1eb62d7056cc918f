use Rattle.std.proofs.Common.{refl, ap, ◌∙◌}
use Rattle.compose_writing.specs.Scopes.{WrittenScope}
use Rattle.compose_types.specs.Bodies.{entries_for}
use Rattle.uses_composition.proofs.EmptyLaws.{with_import, described, imported, outermost_is, first_index}
use Rattle.uses_composition.proofs.types.import_empty.Goals as goal

pub entity-requires-clause-form : goal.entity-requires-clause-form
entity-requires-clause-form c = rw c.requires.empty tt

pub entity-requires-clause-known : goal.entity-requires-clause-known
entity-requires-clause-known c = rw c.requires.empty refl

pub import-requires-clause-form : goal.import-requires-clause-form
import-requires-clause-form c = rw c.requires.empty tt

pub returns-clause-written : goal.returns-clause-written
returns-clause-written c =
    let d = described _ _ _ _ c.requires.empty c.new-state.ensures c.in_ok-ty.ensures.written in
    c.into_builder.ensures
    ∙ ap (λ (m : WrittenScope). entries_for m.decls) (outermost_is c.import.new.self (with_import c.args.name.now) (imported c.args.name.now _ _ _ _ c.requires.empty d.0 d.1 c.in_ok-index.ensures.written))

pub returns-clause-index : goal.returns-clause-index
returns-clause-index c =
    let d = described _ _ _ _ c.requires.empty c.new-state.ensures c.in_ok-ty.ensures.written in
    first_index c.entity.new.state c.in_ok-ty.ty c.in_ok-index.index d.0 d.1 c.in_ok-index.ensures.index
