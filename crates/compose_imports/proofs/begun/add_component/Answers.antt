use Rattle.compose_imports.specs.Begun.{component_left}
use Rattle.compose_imports.proofs.LeftLaws.{begun_more}
use Rattle.compose_imports.proofs.begun.add_component.Goals as goal

pub returns-clause-written : goal.returns-clause-written
returns-clause-written c = λ ls h.
    begun_more c.args.begun.now (record { state = c.write_component.new.state; names = c.note_import.new.names }) ls
    (component_left c.args.component.now) _ _ c.name.ensures h c.in_ok-index.ensures.written c.in_ok-index.ensures.imported
    c.in_ok-note_import.ensures
