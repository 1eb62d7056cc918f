use Rattle.compose_order.specs.Known.{left_tree}
use Rattle.compose_imports.proofs.LeftLaws.{begun_more}
use Rattle.compose_imports.proofs.begun.add_left.Goals as goal

pub returns-clause-written : goal.returns-clause-written
returns-clause-written c = λ ls h.
    begun_more c.args.begun.now (record { state = c.write_left.new.state; names = c.note_import.new.names }) ls
    (left_tree c.args.left.now) _ _ c.as_str.ensures h c.in_ok-index.ensures.written c.in_ok-index.ensures.imported
    c.in_ok-note_import.ensures
