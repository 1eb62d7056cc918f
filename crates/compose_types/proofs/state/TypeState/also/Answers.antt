use Rattle.std.proofs.Common.{◌∙◌, ap}
use Rattle.compose_writing.specs.WriteEntities.{write_also}
use Rattle.compose_types.proofs.state.TypeState.also.Goals as goal

pub returns-clause-reads_back : goal.returns-clause-reads_back
returns-clause-reads_back c = λ mean m k s one keeps stands means older.
    let w = c.another_number_is_known.ensures mean m k c.args.number c.args.from c.args.path s keeps stands means older in
    (w.0, c.in_ok-note_number.ensures.written ∙ ap (write_also c.args.number c.args.from c.args.path) one ∙ w.1, w.2)
