use Rattle.std.proofs.Common.{subst}
use Rattle.std.specs.Prelude.{Some}
use Rattle.compose_fit.specs.Wires.{given_of}
use Rattle.compose_graph.specs.Graph.{given_entity}
use Rattle.compose_graph.specs.Loose.{IsEntryNumber, IsGivenNumber}
use Rattle.compose_graph.proofs.LooseLaws.{given_there, asked_there, shown_at}
use Rattle.compose_graph.proofs.loose.is_fit.Goals as goal

pub fits_loosely-requires-clause-given : goal.fits_loosely-requires-clause-given
fits_loosely-requires-clause-given c =
    let source = c.requires.source in
    given_there c.args.table.now c.in-Some.given (given_of source.0 c.args.export) (c.in-Some.ensures source.0 source.1.exports)

pub fits_loosely-requires-clause-asked : goal.fits_loosely-requires-clause-asked
fits_loosely-requires-clause-asked c =
    let target = c.requires.target in
    asked_there c.args.table.now c.in-Some-entry_number.asked target.0.imports c.args.import target.1.shown (c.in-Some-entry_number.ensures target.0.imports target.1.imports)

pub returns : goal.returns
returns c = λ s t given asked source target gives asks.
    c.in_ok-fits.ensures (given_entity given) asked.1
    (subst (IsGivenNumber c.args.table.now (Some c.in-Some.given)) gives (c.in-Some.ensures s source.exports))
    (subst (IsEntryNumber c.args.table.now (Some c.in-Some-entry_number.asked)) asks (c.in-Some-entry_number.ensures t.imports target.imports))
    (shown_at t.imports c.args.import asked target.shown asks)
