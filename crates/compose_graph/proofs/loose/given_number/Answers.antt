use Rattle.std.proofs.Common.{ap, sym, subst}
use Rattle.std.specs.Prelude.{slice_get}
use Rattle.compose_fit.specs.Wires.{given_of}
use Rattle.compose_graph.specs.Loose.{IsGivenNumber}
use Rattle.compose_graph.proofs.LooseLaws.{given_entry}
use Rattle.compose_graph.proofs.loose.given_number.Goals as goal

pub returns-in-Some : goal.returns-in-Some
returns-in-Some c = λ s stands.
    subst (IsGivenNumber c.args.table.now c.entry_number.result) (ap (given_of s) (sym c.in-Some.is))
    (given_entry c.args.table.now c.entry_number.result (slice_get s.exports c.in-Some.place) (c.entry_number.ensures s.exports stands))
