use Rattle.warg_complete.proofs.LearntLaws.{first-of}
use Rattle.warg_complete.proofs.SearchLaws.{found-same, own-search-refusal, undisturbed-refusal}
use Rattle.warg_complete.proofs.laws.proving_sessions_are_found.Goals as goal

pub returns-clause-learnt : goal.returns-clause-learnt
returns-clause-learnt g c accepts asker w known f parts done es old now s are =
    first-of g.L.Link.Steps accepts asker w c.one_part.ensures (record { first = c.given_replies_are_followed.ensures.first; rest = c.given_replies_are_followed.ensures.rest }) known f parts done es old now s are

pub returns-clause-found : goal.returns-clause-found
returns-clause-found g c accepts asker w known parts es other old new s found =
    found-same g.L.Link.Steps c.one_part.ensures (record { first = c.given_replies_are_followed.ensures.first; rest = c.given_replies_are_followed.ensures.rest }) accepts asker w known parts es other old new s found

pub returns-clause-refused : goal.returns-clause-refused
returns-clause-refused g c accepts asker w known parts es said e old new s bad =
    own-search-refusal g.L.Link.Steps c.one_part.ensures (record { first = c.given_replies_are_followed.ensures.first; rest = c.given_replies_are_followed.ensures.rest }) accepts asker w known parts es
    (record {
      asked = c.proving_exchanges_are_asked.ensures.asked;
      proved = c.proving_replies_are_taken.ensures.proved;
      downloaded = c.downloading_replies_are_taken.ensures.downloaded;
      shape = c.one_shape.ensures;
    })
    (record {
      refused = c.proving_replies_are_taken.ensures.refused;
      whole = c.downloading_replies_are_taken.ensures.whole;
      read = c.shapes_are_read.ensures;
    })
    said e old new s bad

pub returns-clause-undisturbed : goal.returns-clause-undisturbed
returns-clause-undisturbed g c accepts asker w known parts es said e old new s calm bad =
    undisturbed-refusal g.L.Link.Steps c.one_part.ensures (record { first = c.given_replies_are_followed.ensures.first; rest = c.given_replies_are_followed.ensures.rest }) accepts asker w known parts es
    (record {
      asked = c.proving_exchanges_are_asked.ensures.asked;
      proved = c.proving_replies_are_taken.ensures.proved;
      downloaded = c.downloading_replies_are_taken.ensures.downloaded;
      shape = c.one_shape.ensures;
    })
    (record {
      refused = c.proving_replies_are_taken.ensures.refused;
      whole = c.downloading_replies_are_taken.ensures.whole;
      read = c.shapes_are_read.ensures;
    })
    said e old new s calm bad
