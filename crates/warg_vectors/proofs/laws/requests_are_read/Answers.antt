use Rattle.warg_vectors.proofs.BodyLaws.{page_read, inclusion_read, consistency_read}
use Rattle.warg_vectors.proofs.RequestLaws.{checkpoint-read, header-read, posted-read, sources-read, content-read}
use Rattle.warg_vectors.proofs.laws.requests_are_read.Goals as goal

pub returns-clause-checkpoint : goal.returns-clause-checkpoint
returns-clause-checkpoint c a at = checkpoint-read a at

pub returns-clause-of_registry : goal.returns-clause-of_registry
returns-clause-of_registry c a = header-read a.registry a.token

pub returns-clause-sources : goal.returns-clause-sources
returns-clause-sources c a digest at named = sources-read a digest at named

pub returns-clause-content : goal.returns-clause-content
returns-clause-content c digest named = content-read digest named

pub returns-clause-posted : goal.returns-clause-posted
returns-clause-posted c a path body = posted-read a.registry a.token path body

pub returns-clause-page : goal.returns-clause-page
returns-clause-page c a n operator packages at small named utf8 texts = page_read n small packages named texts a.base operator at utf8

pub returns-clause-inclusion : goal.returns-clause-inclusion
returns-clause-inclusion c a n leafs at small all_small = inclusion_read a.base n leafs at small all_small

pub returns-clause-consistency : goal.returns-clause-consistency
returns-clause-consistency c a old new at small_old small_new = consistency_read a.base old new at small_old small_new
