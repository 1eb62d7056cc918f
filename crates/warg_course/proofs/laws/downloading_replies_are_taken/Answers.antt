use Rattle.warg_course.proofs.DownloadLaws.{own-fault, just-this}
use Rattle.warg_course.proofs.WholeLaws.{fault-whole}
use Rattle.warg_course.proofs.laws.downloading_replies_are_taken.Goals as goal

pub returns-clause-refused : goal.returns-clause-refused
returns-clause-refused g c = own-fault g.L.Link.Steps

pub returns-clause-whole : goal.returns-clause-whole
returns-clause-whole g c a digest ys bytes e begun now d given whole bad =
    own-fault g.L.Link.Steps a digest ys bytes e begun.link now.link d given (fault-whole g.L.Link.Steps a digest e begun now whole bad)

pub returns-clause-downloaded : goal.returns-clause-downloaded
returns-clause-downloaded g c = just-this g.L.Link.Steps
