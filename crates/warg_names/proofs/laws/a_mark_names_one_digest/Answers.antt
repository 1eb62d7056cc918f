use Rattle.std.proofs.Common.{ap, ◌∙◌}
use Rattle.warg_names.specs.Mark.{digest_marked}
use Rattle.warg_names.specs.MarkLaws.{digest_marked-again, digest_marked-sound}
use Rattle.warg_names.proofs.laws.a_mark_names_one_digest.Goals as goal

pub returns : goal.returns
returns c = λ mark digest. (digest_marked-sound mark digest, λ is. ap digest_marked is.1 ∙ digest_marked-again digest is.0)
