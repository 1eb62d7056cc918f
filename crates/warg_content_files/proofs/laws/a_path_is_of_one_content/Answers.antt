-- A path names one digest.
use Rattle.warg_content_files.proofs.DigestLaws.{digest_passes, one_digest}
use Rattle.warg_content_files.proofs.laws.a_path_is_of_one_content.Goals as goal

pub returns : goal.returns
returns c folder a b of_a of_b same = one_digest folder a b (digest_passes a of_a) (digest_passes b of_b) same
