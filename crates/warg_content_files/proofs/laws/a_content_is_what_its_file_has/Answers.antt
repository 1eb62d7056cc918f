-- A digest passes the test.
use Rattle.std.proofs.Common.{refl}
use Rattle.warg_content_files.proofs.DigestLaws.{digest_passes}
use Rattle.warg_content_files.proofs.laws.a_content_is_what_its_file_has.Goals as goal

pub returns : goal.returns
returns c folder digest files is = rw (digest_passes digest is) refl
