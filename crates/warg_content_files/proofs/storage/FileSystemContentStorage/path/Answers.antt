-- A hash is a digest, which passes the test.
use Rattle.warg_content_files.proofs.DigestLaws.{digest_passes}
use Rattle.warg_content_files.proofs.storage.FileSystemContentStorage.path.Goals as goal

pub returns-clause-digest : goal.returns-clause-digest
returns-clause-digest g c = digest_passes c.args.digest.now c.bytes.ensures.form
