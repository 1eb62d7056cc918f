use Rattle.warg_request.proofs.UploadLaws.{IsReadied}
use Rattle.warg_request.proofs.upload.upload_headers.Given as goal

abbrev pub invariant-loop-name : goal.invariant-loop-name
invariant-loop-name l = IsReadied l.headers.entries l.sent l.name-iterator
