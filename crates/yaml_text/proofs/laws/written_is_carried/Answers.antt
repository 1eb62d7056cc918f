use Rattle.yaml_text.proofs.Documents.{document_carried}
use Rattle.yaml_text.proofs.laws.written_is_carried.Goals as goal

pub returns : goal.returns
returns c value r deep = document_carried value r deep
