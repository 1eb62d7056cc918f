-- What is written is UTF-8, and reads back.
use Rattle.std.proofs.Common.{Bool, cond, None, ap, ◌∙◌}
use Rattle.std.proofs.lemmas.Str.{is_utf8-from_IsUtf8}
use Rattle.serde_json.specs.Read.{read}
use Rattle.warg_publish_text.proofs.writing.lines.Goals as goal

pub returns-clause-reads : goal.returns-clause-reads
returns-clause-reads c shallow =
    let text = c.in_ok-to_vec_pretty.field-0.items in
    ap (λ (b : Bool). cond b (read text) None) (is_utf8-from_IsUtf8 text c.in_ok-to_vec_pretty.ensures.utf8) ∙ c.in_ok-to_vec_pretty.ensures.reads_back shallow
