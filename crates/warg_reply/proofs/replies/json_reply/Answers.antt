use Rattle.std.proofs.Common.{◌≡◌, ◌∷◌, [], rules}
use Rattle.std.specs.Prelude.{string_bytes, codes}
use Rattle.std.proofs.lemmas.Str.{IsUtf8-string_bytes}
use Rattle.http_header.specs.FieldValue.{plain_value}
use Rattle.serde_json.specs.View.{view}
use Rattle.warg_reply.proofs.ReplyLaws.{body_read}
use Rattle.warg_reply.proofs.replies.json_reply.Goals as goal

pub returns-clause-body : goal.returns-clause-body
returns-clause-body c = λ shallow.
    let text = string_bytes c.in_ok-text.text in
    let headers : c.from_vec.result ≡ (codes "content-type", plain_value (codes "application/json")) ∷ [] = search rules in
    let body : c.from_vec-2.result ≡ string_bytes c.in_ok-text.text = search rules in
    rw (headers, body) (body_read c.args.status text (view c.args.body.now) (IsUtf8-string_bytes c.in_ok-text.text) (c.in_ok-text.ensures.reads_back shallow))
