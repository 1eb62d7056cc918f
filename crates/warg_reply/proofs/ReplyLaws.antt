-- What replies say whose body is a JSON value.
use Rattle.std.proofs.Common.{◌≡◌, ◌≤◌, ◌∷◌, [], ℕ, List, refl}
use Rattle.std.specs.Prelude.{Result, Ok, Err, Some, IfOk, IsUtf8, codes}
use Rattle.std.proofs.lemmas.Str.{is_utf8-from_IsUtf8}
use Rattle.http_header.specs.FieldValue.{plain_value}
use Rattle.serde_json.specs.Data.{Data, depth}
use Rattle.serde_json.specs.Read.{read, max_depth}
use Rattle.warg_exchange.specs.Body.{Meaning}
use Rattle.warg_exchange.specs.Replies.{says, body_of, refusal_in, service_error_in}
use Rattle.warg_exchange.specs.declared.exchange.Reply.{Reply}
use Rattle.warg_exchange.specs.declared.service.ServiceError.{ServiceError}
use Rattle.warg_values.specs.declared.memory.Memory.{Memory}

-- a body that is called JSON, and is a value's text, gives the value
pub body_read : (status : ℕ) (text : List ℕ) (d : Data) → IsUtf8 text → read text ≡ Some d
    → body_of (record { status = status; headers = (codes "content-type", plain_value (codes "application/json")) ∷ []; body = text }) ≡ Ok d
body_read status text d utf8 is = rw (is_utf8-from_IsUtf8 text utf8, is) refl

-- a reply of success says what its body means
pub found : {X : Type 0} (f : Data → Meaning X) (r : Result Reply Memory) (d : Data) (x : X) → IfOk r (λ reply. reply.status ≡ 200)
    → IfOk r (λ reply. depth d ≤ max_depth → body_of reply ≡ Ok d) → depth d ≤ max_depth → f d ≡ Ok x → IfOk r (λ reply. says f reply ≡ Ok x)
found f (Ok reply) d x status body nests is = rw (status, body nests, is) refl
found f (Err e) d x status body nests is = tt

-- a body names the error that it means
pub refused : (r : Result Reply Memory) (d : Data) (error : ServiceError) → IfOk r (λ reply. depth d ≤ max_depth → body_of reply ≡ Ok d) → depth d ≤ max_depth
    → service_error_in d ≡ Ok error → IfOk r (λ reply. refusal_in reply ≡ Ok error)
refused (Ok reply) d error body nests is = rw (body nests, is) refl
refused (Err e) d error body nests is = tt
